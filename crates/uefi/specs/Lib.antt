-- The definitions that the contracts of `uefi` cite: the second reading edition, by UEFI and by document 02, 9/13.
pub mod Sizes
pub mod Reading
pub mod Array
