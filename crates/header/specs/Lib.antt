-- The definitions that the contracts of `header` cite: the format by UEFI, then the calls by document 01.
pub mod Format
pub mod Reading
pub mod Writing
