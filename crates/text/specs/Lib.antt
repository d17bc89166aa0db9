-- The definitions that the contracts of `text` cite.
pub mod Digits
pub mod Ranges
pub mod Texts
