-- The definitions that the contracts of `names` cite.
pub mod Utf8
pub mod NameTexts
pub mod Examples
