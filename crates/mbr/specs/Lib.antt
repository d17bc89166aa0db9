-- The definitions that the contracts of `mbr` cite: the format by UEFI, then the calls by document 01.
pub mod Format
pub mod Parsing
pub mod Changing
pub mod Storing
pub mod MbrExamples
