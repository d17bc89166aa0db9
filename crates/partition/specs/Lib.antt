-- The definitions that the contracts of `partition` cite: the format by UEFI, then the calls by document 01.
pub mod Flags
pub mod Format
pub mod Held
pub mod Lengths
pub mod Device
pub mod Array
pub mod Meanings
pub mod FlagExamples
pub mod PartitionExamples
