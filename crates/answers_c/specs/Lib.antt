-- The definitions that the contracts of the answers for C cite.
pub mod Crossing
