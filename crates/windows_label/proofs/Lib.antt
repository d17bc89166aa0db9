-- The laws of labels that are handed in.
pub mod Ways
pub mod Theorems
