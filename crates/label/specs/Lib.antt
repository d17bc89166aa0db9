-- The definitions that the contracts of `label` cite, and what its theorems say of a judged set.
pub mod Labels
pub mod Calls
pub mod Judging
pub mod Meanings
pub mod Sets
