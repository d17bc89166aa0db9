-- The laws of labels and of judged sets, for this crate and those above it.
pub mod Ways
pub mod JudgeWays
pub mod SetLaws
pub mod Numbers
pub mod Shows
pub mod Theorems
