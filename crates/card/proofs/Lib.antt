-- The laws of the card's calls, for this crate and those above it.
pub mod LayWays
pub mod CopyLaws
pub mod ChangeWays
pub mod PayWays
pub mod Dropped
