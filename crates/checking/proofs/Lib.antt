-- The ways out of the card check, for this crate and those above it.
pub mod CheckWays
pub mod OrderLaws
