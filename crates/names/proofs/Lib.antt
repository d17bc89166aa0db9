-- The laws of the definitions of `names`.
pub mod Ways
pub mod Sizes
pub mod Runs
pub mod Back
pub mod Decoded
pub mod RoundTrip
