-- The laws of headers, for this crate's proofs and for those of the crates above it.
pub mod Laws
pub mod Ways
