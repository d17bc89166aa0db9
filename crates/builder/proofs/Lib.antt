-- The laws of the header builder, for this crate's proofs.
pub mod Laws
