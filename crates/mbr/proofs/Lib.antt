-- The laws of the MBR's bytes, for this crate and those above it.
pub mod Laws
