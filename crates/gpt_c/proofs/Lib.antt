-- The laws of the answers that cross.
pub mod Laws
