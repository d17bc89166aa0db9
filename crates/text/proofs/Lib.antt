-- The laws of the definitions of `text`.
pub mod Laws
