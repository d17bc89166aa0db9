-- The laws of the definitions of `message`.
pub mod Laws
