-- The laws of the definitions of `guid_text`.
pub mod Laws
pub mod Back
