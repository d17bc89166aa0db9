-- The theorem of head and tail.
pub mod AsImage
