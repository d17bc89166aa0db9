-- What the free ground of two windows is.
pub mod Ground
