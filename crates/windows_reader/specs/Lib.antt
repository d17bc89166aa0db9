-- What the reader of two windows takes and shows.
pub mod Parts
