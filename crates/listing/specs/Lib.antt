-- What the calls of `listing` answer, and what their answers mean.
pub mod Listing
pub mod Meanings
pub mod LentRow
