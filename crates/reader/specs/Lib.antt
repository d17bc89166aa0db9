-- What the reader shows, and what its answers mean.
pub mod Reader
pub mod Meanings
