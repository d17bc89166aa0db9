-- The laws of listing windows.
pub mod Ways
