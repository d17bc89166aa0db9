-- The laws of the reader on windows.
pub mod Ways
pub mod LentRow
pub mod Handed
