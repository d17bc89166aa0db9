-- The laws of the stages on windows.
pub mod Ways
