-- The calls on two windows, as values.
pub mod Calls
