-- The laws of windows: the whole image that they stand for, and the ways out of the calls.
pub mod Whole
pub mod Ways
