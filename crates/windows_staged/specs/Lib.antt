-- The stages of put, clear and repair on two windows.
pub mod Stages
