-- `Cutting` has what the sum of bytes that are cut needs.
pub mod Cutting
