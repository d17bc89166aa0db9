-- `Texts` has what `replay` says.
pub mod Texts
