-- The definitions that the contracts of `lent_demo` cite.
pub mod Marked
pub mod Texts
