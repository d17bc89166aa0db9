-- The definitions that the contracts of `text_c` cite.
pub mod Exports
