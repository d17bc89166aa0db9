-- The definitions that the contracts of the exports cite.
pub mod CardExports
pub mod Windows
