-- The definitions that the contracts of the exports cite.
-- Assumes nothing.
pub mod Exports
