-- The definitions that the contracts of `builder` cite, by document 01.
pub mod Building
