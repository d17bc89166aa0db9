-- `Texts` has what `cases` prints of refusals and records.
pub mod Texts
