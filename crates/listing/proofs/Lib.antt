-- The ways out of the listing's calls, and that the ways of asking agree.
pub mod Scans
pub mod Ways
pub mod Agree
pub mod LentRow
