-- The ways out of the reader's functions, and the laws of its list in a lent row.
pub mod Ways
pub mod LentRow
