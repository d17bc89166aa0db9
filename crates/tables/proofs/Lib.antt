-- The laws of the tables' definitions, for this crate and those above it.
pub mod Orders
pub mod Room
pub mod LensLaws
pub mod EntryLaws
pub mod Builder
pub mod HeaderLaws
pub mod Good
pub mod ReadCheck
pub mod RoomWays
pub mod Copies
pub mod Differ
pub mod Dropped
