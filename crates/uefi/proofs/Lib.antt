-- The laws of the second reading edition, and the two editions side by side.
pub mod Each
pub mod Ways
pub mod ArrayWays
pub mod Planned
pub mod Editions
pub mod Readings
