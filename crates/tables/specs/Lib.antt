-- The definitions of a card's two tables: where they stand, what they hold, and what the check asks of them.
pub mod Checks
pub mod Places
pub mod Lens
pub mod Entries
pub mod Headers
pub mod Check
pub mod Examples
