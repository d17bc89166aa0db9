-- The laws of two writers on one card.
pub mod Stores
pub mod Blind
pub mod Writers
