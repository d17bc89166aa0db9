-- The laws of the slot map.
pub mod BitLaws
pub mod Carry
pub mod Again
pub mod Ways
pub mod Single
pub mod Dropped
