-- The laws of the stages' functions.
pub mod Places
pub mod Leads
pub mod Ways
