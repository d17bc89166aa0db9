-- The definitions that the contracts of `units` cite, and the one shape of every promise of the library.
pub mod Answer
pub mod Bytes
pub mod Refusals
pub mod Places
pub mod Numbers
pub mod Guids
pub mod Held
pub mod Meanings
pub mod Examples
