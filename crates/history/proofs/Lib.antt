-- The laws of a card through any calls, demand 3, and what trainees get wrong.
pub mod State
pub mod Changes
pub mod Payload
pub mod Records
pub mod Steps
pub mod Readers
pub mod Others
pub mod Listings
pub mod Overlaps
pub mod Demand
pub mod Corollaries
