-- What a reader sees of a card that was pulled between two stages.
pub mod Readers
pub mod Cuts
pub mod Repairs
pub mod Between
pub mod Standing
pub mod Images
pub mod Stores
pub mod Events
pub mod Corollaries
pub mod Numbers
