-- What each stage of an update and of a repair stores, and what it answers.
pub mod Stages
pub mod Repairs
pub mod Stores
pub mod Numbers
pub mod Meanings
