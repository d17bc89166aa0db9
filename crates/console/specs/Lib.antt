-- `Answers` says what the answers of this crate promise.
pub mod Answers
