-- The theorems of labels through a card's history.
pub mod Written
pub mod Histories
