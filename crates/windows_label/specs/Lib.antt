-- Labels of a card by two windows, handed in.
pub mod Handed
