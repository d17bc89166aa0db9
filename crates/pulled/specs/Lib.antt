-- The life of a card with cuts in it, and what a reader lists of it.
pub mod Shows
pub mod Life
