-- Two windows of a card, and what the calls on them answer and leave.
pub mod Windows
