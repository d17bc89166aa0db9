-- The laws of the free ground.
pub mod RunLaws
pub mod SearchLaws
pub mod Few
pub mod FillLaws
pub mod Ways
pub mod Counting
pub mod Theorems
pub mod Single
