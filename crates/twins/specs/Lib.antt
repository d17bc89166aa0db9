-- The set of numbers by which the code finds twins. No public call's contract cites it.
pub mod Marks
