-- `Texts` has what a replay prints of kinds and answers, `Lengths` how long an answer is.
pub mod Lengths
pub mod Texts
