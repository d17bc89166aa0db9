-- Two images that agree on their tables, and the calls that cannot tell them apart.
pub mod Agree
pub mod Calls
