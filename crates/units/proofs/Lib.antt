-- The laws of the definitions, for this crate and those above it: of lists and stores, of numbers in bytes, of the GUID, of checks in their order, and of the way out of a `?`.
pub mod Lists
pub mod Laws
pub mod Chains
pub mod Results
pub mod GuidLaws
