-- The definitions that the contracts of `guid_text` cite.
pub mod Hex
pub mod GuidTexts
pub mod Examples
