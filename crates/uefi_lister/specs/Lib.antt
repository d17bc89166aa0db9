-- `Texts` has what `uefi_lister` prints of a name.
pub mod Texts
