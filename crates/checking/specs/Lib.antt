-- What the leaves of the check say of entries in the order of their blocks. No public contract cites it.
pub mod Order
