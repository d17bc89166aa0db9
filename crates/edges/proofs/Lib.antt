-- What the test of the cases at the edges says.
pub mod Laws
