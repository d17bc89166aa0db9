-- `Displays` has what a `Display` writes in a loop, `Streams` what follows of what readers give and writers hold from one call after another.
pub mod Displays
pub mod Streams
