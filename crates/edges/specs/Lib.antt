-- Document 01's cases at the edges.
pub mod Table
