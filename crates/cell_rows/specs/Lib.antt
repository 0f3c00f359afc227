pub mod CellRows
pub mod CellSpots
pub mod Threads
pub mod Serving
pub mod Journals
pub mod Reaches
pub mod NextRows
