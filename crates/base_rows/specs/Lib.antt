pub mod Adding
pub mod BaseRows
pub mod KeyLines
pub mod Journals
pub mod Reaches
pub mod BaseSpots
