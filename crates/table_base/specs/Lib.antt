pub mod Cells
pub mod Spots
pub mod CellNodes
pub mod Seeking
pub mod TreeCells
