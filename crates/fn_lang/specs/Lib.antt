pub mod Trees
pub mod PartTrees
pub mod Meaning
pub mod Flat
pub mod Grammar
pub mod Reading
