pub mod TreePairs
