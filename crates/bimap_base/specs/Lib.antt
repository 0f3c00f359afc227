pub mod Pairs
pub mod PairRows
