pub mod PairCuts
pub mod TurnedLemmas
pub mod PutSteps
pub mod Holders
