pub mod CountLemmas
pub mod OccurrenceLemmas
