pub mod ValuesLemmas
