pub mod Walks
pub mod Reads
pub mod Tests
pub mod ListLookUps
pub mod LookUps
