pub mod Rows
pub mod Kept
pub mod Ranges
pub mod Units
pub mod Built
