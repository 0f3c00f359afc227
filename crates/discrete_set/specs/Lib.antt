pub mod Numbers
pub mod Runs
pub mod Ranges
pub mod Counted
