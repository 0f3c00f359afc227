pub mod Ordered
pub mod Sorted
pub mod SortedLaws
pub mod TwoKeys
pub mod Groups
