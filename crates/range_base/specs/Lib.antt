pub mod Rows
pub mod Edits
pub mod Reads
pub mod Ends
pub mod Spans
