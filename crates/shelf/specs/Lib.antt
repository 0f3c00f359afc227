pub mod Feed
pub mod Headline
pub mod Scripts
pub mod Transcript
pub mod WordsView
