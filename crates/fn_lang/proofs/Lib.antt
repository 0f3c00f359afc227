pub mod TreeLaws
pub mod LeafLaws
pub mod StackLaws
pub mod PartLaws
pub mod FoundLaws
pub mod AgainLaws
pub mod ReadingLaws
pub mod FlatLaws
