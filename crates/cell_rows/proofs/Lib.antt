pub mod TurnLemmas
pub mod MemberLemmas
pub mod OneGone
pub mod KeyLemmas
pub mod WindowLines
pub mod Embedding
pub mod ThreadCells
pub mod Apart
pub mod CellLines
pub mod Placed
pub mod PutLemmas
pub mod DropLemmas
pub mod Walks
mod Examples
pub mod LineDrops
