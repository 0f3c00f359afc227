pub mod Sides
pub mod NamedEdges
pub mod Networks
pub mod Faults
pub mod Held
pub mod Shown
pub mod Beside
pub mod ShownLaws
