pub mod Grammar
pub mod Names
pub mod Stages
pub mod Trees
pub mod Parts
pub mod Calls
pub mod Lines
