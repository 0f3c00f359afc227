pub mod Thread
pub mod Places
pub mod Group
pub mod LinkedMap
pub mod LastRow
pub mod Moving
