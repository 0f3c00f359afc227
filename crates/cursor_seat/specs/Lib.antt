pub mod Dropped
pub mod Stands
pub mod Seats
pub mod Lives
pub mod Later
