pub mod Records
pub mod Tracks
pub mod Stepping
pub mod Words
