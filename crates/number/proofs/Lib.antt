pub mod NumberLaws
pub mod NumberReading
pub mod Puts
