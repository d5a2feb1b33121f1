pub mod LengthReading
pub mod BundleLaws
pub mod OneList
pub mod Numbering
