pub mod Kinds
pub mod Numbered
pub mod Items
pub mod Bundles
pub mod Words
