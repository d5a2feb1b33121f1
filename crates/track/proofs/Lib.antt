pub mod RecordLaws
pub mod TrackLaws
pub mod ListPacking
pub mod NumberPacking
pub mod Walks
