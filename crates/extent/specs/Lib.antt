pub mod Extent
pub mod Room
