pub mod Inspect
pub mod Steps
