pub mod Solve
pub mod Walks
