-- The theory of the graph's equations that rests on other laws of it.
pub mod Arrivals
pub mod Edges
pub mod Solutions
pub mod Rounds
pub mod Results
pub mod Tables
pub mod Gateway
pub mod Backwards
