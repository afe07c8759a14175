-- What is proved of the inspections and the steps.
pub mod Inspections
pub mod Frames
pub mod Demand3
pub mod Gateway
