-- The theory of the solver's walk.
pub mod Sums
pub mod Settled
pub mod Steps
pub mod Taken
pub mod Stored
