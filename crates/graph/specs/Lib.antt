pub mod Graph
pub mod Refusals
pub mod Judge
pub mod Lent
