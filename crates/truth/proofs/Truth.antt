-- Laws of tests and searches that rest on others of them.
pub mod Tests
pub mod Searches
