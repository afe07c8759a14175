pub mod Assurance
