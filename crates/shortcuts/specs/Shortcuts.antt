-- Quick ways of reading a row. They promise no more than `Records` says.
pub mod Short
pub mod Bytes
