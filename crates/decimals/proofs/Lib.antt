-- Numbers as text; rows of them.
pub mod Numerals
pub mod Rows
