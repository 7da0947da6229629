-- Numbers in bytes, parts of a byte string, and whether two are equal.
pub mod Numbers
pub mod Parts
