-- What a program reads, and what it ends with.
pub mod Field
pub mod Input
pub mod Status
