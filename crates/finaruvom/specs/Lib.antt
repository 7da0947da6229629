-- What a C program sees of due and of the library's version.
pub mod Fields
pub mod Release
