-- SHA-256 on one block, as FIPS 180-4 defines it.
pub mod Functions
pub mod Constants
pub mod Block
pub mod Ring
