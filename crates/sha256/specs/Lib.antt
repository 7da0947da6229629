-- SHA-256 as FIPS 180-4 defines it, for messages of whole bytes; what a hash under way has taken in; what `hash` answers.
pub mod Padding
pub mod Digest
pub mod State
pub mod Answer
pub mod Examples
