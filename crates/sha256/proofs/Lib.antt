-- Laws that the proofs of several functions cite, and the published examples.
pub mod Laws
pub mod Feeding
pub mod Ending
pub mod Single
pub mod Behind
pub mod Examples
