-- Laws that the proofs of several functions cite, and those of the step count and of the leaf that is handed back.
pub mod Laws
pub mod Climbing
pub mod Forms
pub mod Made
pub mod StepLaw
pub mod LeafLaw
