-- The part of a step that the code takes on the clock alone.
pub mod Parts
