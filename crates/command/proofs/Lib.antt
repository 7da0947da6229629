-- What a sound book tells, and the step in the parts that the code takes.
pub mod SoundBook
pub mod Stepping
