-- Document 02, No. 6: what is collected from a run, what is left of it, and what the payments come to.
pub mod Collected
pub mod Answers
pub mod Left
pub mod AddsUp
pub mod Figures
