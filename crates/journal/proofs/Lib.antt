-- A run by its turns, how far it goes, and with more lines; journals and calls as lists of commands; the loop of the run.
pub mod Turning
pub mod Bounds
pub mod Continued
pub mod Journals
pub mod Called
pub mod CallsReached
pub mod Running
