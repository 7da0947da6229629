-- Document 01, "Journal and due list": the run, the list of commands that a journal divides into, and calls one after the other.
pub mod Runs
pub mod Continued
pub mod Divided
pub mod Calls
