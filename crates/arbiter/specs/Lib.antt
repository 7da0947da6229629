-- What the code's results say.
pub mod Openings
pub mod Next
