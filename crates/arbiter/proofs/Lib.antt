-- What an opening takes of its id and of its dates, and what fails the plain one.
pub mod Openings
pub mod PlainOpening
pub mod GivenDates
