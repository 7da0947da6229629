-- Laws of the calendar, of the next open day and of lists of dates.
pub mod Counting
pub mod NextDay
pub mod Listing
pub mod Worked
