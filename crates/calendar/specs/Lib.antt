-- The Gregorian calendar, shut days, and lists of dates.
pub mod Calendar
pub mod Days
pub mod Lists
pub mod Figures
