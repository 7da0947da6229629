-- Entries byte by byte; lists one by one; what the calls answer; digits and half bytes; entries there and back; the claims, and figures.
pub mod EntryBytes
pub mod Listing
pub mod Answering
pub mod Digits
pub mod RoundTrips
pub mod ComesBack
pub mod Worked
