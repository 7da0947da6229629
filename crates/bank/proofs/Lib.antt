-- What collecting answers; commands and lines side by side; what the payments come to; figures.
pub mod Answering
pub mod Commands
pub mod Pairs
pub mod Storing
pub mod Sums
pub mod Worked
