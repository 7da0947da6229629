-- Document 02, No. 6: payments, entries in packed decimal, what writing and reading answer, and what holds of them together.
pub mod Payments
pub mod Packed
pub mod Answers
pub mod BankLines
pub mod Figures
