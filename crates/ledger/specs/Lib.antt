-- The mission's third demand: its words and the claim.
pub mod Ledger
