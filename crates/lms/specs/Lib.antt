-- The signature check of RFC 8554 at document 01's one parameter set: LMS type 6 (SHA-256, height 10) over LM-OTS type 4 (w = 8, 34 chains).
pub mod Layout
pub mod Rows
pub mod OneTime
pub mod Begun
pub mod Walked
pub mod Tree
pub mod Check
pub mod Steps
pub mod Leaves
