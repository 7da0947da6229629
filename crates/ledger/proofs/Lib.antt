-- The third demand of every list, with the life of a channel that makes it true, and applied to a list that is reached.
pub mod Reached
pub mod Life
pub mod Leaves
pub mod Moves
pub mod Facts
pub mod ThirdDemand
pub mod Applied
