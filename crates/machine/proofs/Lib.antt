-- The worked figures, the sentences that are easy to misread, the bound of the fee and what due says, with the laws that they cite.
pub mod Laws
pub mod Judging
pub mod Fees
pub mod Plans
pub mod RightTurns
pub mod WorkedFigures
pub mod DueSays
