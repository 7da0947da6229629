-- Document 01 as definitions, as document 02 changes it: the command format, the book, the checks, the opening, the fee, the rules, the machine; the worked figures.
pub mod Format
pub mod Book
pub mod Due
pub mod Answered
pub mod Checks
pub mod Opening
pub mod Fee
pub mod Rules
pub mod Machine
pub mod Outcomes
pub mod Real
pub mod WrongTurns
pub mod Figures
