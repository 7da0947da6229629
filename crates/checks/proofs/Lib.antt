-- Laws of the checks as the code makes them, and of the signed message.
pub mod Asking
pub mod Message
