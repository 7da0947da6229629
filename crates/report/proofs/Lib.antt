-- Lines; texts in a buffer; the run of a part; runs as text; the parts joined; printing them.
pub mod Examples
pub mod LineTexts
pub mod Buffers
pub mod Going
pub mod RunTexts
pub mod Joined
pub mod Ahead
