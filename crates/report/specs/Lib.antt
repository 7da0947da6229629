-- Document 01, "Journal and due list": the text of a statement, and the parts that it is printed in.
pub mod Lines
pub mod Statement
pub mod Examples
pub mod Parts
