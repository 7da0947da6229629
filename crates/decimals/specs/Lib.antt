-- Document 01, "Journal and due list": numbers in a row, as text.
pub mod Numbers
