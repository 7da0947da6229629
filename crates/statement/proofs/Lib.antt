-- Bytes that are read to a place, and what they say of all the bytes that a reader had.
mod Taking
