-- What a read adds to the bytes read so far.
pub mod Taking
