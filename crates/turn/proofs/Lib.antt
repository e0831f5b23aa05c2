-- What the functions that turn a slip rely on.
pub mod Turning
