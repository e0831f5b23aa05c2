-- What the steps of decode say.
pub mod Search
