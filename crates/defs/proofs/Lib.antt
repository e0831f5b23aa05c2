-- The rows worked by hand, proved of the definitions.
pub mod Search
pub mod HandWorked
