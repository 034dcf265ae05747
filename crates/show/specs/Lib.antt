-- What the test programs' rule lists are.
pub mod Lists
