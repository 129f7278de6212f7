-- Shared: other crates cite these.
pub mod Tests
pub mod Numbers
pub mod Options
pub mod Results
pub mod Lists
