pub mod Accepted
mod Serving
mod Rekeys
pub mod Shown
