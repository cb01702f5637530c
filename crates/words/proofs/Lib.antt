mod Bounds
mod Turns
mod Widths
