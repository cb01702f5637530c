mod Buffers
mod Steps
