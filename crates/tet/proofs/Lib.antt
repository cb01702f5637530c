mod Bytes
mod Chains
mod Ends
mod Hashes
mod Steps
