mod Places
mod Returning
