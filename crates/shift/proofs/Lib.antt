mod Turns
mod Passes
