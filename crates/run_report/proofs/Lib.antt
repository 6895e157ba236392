mod Finds
mod Current
mod Settled
mod EndSteps
mod Wholes
mod Members
mod Counting
