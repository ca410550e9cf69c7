-- Lemmas, a file for each subject.
mod Bits
mod Listing
mod Quiet
mod Worked
mod Names
