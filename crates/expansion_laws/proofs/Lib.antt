-- Lemmas, a file for each subject.
mod Elements
mod Texts
mod Lines
mod Arguments
mod Blocks
mod Heads
mod Handed
