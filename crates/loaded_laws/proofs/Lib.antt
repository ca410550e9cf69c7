mod Shifts
mod Orders
mod Counts
mod Relocated
mod Bytes
mod CodeBytes
