-- Lemmas, in reading order.
mod Ends
mod TwoParts
mod FirstFiles
mod LastRows
mod Behind
mod Begins
mod Locs
