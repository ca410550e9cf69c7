-- Lemmas on what a run says.
mod SaidPieces
mod Spoken
mod Outcomes
mod Answered
