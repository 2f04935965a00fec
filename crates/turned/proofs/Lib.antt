-- Lemmas on turned cards.
mod Carrying
mod Inverting
mod Refusals
mod Sheets
