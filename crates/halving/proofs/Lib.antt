-- Lemmas on halving cards.
mod Sizes
mod Sheets
mod Single
mod Forces
mod Numbers
mod Orders
mod Parts
mod Routing
mod Trying
mod Crossing
mod Choosing
mod Search
