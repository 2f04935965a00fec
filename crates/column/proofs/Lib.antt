-- Lemmas on column cards.
pub mod FamiliesLead
mod Stepping
mod Seeking
mod Tabled
