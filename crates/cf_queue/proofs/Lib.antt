-- Lemmas on when a queue is slow for a text.
pub mod Slow
