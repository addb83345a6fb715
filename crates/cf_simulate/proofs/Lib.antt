-- Lemmas on a schedule that is read line by line, carried out and written, and on why what is written is safe.
pub mod Reading
pub mod Writing
pub mod Steps
pub mod Safety
