-- Lemmas on who is there: maps by text, a channel's clients and their users, counts of users, and ticks.
pub mod Texts
pub mod Rooms
pub mod Ticks
pub mod Lists
pub mod UserCounts
