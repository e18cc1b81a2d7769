-- What a turn leads to.
mod Turned
