pub mod Told
pub mod Rounds
pub mod Steps
