pub mod Slots
pub mod Stacks
pub mod Shown
pub mod Label
pub mod Target
pub mod Ask
pub mod Build
pub mod Move
