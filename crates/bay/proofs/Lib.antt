pub mod Slots
pub mod Bays
pub mod Building
pub mod Scanning
pub mod Carrying
pub mod Moving
