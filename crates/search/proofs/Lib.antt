pub mod Standing
pub mod Trying
pub mod Limits
pub mod Carried
