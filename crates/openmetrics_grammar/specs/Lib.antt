pub mod LabelLists
pub mod Tokens
pub mod Samples
pub mod Descriptors
