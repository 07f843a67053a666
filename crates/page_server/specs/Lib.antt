pub mod RequestHeads
pub mod Serving
pub mod ServingLaws
