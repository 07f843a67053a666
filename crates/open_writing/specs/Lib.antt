pub mod Writing
pub mod FamilyKeys
pub mod Forms
pub mod OpenForms
pub mod Pieces
