pub mod Quotes
pub mod Utf8
pub mod Cutting
pub mod Tables
pub mod LineFaults
pub mod NoLabels
pub mod LineHeads
pub mod Laws
