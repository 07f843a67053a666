pub mod Emitters
pub mod Printing
