pub mod Cuts
pub mod Marks
pub mod LabelReading
pub mod LineReading
pub mod LineHeads
pub mod LineRooms
