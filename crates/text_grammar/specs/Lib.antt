pub mod LabelReading
pub mod LineReading
