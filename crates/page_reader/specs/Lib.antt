pub mod AnyReading
