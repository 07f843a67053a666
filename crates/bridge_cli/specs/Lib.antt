pub mod Answers
pub mod CommandReads
pub mod CommandRuns
pub mod Printed
