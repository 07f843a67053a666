pub mod Replays
pub mod Rounds
pub mod Shelves
pub mod Loads
pub mod ScriptAnswers
pub mod Printing
