mod PlaceLaws
mod PageWords
mod WordLaws
mod ReplayWords
mod CommandLaws
mod AnswerLaws
mod StatusLaws
mod StopLaws
pub mod Laws
