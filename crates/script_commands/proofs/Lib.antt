mod ScriptAnswerLaws
mod ReplayLaws
mod ShownLaws
mod VisitLaws
mod TalkLaws
mod TurnLaws
mod EndLaws
mod ShelfLaws
mod ScriptLaws
pub mod Laws
