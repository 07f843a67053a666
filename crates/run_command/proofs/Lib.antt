mod Files
mod Left
mod RunAnswerLaws
pub mod Laws
