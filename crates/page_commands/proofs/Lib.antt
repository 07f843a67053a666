mod IoLaws
mod PageLaws
mod PageAnswerLaws
mod ConvertLaws
pub mod Laws
