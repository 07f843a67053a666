pub mod PageAnswers
pub mod PageInputs
pub mod CheckTexts
pub mod ConvertTexts
pub mod PageTexts
