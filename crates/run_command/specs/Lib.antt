pub mod ConfigFiles
pub mod RunReports
pub mod RunAnswers
