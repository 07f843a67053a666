mod Cases
pub mod Laws
pub mod Verdicts
pub mod NoneLaws
pub mod AnswerSteps
pub mod CodeSteps
pub mod KeyLaws
pub mod RightLaws
pub mod ScrapedLaws
