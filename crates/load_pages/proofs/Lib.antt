pub mod LoadLaws
mod Cases
