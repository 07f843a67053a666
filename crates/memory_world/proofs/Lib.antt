pub mod FileLaws
pub mod PairLaws
pub mod DoorLaws
pub mod WorldLaws
