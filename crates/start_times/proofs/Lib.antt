pub mod Advance
mod Cases
pub mod FewRows
pub mod Filling
pub mod Found
pub mod KeptRows
pub mod KeyOrder
pub mod Laws
pub mod Missed
pub mod Nothing
pub mod PlainLaws
pub mod RowLaws
pub mod Sights
pub mod Stays
pub mod Times
pub mod Whole
pub mod Zips
