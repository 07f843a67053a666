mod Infos
mod BarePages
mod SeriesPages
pub mod Laws
