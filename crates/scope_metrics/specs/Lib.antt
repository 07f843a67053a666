pub mod PageScopes
pub mod ScopeParts
pub mod Laws
