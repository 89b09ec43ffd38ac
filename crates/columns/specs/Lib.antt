pub mod Fill
pub mod NewColumn
