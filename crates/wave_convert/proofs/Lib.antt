pub mod IntoValue
