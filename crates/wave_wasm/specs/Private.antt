pub mod TypeText
