pub mod WordMarks
