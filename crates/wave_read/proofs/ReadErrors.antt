pub mod RejectedValues
