pub mod QuotedApart
