pub mod MatchedKinds
