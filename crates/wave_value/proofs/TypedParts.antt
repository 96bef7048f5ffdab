pub mod ValuesFit
pub mod RecordsFit
pub mod RecordsInTurn
pub mod FlagsInTurn
