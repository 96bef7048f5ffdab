pub mod Meaning
pub mod ValuesFromTokens
pub mod TypedTexts
pub mod Calls
pub mod UntypedValues
pub mod UntypedAgreement
