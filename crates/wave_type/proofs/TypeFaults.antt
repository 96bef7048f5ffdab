pub mod TokenSteps
pub mod RefusedTokens
pub mod Completions
pub mod SpelledIsTaken
pub mod WholeTexts
