pub mod GrammarToTree
pub mod TreeToGrammar
pub mod Params
pub mod ParamsInTurn
