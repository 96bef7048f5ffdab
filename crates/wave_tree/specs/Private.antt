pub mod ParsedNodes
pub mod ParserState
pub mod NodeDisplay
pub mod UntypedCall
pub mod CallEncoding
pub mod UntypedEncoding
pub mod SyntaxErrors
pub mod TokenRoles
