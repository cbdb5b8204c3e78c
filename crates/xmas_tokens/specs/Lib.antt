pub mod Lexemes
pub mod Lexer
pub mod Lexical
pub mod Parts
pub mod Tokens
