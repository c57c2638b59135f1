pub mod Forms
pub mod Tokens
pub mod Faults
pub mod Scanner
pub mod Lexing
pub mod Cursors
