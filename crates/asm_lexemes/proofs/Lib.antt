mod ClassTable
mod Lexing
