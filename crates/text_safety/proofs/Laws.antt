-- The arguments: words and names, the tables of a text, lines that declare, lines that say something of terms, all lines.
pub mod Words
pub mod Tables
pub mod Good
pub mod Declared
pub mod Said
pub mod Lines
pub mod Texts
