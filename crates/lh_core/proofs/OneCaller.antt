-- A file with one caller
pub mod Alone
pub mod Serving
