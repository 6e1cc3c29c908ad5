-- Small images, and what the definitions compute of them
pub mod Samples
pub mod Rows
pub mod WrittenRows
