mod Bytes
mod Directory
mod Granted
mod Opened
mod Stand
pub mod Whole
mod Written
