pub mod Answering
mod Supplied
