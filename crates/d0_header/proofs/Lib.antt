pub mod Cutting
mod Bytes
mod Passing
mod Calendar
mod RequestLemmas
mod ResponseLemmas
