mod ByBytes
mod Keeping
mod MapLaws
mod Order
mod Search
mod Storing
