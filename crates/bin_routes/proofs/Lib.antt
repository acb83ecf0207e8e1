mod Maps
mod Rows
mod Payers
