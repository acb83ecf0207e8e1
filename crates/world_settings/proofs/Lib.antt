mod Arrays
mod Taken
mod Caps
