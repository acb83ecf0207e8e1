pub mod KnownInput
pub mod KnownOutput
pub mod OpenedWorlds
