mod JsonParts
mod Others
