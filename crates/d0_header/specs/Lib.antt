pub mod Field
pub mod Request
pub mod RequestFields
pub mod Response
pub mod ResponseFields
pub mod Date
