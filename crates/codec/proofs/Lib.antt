pub mod FieldsBack
pub mod FieldsOnly
pub mod CodecLaws
pub mod Loops
