pub mod Lending
pub mod SameDuals
pub mod Unpacked
