pub mod Certificates
pub mod Texts
pub mod Places
pub mod Stretches
