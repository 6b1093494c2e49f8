pub mod OriginZips
pub mod AddedOrigins
pub mod JoinedOrigins
