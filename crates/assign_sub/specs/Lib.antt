pub mod LeastLengths
