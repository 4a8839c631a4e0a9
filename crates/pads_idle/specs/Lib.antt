pub mod Idle
pub mod LiteralArgs
