pub mod Memory
pub mod MemoryHost
pub mod Names
pub mod Opens
