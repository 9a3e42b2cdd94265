pub mod Every
pub mod Bits
pub mod Bytes
pub mod Sets
