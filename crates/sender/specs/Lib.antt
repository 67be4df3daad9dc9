pub mod Memory
pub mod Acks
pub mod SenderCall
pub mod Sender
pub mod Burst
