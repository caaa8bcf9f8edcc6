-- Stores into a message: the state they make of it, and what their code promises.
pub mod State
pub mod Stores
pub mod Storing
pub mod Octets
