pub mod Reading
pub mod Writing
pub mod Promised
pub mod Stepping
pub mod Tables
pub mod Trips
pub mod UnionsRefused
pub mod MovedOver
