-- What is found lies within the message; what arrivals and parts come to.
pub mod Within
pub mod Parts
