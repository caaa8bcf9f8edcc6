-- What the readers of numbers promise, and the law over the width; the sizes of the coding, products with a width, and stores.
pub mod Numbers
pub mod Sizes
pub mod Products
pub mod Stores
