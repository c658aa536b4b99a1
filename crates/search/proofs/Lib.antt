-- Laws that belong to no one function.
mod Bound
mod Above
