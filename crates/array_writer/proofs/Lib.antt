mod Holding
mod Arrays
