pub mod BitList
