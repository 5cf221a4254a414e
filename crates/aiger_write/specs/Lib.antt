pub mod WriteTold
