pub mod Relist
