pub mod HandedPair
