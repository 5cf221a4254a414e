pub mod PinMap
