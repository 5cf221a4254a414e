pub mod PartForm
