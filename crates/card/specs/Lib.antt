pub mod Functions
pub mod Numbers
pub mod Netlists
pub mod Parts
pub mod Views
pub mod Alikes
