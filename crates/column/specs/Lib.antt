-- What the contracts of column cards cite.
pub mod Leading
pub mod Families
pub mod Passing
pub mod Serving
pub mod Building
pub mod Soundness
pub mod Travelling
pub mod Turning
