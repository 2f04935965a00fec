pub mod Faults
pub mod Words
pub mod Meaning
pub mod Settling
pub mod Placing
pub mod Plans
pub mod PlanPairs
