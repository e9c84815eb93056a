pub mod Faults
pub mod Fields
pub mod StepLines
pub mod Script
pub mod Memory
pub mod WellFormed
pub mod Running
pub mod Threads
