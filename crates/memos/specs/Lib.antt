pub mod Diagrams
pub mod Questions
pub mod Notes
pub mod Noting
pub mod Short
pub mod Halves
pub mod Arranged
pub mod Keeping
