pub mod Answers
pub mod Arguments
pub mod Kinds
pub mod Phases
pub mod Settimes
pub mod StepTables
