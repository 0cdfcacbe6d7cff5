pub mod Form
pub mod Outcomes
pub mod Summaries
pub mod Asking
pub mod CommandLines
