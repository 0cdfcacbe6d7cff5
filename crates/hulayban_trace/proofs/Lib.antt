-- Lemmas about the check of a trace.
pub mod Checked
