pub mod Checked
pub mod VerdictLines
pub mod Answers
pub mod Describing
pub mod Trees
pub mod Verdicts
