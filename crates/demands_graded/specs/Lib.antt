pub mod Grades
pub mod GradedRules
pub mod GradedVerdict
pub mod GradedAllOnes
