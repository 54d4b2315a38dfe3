pub mod Grades
pub mod Reading
pub mod Hearing
pub mod Speech
pub mod Ranges
pub mod Spending
pub mod Figures
pub mod Discipline
