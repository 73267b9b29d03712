pub mod Numbers
pub mod Forms
pub mod Reading
pub mod Answers
