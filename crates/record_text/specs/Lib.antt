pub mod Words
pub mod Replies
pub mod Answers
pub mod Text
pub mod Numbers
