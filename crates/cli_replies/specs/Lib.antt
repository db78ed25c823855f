-- A line and what is answered to it: the definitions in Reply and Replies, laws in Told.
pub mod Reply
pub mod Replies
pub mod Told
pub mod Room
