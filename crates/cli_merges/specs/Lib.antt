-- The commands of a merge, and what is answered to them: Commands, Digits, Answers and Replies define it, Room says how long it can be, the others
-- are laws.
pub mod Commands
pub mod Digits
pub mod Answers
pub mod Replies
pub mod Room
pub mod Gives
pub mod Same
pub mod DigitLaws
pub mod Prefix
pub mod Kept
