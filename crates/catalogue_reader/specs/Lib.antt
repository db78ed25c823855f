-- Reading a file as code: the loop over the words (Store, Progress), the rows after reading and the whole file (Ended to Whole).
pub mod Store
pub mod Progress
pub mod Ended
pub mod Opening
pub mod Whole
