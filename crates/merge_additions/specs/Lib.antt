-- Reading an addition as code: what it hands out (Additions), a word more (Turns), the loop over the words (Stages, Progress), the rows around it (Judged).
pub mod Additions
pub mod Turns
pub mod Stages
pub mod Progress
pub mod Judged
