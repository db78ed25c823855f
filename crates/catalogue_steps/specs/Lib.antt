-- The steps of reading as code: words, an entry while it is read and a step (Words to Readings), the definition's states as the code holds them, and
-- that a step has room and is the definition's (States to Held).
pub mod Words
pub mod Rows
pub mod Forms
pub mod Parts
pub mod Shown
pub mod Readings
pub mod States
pub mod Room
pub mod Cells
pub mod Held
