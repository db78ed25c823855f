-- Laws as they had landed, before a request restated them: of the reader (Room, Store, Progress), and of fold, separation and listing (OfBytes).
-- Nothing cites them.
pub mod Room
pub mod Store
pub mod Progress
pub mod OfBytes
