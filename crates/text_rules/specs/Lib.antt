-- A catalogue as text: the text of its entries, the words that a text tells, and why the text of a catalogue tells its words.
pub mod Text
pub mod Encoding
pub mod Examples
pub mod DecimalBack
pub mod NumberBack
pub mod PartBack
pub mod LineBack
pub mod LinesBack
pub mod RoundTrip
