-- Integer mathematics over the library's ℤ and its orders. Definitions: Every, All, First, Lists, Below, Filled, Decimal. Examples shows how the
-- rest is used.
pub mod Every
pub mod All
pub mod First
pub mod Lists
pub mod Below
pub mod Filled
pub mod Decimal
pub mod Ring
pub mod Polynomial
pub mod Identity
pub mod Order
pub mod Certificate
pub mod Linear
pub mod Division
pub mod Sign
pub mod Size
pub mod AllLaws
pub mod FirstLaws
pub mod Tests
pub mod ListLaws
pub mod FilledLaws
pub mod Runs
pub mod DecimalLaws
pub mod Lex
pub mod Examples
