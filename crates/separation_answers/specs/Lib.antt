-- What each case of the answer says, and that this fixes the answer.
pub mod Said
pub mod Laws
