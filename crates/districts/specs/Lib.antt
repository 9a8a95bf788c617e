-- What is printed of the replies to records of districts.
pub mod Text
