-- Laws that belong to no one function, in reading order.
-- passes by digit order the edges
pub mod DigitPasses
-- numbers moved until they are in order are the rising list
pub mod OneRise
