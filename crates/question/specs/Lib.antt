-- What the contracts of the program's question cite, in reading order.
-- whom the question is for, and what is promised of the text
pub mod Question
