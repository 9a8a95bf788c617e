-- Laws that belong to no one function, in reading order.
-- labels in an array
pub mod Labelling
-- edges taken one by one, and kept where their ends are apart
pub mod KeptOneByOne
-- the lowest vertices, as loops over the vertices find them
pub mod LowestVertices
-- eight marks as one word, and marks passed eight at a time
pub mod EightMarks
