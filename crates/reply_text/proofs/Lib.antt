-- Laws of the text of replies.
-- decimal digits: the last one and those before it, the number that they spell, no zero in front, and how many there are
pub mod Digits
-- texts put one behind the other, and the room that is left
pub mod Putting
-- lines, number by number
pub mod LineEnds
-- the lines of trees, part by part and tree by tree
pub mod TreeLines
-- how long texts are
pub mod TextLengths
-- a cover read from the buffer that it was written to
pub mod CoverRead
-- the text by a reply's number and values
pub mod SaidText
-- the text of a cover, from the buffer
pub mod CoverSaid
-- which replies can be printed
pub mod PrintableReplies
