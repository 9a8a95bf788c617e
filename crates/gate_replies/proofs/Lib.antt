-- Laws of replies as the program of the gate prints them.
-- numbers in several bytes: how many, and the next one
pub mod FieldLaws
-- whether bytes are as they came, one by one
pub mod FillLaws
-- the room behind texts that are put
pub mod BehindRoom
-- replies in full: what they write, and how long what they say is
pub mod FullReplies
-- how long the lines are of what the rules fix
pub mod FixedLines
-- what is written of a reply, reply by reply, and that it fits
pub mod FixedReplies
