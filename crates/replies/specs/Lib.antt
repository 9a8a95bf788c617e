-- What the contracts of `replies` say.
-- what a reply says, and what it leaves in the buffer
pub mod Replies
