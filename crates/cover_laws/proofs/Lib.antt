-- The check of a filed cover says yes exactly to covers; and the closed walks along a cover's trees. In reading order.
-- Bytes and trees:
-- entries as pairs, and the edges of each tree
pub mod Entries
-- entries that rise are those of the trees they group into
pub mod RisingEntries
-- what reading makes of the bytes
pub mod Reading
-- what is written is read again
pub mod Writing
-- what is read is written again
pub mod WrittenAgain
-- The tests:
-- the starts (32)
pub mod StartTest
-- the entries (33)
pub mod EntryTest
-- loops (34)
pub mod LoopTest
-- trees (34)
pub mod TreeTest
-- vertices (35)
pub mod VertexTest
-- the five tests together
pub mod PassedTests
-- How large a cover is:
-- a cover fits the buffer
pub mod CoverSize
-- The theorem:
-- the check says yes exactly to covers
pub mod CheckedCovers
-- the question of the check, from bytes
pub mod CheckQuestion
-- Closed walks along a tree (document 02, A.1):
-- a turn, by its cases, and what every turn keeps
pub mod Turns
-- the next edge at a stop
pub mod NextEdge
-- what holds after any number of turns
pub mod TurnsReached
-- the walk along a tree: closed, each edge twice and no other, twice as long as the tree is heavy
pub mod ClosedWalk
-- the rule allows one crossing at a time
pub mod OneCrossing
-- the walk along a tree goes by the rule, and no other closed walk does
pub mod OnlyWalk
