-- Laws that belong to no one function, in reading order.
-- marks, and how many vertices have none
pub mod Unvisited
-- no mark is set at first
pub mod NoMarks
-- the walk of a child list, arc by arc
pub mod ChildWalked
-- the arcs of a vertex, lent as a part of all arcs
pub mod ArcsLent
-- the walk of a child list, under way
pub mod WalkUnderway
-- splitting over arcs is splitting by the rules
pub mod SplitAsRules
-- the pieces as one list: one tree more, and the parts and leftovers by number
pub mod PiecesOf
-- the roots, one after the other
pub mod RootsSplit
-- before the first root, and all roots done: what is promised
pub mod ForestSplit
-- the numbers of parts and leftovers are below that of all pieces
pub mod NumbersBelow
-- for callers: the parts and the leftovers by number
pub mod ByNumber
