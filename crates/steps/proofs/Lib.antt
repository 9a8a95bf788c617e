-- Laws that belong to no one function, in reading order.
-- no mark is lost, and nothing is left to be grown
pub mod StepsMark
-- at which parts a test holds, and at which edges
pub mod PartTouched
-- one step of the pass, by the way it goes; the parts only grow along it
pub mod SweepWays
-- the pass under way: nothing left that is heavy, and the rest of the pass gives the answer
pub mod SweepUnderway
-- one step of the pass settles a child's piece
pub mod StepSwept
-- one pass over the steps tells the parts below a vertex
pub mod StepsSwept
-- so the parts of all trees are told
pub mod TreesSwept
-- the vertices of the steps
pub mod StepsInside
-- the child-list walk that writes the steps below a vertex, under way
pub mod StepsUnderway
-- writing the steps of all trees, under way; one pass tells their parts, and so counts them
pub mod TreesUnderway
-- counting the parts, under way
pub mod PartsCounting
