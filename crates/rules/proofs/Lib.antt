-- Laws of document 01's definitions that the theorems of the crates above share.
-- walks and linked vertices
pub mod Linked
-- what an edge joins; edges that are linked to a vertex: those of a walk, those of a tree
pub mod Joined
-- leaf edges: the only edge at one of its ends
pub mod Leaf
-- how often an edge stands in trees
pub mod EntryTimes
-- the far end of an edge
pub mod FarEnd
-- the stops of a walk
pub mod WalkStops
-- the vertices listed for a tree are those that it covers
pub mod TreeVertices
-- fields of two bytes, written and read
pub mod Fields
-- the graph's bytes are not refused exactly where they are a graph's
pub mod SheetRight
-- weights by class are not refused exactly where none is too large; without a class list a question is as it was
pub mod Surfaces
-- the list 0 to k - 1 of vans gives the replies without a list
pub mod Vans
-- crews that are not refused are 1 to 32, and fit the graph
pub mod CrewsRight
-- a question that is not refused is about a valid graph and fitting crews
pub mod Admitted
-- document 01's numbers begin at 11
pub mod FaultNumbers
-- the choices of the starred rows are allowed ones
pub mod DistrictChoices
