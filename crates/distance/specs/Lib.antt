-- What the contracts of `distance` say, in reading order.
-- the last edges of paths, followed back to the root
pub mod Trail
-- what the two arrays say of a graph
pub mod Shortest
-- the start of a search
pub mod Start
-- relaxing the arcs of a vertex
pub mod Relaxing
