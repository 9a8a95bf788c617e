-- Laws that belong to no one function, in reading order.
-- the arcs of a vertex, relaxed one after the other
pub mod ArcsRelaxed
-- the start of a search
pub mod SearchStart
-- trails, followed edge by edge
pub mod Trails
-- the invariant of the search
pub mod SettledInvariant
-- the arcs of a vertex are its edges
pub mod ArcEdges
-- once the search is over, the arrays say the distances and the shortest paths
pub mod ArraysSayDistances
-- who waits and who is settled
pub mod WhoWaits
-- whoever is nearer gets a new key
pub mod ArcsRekeyed
-- the search, turn by turn
pub mod SearchTurns
-- the trail of the nearest vertex of a part is a shortest path to it
pub mod NearestPath
