-- Theorems on the distances, in reading order.
-- the nearer of two distances, and a distance with an edge added
pub mod Nearer
-- what relaxing the edges makes of a vertex's distance
pub mod Relaxing
-- the value of a vertex at each round
pub mod Rounds
-- each value is the weight of a walk
pub mod Reaching
-- no value is above the weight of a walk of so few edges
pub mod Bounding
-- walks through vertices that pass a test, and the last visit of a vertex
pub mod Touring
-- every walk can be shortened to a path, of fewer edges than there are vertices
pub mod Shortening
-- the distances are the least weights of walks
pub mod Least
-- the test whether a part is near
pub mod NearPart
-- a shortest path to a part that is near
pub mod Shortest
-- a linked vertex is within the edges' weight
pub mod Within
-- a covered vertex is within its tree's weight
pub mod Covered
-- what a path weighs, turned round, and at most
pub mod PathWeights
-- a shortest path to the nearest vertex of a part
pub mod NearestVertex
-- a shortest path has no leaf edge
pub mod LeafPath
