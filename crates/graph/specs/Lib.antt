-- The graph and its bytes, in reading order.
-- a graph: its vertices and edges
pub mod Graph
-- weights by the class of an edge's surface
pub mod Surface
-- the bytes, field by field, and the graph that they spell
pub mod Bytes
-- numbers of refusal, tried one after the other
pub mod Fault
-- what a valid graph is, and when bytes are one
pub mod Valid
-- what a view of the bytes says
pub mod View
-- what the graph's struct holds
pub mod Held
