-- Laws that belong to no one function, in reading order.
-- room for large graphs is room for smaller ones
pub mod Rooms
-- what is known of crews of either kind, once everything is prepared
pub mod CrewsKnown
-- questions about a graph, answered
pub mod Answering
