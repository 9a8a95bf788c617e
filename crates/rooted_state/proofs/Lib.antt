-- The laws of it that more than one crate cites, in reading order.
-- the roots and the distances from them
pub mod RootsReady
-- what the whole forest says of a limit
pub mod LimitDecided
-- a root is near a part where it is within the limit of one of its vertices
pub mod NearMeansMayGo
-- assignments by tests that agree, and none for more parts than roots
pub mod AssignmentsAlike
-- the parts by the places of their pieces
pub mod PlacedPieces
