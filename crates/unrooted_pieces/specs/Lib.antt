-- What the contracts of `unrooted_pieces` say, in reading order.
-- the pieces of the components as trees
pub mod Components
-- the numbers of an answer's trees among the pieces
pub mod TreePlaces
