-- What the contracts of `distance_table` say, in reading order.
-- the distances from all roots in one table, and the last edges, root by root
pub mod Tabled
-- their rows, filled
pub mod Table
-- the vertex of a part that is nearest to a root
pub mod Nearest
