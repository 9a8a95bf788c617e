-- Laws that belong to no one function, in reading order.
-- relaxing one arc
pub mod OneArc
-- keys in blocks, and the least of each
pub mod KeyBlocks
