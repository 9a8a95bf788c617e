-- Theorems on the labels, the order of the edges and the forest, in reading order.
-- labels after merging: the finest that join the edges
pub mod Merging
-- equal labels mean a walk
pub mod Walks
-- the roots' common label means a walk from a root
pub mod Roots
-- the lowest vertex joined to no root
pub mod Unjoined
-- what the kept edges join
pub mod Keeping
-- the edge that first joins two vertices can be exchanged for one between them
pub mod Exchange
-- the kept edges are the lightest that join as much
pub mod Lightest
-- a part of the kept edges is no heavier than what can replace it
pub mod Replacing
-- no kept edge lies on a loop
pub mod Loops
-- labels are vertices
pub mod VertexLabels
-- the kept edges are fewer than the starts to which their ends are joined
pub mod FewKept
-- the kept edges, edges without a loop, and the forest's are fewer than the vertices
pub mod FewForest
-- all edges by weight, then number
pub mod Ordering
-- the edges within a limit, and which kept edges are among them
pub mod Limit
-- the theorems, of the forest at a limit
pub mod Forest
-- the kept edges of any list, by weight
pub mod Thinning
-- a tree made of any edges that hang together
pub mod UnionTree
-- a leaf edge is never skipped
pub mod LeafKept
