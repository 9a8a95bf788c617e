-- Splitting (document 01, step 4):
-- a relation along the branches; the child vertices; branches that hang at a vertex
pub mod Along
-- the one induction over branches by which the facts of parts and leftovers are proved
pub mod Rules
-- each edge as often in parts and leftover as in bunch and branches
pub mod Exact
-- parts weigh at least H and less than twice H, or at most 2 H - 2; less than H is left
pub mod Weights
-- how many parts there are, and that a component has no more trees than it needs
pub mod Number
-- parts and leftovers are connected
pub mod Connected
-- Growing (document 01, step 3):
-- which edges lead on from a vertex
pub mod Leads
-- edges that lead nowhere from a vertex may be left out
pub mod Filtered
-- what is grown from a vertex
pub mod Grown
-- once a vertex is grown, all that its edges lead to is passed
pub mod PassedAround
-- depth enough to pass every vertex that can be reached
pub mod Deep
-- the trees grown from all roots
pub mod Trees
-- a vertex listed as a root again gets no branches
pub mod Repeats
-- every vertex linked to a root is a root or a child
pub mod Reached
-- every edge of a forest stands in its trees exactly once
pub mod Once
-- no loop, from labels
pub mod Untied
-- the lowest vertices of the components reach every vertex
pub mod Lowest
-- Both together:
-- all facts of splitting one tree
pub mod SplitTree
-- no edge in two pieces of a forest
pub mod SplitForest
-- nothing is left out, of a rooted trial's forest and of an unrooted one's
pub mod Whole
-- For what is built on them:
-- the edges of a part rise
pub mod PartsRise
-- the root among the edges and the parts of its tree
pub mod RootHeld
