-- What the trials and the search find, in reading order.
-- Rooted:
-- a cover with every tree within a limit is made of edges within it, by trees that start at the roots
pub mod RootedWithin
-- "too low, stop v": every cover has a tree above the limit
pub mod RootedStop
-- the parts of a rooted trial, and what is left at each root
pub mod RootedPieces
-- who covers a vertex of a part within the limit starts at a root that the part may go to
pub mod RootedNear
-- "too low, parts T, yards D": every cover has a tree above the limit
pub mod RootedParts
-- each part with the shortest path to it hangs at its root, and how heavy both are
pub mod RootedAssigned
-- the union of which a tree is made: it hangs at the root, holds the root's part and leftover, and weighs at most 4 B - 2
pub mod RootedUnion
-- an accepted limit: the trees are a cover, the heaviest at most 4 B - 2
pub mod RootedCover
-- of several roots at one vertex the first has what is left there (document 02, A.5)
pub mod SharedVertex
-- each leaf edge stands in exactly one tree of the answer
pub mod RootedServed
-- one forest serves all limits: where every vertex is joined, the forest is the whole one
pub mod RootedPrepared
-- how many edges and parts there are
pub mod RootedSize
-- Unrooted, the components at a limit:
-- which of the forest's edges a component's tree holds
pub mod ComponentEdges
-- what the components need, from the labels and the forest
pub mod ComponentNeeds
-- the same, over the vertices that are their own label
pub mod OwnLabels
-- Unrooted, too low:
-- a cover within the limit has in each component as many trees as it needs
pub mod ComponentShare
-- where the components need more than k trees, every cover by k has a tree above the limit
pub mod UnrootedTooLow
-- Unrooted, accepted:
-- the trees of a component: its parts and its leftover, made of the forest's edges and started anew
pub mod ComponentTrees
-- how many trees the answer has
pub mod UnrootedNumber
-- a tree may start at its lowest vertex, and those of the answer do
pub mod UnrootedStart
-- the answer's trees are trees, of at most 4 B - 2
pub mod UnrootedTrees
-- where the components need at most k trees, the answer is a cover by k, of at most 4 B - 2
pub mod UnrootedCover
-- each leaf edge within the limit stands in exactly one tree of the answer, and no tree starts at the leaf
pub mod UnrootedServed
-- Both kinds:
-- a leaf edge above the limit: where no tree starts at the leaf, every cover has a tree above the limit
pub mod Unserved
-- What the answers mean (document 01, "A trial at limit B" and "The best limit"):
-- the two facts of a trial on which the rest stands
pub mod TrialBounds
-- they hold for either kind
pub mod BothKinds
-- good choices exist at every limit
pub mod SomeChoices
-- the search between a refused and an accepted limit
pub mod SearchSteps
-- where it begins: the sum of all weights is accepted
pub mod FirstBounds
-- the trials that it makes, stopped after some (document 02, A.6)
pub mod TrialsMade
-- what is known after them; where they are not spent, high is the best limit, and at most every cover's heaviest
pub mod FewTrials
-- limit 0 is accepted exactly where weightless edges join every vertex to a root, or into at most k components (document 02, A.4)
pub mod ZeroLimit
-- a limit above the sum of all weights is accepted where "no cover" is not said
pub mod AboveSum
-- "no cover" is said exactly where none exists
pub mod NoCover
-- our longest closed walk is at most eight times anybody's (document 02, A.1)
pub mod Eightfold
-- what the replies mean
pub mod Replies
