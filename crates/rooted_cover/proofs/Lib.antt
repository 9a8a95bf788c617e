-- Laws that belong to no one function, in reading order.
-- the edges kept for a root are those of its union's tree
pub mod RootUnion
-- the part that a root is assigned, and the path to it
pub mod AssignedPart
-- each root's tree may be made
pub mod RootTreesGiven
-- each part's path, with which the tree of its root was made
pub mod PartPaths
-- the trees made for the roots are those of the trial's cover
pub mod RootedChoices
-- a root's tree, put behind the trees before it
pub mod TreesPut
-- the trees of all roots, laid one after the other, are the trial's cover
pub mod CoverLaid
