-- Documents 01 and 02 as definitions, in their order.
-- "Sheet and cover bytes":
-- walks along edges
pub mod Walk
-- trees, covers and the heaviest tree: what the demands speak of
pub mod Cover
-- the bytes of a cover
pub mod CoverBytes
-- "A trial at limit B":
-- steps 1 and 2: the order of the edges
pub mod Order
-- step 2: labels that say which vertices are joined
pub mod Labels
-- step 2: the forest, and the lowest vertex joined to no root
pub mod Forest
-- step 3: the forest's trees, grown from their roots
pub mod Grow
-- step 4: parts and leftovers
pub mod Split
-- step 5: distances
pub mod Distance
-- the replies
pub mod Reply
-- steps 1 to 6: the rooted trial
pub mod RootedTrial
-- steps 1 to 4 and 7: the unrooted trial
pub mod UnrootedTrial
-- "The best limit":
pub mod Search
-- the same search, stopped after some trials (document 02, "A.6 A limit before the phone call ends")
pub mod FewTrials
-- "Who causes which number":
-- the check of a filed cover
pub mod CheckCover
-- the questions, from bytes to replies
pub mod Questions
-- what the check of a filed cover is to find out
pub mod Filed
-- "Small districts": the starred rows
pub mod Districts
-- Document 02, "A.1 Closed walks":
-- the closed walk along a tree
pub mod ClosedWalk
-- the same walk by document 02's sentences
pub mod WalkRule
-- anybody's closed walks that together come to every vertex
pub mod RivalWalks
-- the question of the walk, from bytes to its reply
pub mod WalkQuestion
-- the walks along small trees
pub mod WalkExamples
-- Document 02, "A.3 Surfaces" (the weight by class stands in the crate `graph`):
-- small sheets with class lists
pub mod SurfaceExamples
-- Document 02, "A.4 Gates of no length":
-- what weightless edges join
pub mod Weightless
-- small sheets with weightless edges
pub mod GateExamples
-- Document 02, "A.5 Two vans at one yard" (the roots by a list and 55 stand in Questions):
-- small sheets with lists of vans
pub mod VanExamples
-- Document 02, "A.6 A limit before the phone call ends" (the search stands behind Search, 56 in Questions):
-- few trials on small sheets
pub mod TrialExamples
-- Besides the documents, what promises cite:
-- trees as arrays hold them
pub mod Held
-- crews that fit, and choices that are good
pub mod Fit
