-- What the proofs of the functions share, in reading order.
-- a deficient set admits no assignment
pub mod AssignmentLaws
-- the test for an assignment says whether one exists
pub mod AssignableLaws
-- sets of parts that have no more allowed roots than parts, or fewer
pub mod TightSets
-- where the test finds none, some set of parts has too few roots
pub mod Hall
-- what is known of an input that is not refused
pub mod Accepted
-- the search for an augmenting path, turn by turn
pub mod Searching
-- the exchange along a path, turn by turn
pub mod Exchanging
-- what the two ends of a search come to
pub mod Outcome
-- the promise of `assign`
pub mod Promised
