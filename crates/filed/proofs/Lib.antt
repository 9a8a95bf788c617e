-- Laws that belong to no one function, in reading order.
-- vertices joined by parents
pub mod JoinedByParents
-- a run of entries, edge by edge
pub mod RunTests
-- the tests of the trees
pub mod TreeTests
-- the check, test by test
pub mod CheckSteps
