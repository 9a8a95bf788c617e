-- Laws that belong to no one function, in reading order.
-- what the labels of edges show of the components
pub mod ComponentsLabelled
-- sums over the numbers below a bound
pub mod SumsBelow
-- the weights of the components by their labels
pub mod ComponentWeights
-- what one merge makes of the components' weights
pub mod MergedWeights
-- the history of merges, one merge after the other
pub mod MergeHistory
-- what a merge's note changes in the arrays
pub mod NotedPlaces
-- the history tells what the components need
pub mod HistoryNeeds
-- the history of the whole forest, edge by edge
pub mod HistoryRecorded
-- what the components need, merge by merge
pub mod HistoryRead
-- the whole forest without roots, its fronts and its history
pub mod WholeForest
