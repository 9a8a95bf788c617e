-- Laws that belong to no one function, in reading order.
-- the components' trees are split as the rules say
pub mod ComponentsSplit
-- the steps of the trial without roots, put together
pub mod UnrootedAnswer
-- the chosen trees are the answer's
pub mod AnswerTrees
-- the answer and the decisions, from the whole forest
pub mod UnrootedDecided
