-- What the contracts of `planner` say.
-- the promises of the two questions
pub mod Promise
