-- What the contracts of `rooted_decide` say.
-- what saying "no cover" and deciding a limit ask
pub mod Decide
