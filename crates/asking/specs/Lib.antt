-- What the contracts of `asking` say.
-- a question about a graph, and what its steps ask
pub mod Asking
