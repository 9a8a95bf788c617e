-- What the contracts of `rooted_parts` say, in reading order.
-- the roots near each vertex and each part, as bits
pub mod Near
-- what placing the parts asks, step by step
pub mod Parts
