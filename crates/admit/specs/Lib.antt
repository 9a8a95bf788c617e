-- What the contracts of `admit` say, in reading order.
-- the number of each cause
pub mod Refusals
-- a list that the code lends, and the test of the weights by class
pub mod Brought
-- the question that the code's values ask, and its crews
pub mod Crews
