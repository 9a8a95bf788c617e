-- What the contracts of `order` say, in reading order.
-- all edges by weight, then number
pub mod Order
