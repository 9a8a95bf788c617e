-- Laws that belong to no one function, in reading order.
-- the parts are counted
pub mod PartsCounted
-- and to which roots each may go
pub mod PartsNear
