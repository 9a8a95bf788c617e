-- What the contracts of `edges` say, in reading order.
-- edges within a limit
pub mod Light
-- marks set where a test holds
pub mod Marked
-- edges by rising number
pub mod Sweep
-- the edges around each vertex
pub mod Around
-- the edges around each vertex, as they are put
pub mod PutAround
