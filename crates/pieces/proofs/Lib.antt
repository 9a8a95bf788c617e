-- Laws that belong to no one function, in reading order.
-- edges joined one by one
pub mod EdgesJoined
-- the forest of the whole graph
pub mod WholeForest
-- sorting by images, and by an array of keys
pub mod SortedImages
-- lists laid one after the other into one array
pub mod LaidLists
