-- Laws that belong to no one function, in reading order.
-- where rows of one length stand
pub mod RowPlaces
-- a row put into its place
pub mod RowsPut
-- the nearest of vertices looked at one after the other
pub mod NearestSoFar
-- the rows of distances and of last edges, root by root
pub mod RowsFilled
-- the path marked for a part is a shortest one
pub mod RootPath
-- roots at one vertex have the same rows of distances
pub mod SameRows
