-- What the contracts of `filed_entries` say, in reading order.
-- marked vertices
pub mod Vertices
