-- Laws that belong to no one function, in reading order.
-- a word of bits, made bit by bit
pub mod BitsMade
-- the words of the vertices, root by root
pub mod NearWords
-- the bits of a word that joins two
pub mod BitsLaws
-- marking the parts, under way
pub mod PartsMarking
-- the bits of a word as a row of bytes, and such rows one after the other
pub mod RowBits
-- the word of a tree, joined vertex by vertex, and the words of several trees
pub mod HeldWords
