-- What the contracts of `deficient` say.
-- the parts of a deficient set, written
pub mod TooLowParts
