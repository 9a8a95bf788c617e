-- Laws that belong to no one function.
-- what is ready where everything is
pub mod AllReady
