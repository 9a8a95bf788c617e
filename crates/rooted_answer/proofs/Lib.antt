-- Laws that belong to no one function, in reading order.
-- arrays of zeros have room for the parts of every trial
pub mod PartsReady
-- as those that are lent have
pub mod ArraysLent
-- the three answers of a rooted trial
pub mod RootedAnswers
-- placed parts may be answered, and what is written is the answer
pub mod PlacedAnswered
