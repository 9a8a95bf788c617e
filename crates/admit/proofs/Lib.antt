-- Laws that belong to no one function, in reading order.
-- where crew j starts
pub mod Roots
-- the tests of the crews' number and of the list of their roots
pub mod CrewTests
-- what each test of a question makes of what is refused
pub mod Tested
-- the number of every cause is at least 11
pub mod RefusalNumbers
