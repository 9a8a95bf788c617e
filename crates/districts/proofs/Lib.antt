-- Laws of what is printed of the replies to records of districts.
-- what is written of replies and of the check's answers, and that it fits
pub mod DistrictReplies
-- replies of the planner can be printed
pub mod Asked
