-- Laws of the program's question.
-- the planner's answers are the rules', and can be printed
pub mod KnownAnswers
-- known and unknown questions
pub mod Asked
