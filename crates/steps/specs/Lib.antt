-- What the contracts of `steps` say, in reading order.
-- the trees as a list of steps
pub mod Steps
-- the parts in one pass, each by whether a test holds at one of its vertices, and their number
pub mod Touched
-- growing what hangs below a vertex as steps, over arcs
pub mod StepsBelow
-- what writing the steps and counting the parts promise
pub mod StepsPut
