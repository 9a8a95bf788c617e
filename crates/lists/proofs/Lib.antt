-- Laws of the list vocabulary, in reading order.
-- Elements, and a list from a place on:
-- standing in a list
pub mod Member
-- lists in which each element stands in a relation to all that follow: sorted, rising, without repeats
pub mod InOrder
-- an element in the middle of a list
pub mod Middle
-- a list cut at an element in two ways
pub mod Cuts
-- a list gone through element by element
pub mod TakeDrop
-- segments of a list
pub mod Slices
-- a list from a place on, and from the next place on
pub mod NextPlace
-- what holds after one store, and after marks set one by one
pub mod AfterStore
-- Tests and sums over a list:
-- the tests `all`, `&&` and `||`
pub mod Every
-- tests that say yes in the same cases
pub mod SameYes
-- a test as a number
pub mod OneOrZero
-- tests that say the same
pub mod SameTests
-- some element of two lists passes a test
pub mod AnyOn
-- filters of a list that no element or every one passes, of two lists, of a mapped list
pub mod Filters
-- a test that the front of a list passes
pub mod FilteredFront
-- the first element that passes a test
pub mod First
-- sums over appended, filtered and contained lists
pub mod Sums
-- sums and lengths compared value by value
pub mod SumsAlike
-- a sum over what is left of a list
pub mod SumLeft
-- lengths compared
pub mod Lengths
-- one more element at the end of a list
pub mod OneMore
-- the list without a number
pub mod Without
-- the sum without a number
pub mod SumWithout
-- sums against a bound
pub mod Bounds
-- elements that each pass at most one of several tests
pub mod Shares
-- the largest value over a list
pub mod Largest
-- lists made for each element and joined
pub mod FlatMap
-- lists made for each element from its place, and joined
pub mod EachPlace
-- The numbers below a bound, and the places of a list:
-- the numbers below a bound
pub mod Below
-- lists written place by place along a run of numbers
pub mod Runs
-- what stands at a place, and the place of what stands in a list
pub mod Places
-- the first element of a list
pub mod FirstElement
-- what stands in a part of a list stands at a place of it
pub mod SlicePlaces
-- values at the numbers below a bound, one more at a time
pub mod Numbered
-- the least of a list is one of it
pub mod LeastOf
-- numbers sent to others, no two to one, are no more than those others
pub mod Pigeonhole
-- a test that passes fewer numbers counts less
pub mod Fewer
-- a test over all numbers below a bound
pub mod AllBelow
-- some number below a bound passes a test
pub mod AnyBelow
-- numbers that pass one of two tests, and numbers that pass both
pub mod EitherBoth
-- one of a kind for each number below a bound
pub mod EachChosen
-- lists made for the chosen numbers below a bound, and joined
pub mod Chosen
-- sums over numbers that are dealt to places
pub mod Dealt
-- Sorting:
-- sorting keeps the elements and the sum, and puts them in order
pub mod Sorting
-- how often a number stands in a list
pub mod Times
-- lists in which every number stands equally often
pub mod SameTimes
-- a list in order is the only one
pub mod OneOrder
-- elements with different images
pub mod Images
-- numbers sorted are picked out of all numbers below a bound
pub mod Risen
-- Lists in arrays:
-- how long segments are
pub mod SegmentSizes
-- an array of zeros
pub mod Zeros
-- a list put into an array: what stands before, in and behind it; one list behind the other
pub mod Put
-- a list put into an array element by element
pub mod PutOneByOne
-- what stands before a list that was put, and the list as a segment
pub mod PutSlice
-- elements and parts of an array that a list was put into
pub mod PutPlaces
-- a mapped list put element by element
pub mod PutMapped
-- only the first elements of an array changed
pub mod OnlyFirst
-- values stored one after the other
pub mod SetUpTo
-- insertion in place
pub mod InsertInPlace
-- running sums in place
pub mod RunningSums
-- Several lists in one array:
-- several lists in one array: one more bound adds one more list
pub mod Segments
-- a segment as code takes it
pub mod SegmentTaken
-- every element up to the last bound stands in a segment
pub mod SegmentOf
-- buckets, item by item
pub mod Buckets
-- items counted, and the counts summed up
pub mod BucketCounts
-- what filling gives
pub mod BucketFilling
-- numbers put into buckets: the same numbers, by bucket
pub mod BucketOrder
-- numbers counted and put one after the other
pub mod BucketsOfNumbers
