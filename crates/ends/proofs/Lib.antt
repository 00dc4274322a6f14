-- The proofs about both ends.
pub mod Flight
pub mod Greeting
pub mod Aboard
pub mod Ashore
pub mod Reports
pub mod InOrder
pub mod Courses
pub mod OnWire
pub mod Onward
pub mod AtShore
pub mod AtShip
pub mod BothEnds
pub mod JustOpen
pub mod OneMeeting
pub mod Needed
pub mod Instances
