-- Both ends of one connection, over the definitions that the contracts of either cite.
pub mod Sides
pub mod InOrder
pub mod Link
pub mod BothEnds
pub mod Needed
pub mod Instances
