-- The walks of functions over a lent struct.
pub mod Lent
pub mod Lending
pub mod LendingDated
pub mod LendingTwo
pub mod Looking
