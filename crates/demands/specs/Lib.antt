-- The three demands on one page, with the orders of the refusals and what a refusal leaves.
pub mod Order
pub mod TextOrder
pub mod Kept
pub mod KeptLaws
pub mod TwiceInNine
pub mod TenGivenLaws
pub mod TenGiven
