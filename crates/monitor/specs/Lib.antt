pub mod Zone
pub mod ZoneLaws
pub mod Step
pub mod Take
pub mod Calls
pub mod Reading
pub mod Zones
pub mod ZonesLaws
