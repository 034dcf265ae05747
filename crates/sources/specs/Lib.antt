-- The definitions and laws of the sources.
pub mod Sources
pub mod Marks
pub mod MarksLaws
pub mod Grouping
pub mod SourcesLaws
pub mod GroupingLaws
pub mod ListLaws
pub mod Stops
pub mod StopsLaws
pub mod AlikeZones
pub mod AlikeZonesLaws
pub mod ListSourcesLaws
