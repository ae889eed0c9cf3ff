pub mod RangesAre
