pub mod MarksAre
pub mod TargetsAre
pub mod FlowIs
