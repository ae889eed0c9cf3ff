pub mod FaultsAre
pub mod ArraysAre
pub mod MembersAre
pub mod SizesAre
