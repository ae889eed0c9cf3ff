pub mod GlobalsAre
pub mod InitializersAre
pub mod NumbersAre
pub mod PartsAre
pub mod RulesAre
pub mod StartsAre
