pub mod Each
pub mod TypesAre
pub mod ExpressionsAre
pub mod StatementsAre
pub mod ItemsAre
pub mod NumbersAre
pub mod FunctionsAre
