pub mod Each
pub mod FirstsAre
pub mod ShadowsAre
pub mod TypesAre
pub mod BoundsAre
pub mod ExpressionsAre
pub mod StatementsAre
pub mod ItemsAre
