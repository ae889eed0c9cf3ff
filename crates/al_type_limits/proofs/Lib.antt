mod Each
mod TypesAre
mod ExpressionsAre
mod StatementsAre
mod ItemsAre
