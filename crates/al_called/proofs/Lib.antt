mod Each
mod ExpressionsAre
mod StatementsAre
mod ItemsAre
