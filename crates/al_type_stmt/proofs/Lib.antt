mod StatementsAre
mod IteratorsAre
mod Gathering
mod EachOf
