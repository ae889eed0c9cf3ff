mod Marking
mod ExpressionsAre
mod StatementsAre
