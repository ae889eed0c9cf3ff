mod ExpressionsAre
mod Gathering
mod SizesAre
mod StatementsAre
