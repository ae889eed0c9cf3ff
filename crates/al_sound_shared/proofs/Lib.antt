mod Ways
mod ExpressionWays
mod StatementWays
pub mod SharedAre
