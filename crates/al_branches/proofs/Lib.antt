pub mod StatementsAre
pub mod CountsAre
pub mod NumbersAre
pub mod FirstsAre
pub mod TablesAre
pub mod Ranks
pub mod Ranges
pub mod Once
