pub mod NumbersAre
