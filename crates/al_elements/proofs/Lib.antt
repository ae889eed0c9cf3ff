pub mod ElementsAre
