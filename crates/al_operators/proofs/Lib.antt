pub mod FormatsAre
