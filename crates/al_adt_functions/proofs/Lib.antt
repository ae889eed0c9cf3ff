pub mod FunctionsAre
