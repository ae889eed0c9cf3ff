-- What an image promises of its program, for crates above this one: they list this crate alone.
pub use Rattle.rv_meant.specs.Meant.{IsCompilable, RunsAlike}
