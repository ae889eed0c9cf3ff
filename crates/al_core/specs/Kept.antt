-- How a world is kept.
use Rattle.std.specs.Prelude.{◌≤◌, vec_capacity}
use Rattle.al_core.specs.declared.world.World.TheInside.{Inside}
use Rattle.al_core.specs.History.{History}
use Rattle.al_core.specs.Stands.{Parts, Stands}

abbrev pub history_of : Inside → History
history_of w = record {
  image = w.image.value;
  region = w.region;
  limit = w.limit;
  quota = w.quota;
  entries = w.entries.items;
  dropped = w.dropped;
  loans = w.loans;
}

abbrev pub parts_of : Inside → Parts
parts_of w = record {
  store = w.machinery.store;
  book = w.machinery.book;
  table = w.machinery.table;
  output = w.machinery.output;
  over = w.over;
  line = w.line;
  work = w.work;
}

-- it stands for a run, and has room for all entries
pub record IsKept (w : Inside) : Type 0 where
  pub stands : Stands (history_of w) (parts_of w)
  pub room : w.limit ≤ vec_capacity w.entries
