-- The output that is shown is dropped.
use Rattle.std.proofs.Common.{◌≡◌, ◌+◌, ◌-◌, ◌^◌, ◌<◌, [], length, drop, sym, ap, ◌∙◌, arith, rules}
use Rattle.std.proofs.Math.Seq.{drop-length}
use Rattle.std.proofs.lemmas.List.{places}
use Rattle.al_core.specs.History.{History, output_of}
use Rattle.al_core.specs.Stands.{Parts, Stands}
use Rattle.al_core.proofs.Standing.{output_all}
use Rattle.al_core.proofs.Output.{few_bytes}

-- a history of which all output was dropped
abbrev pub dropping : History → History
dropping h = record h { dropped = length (output_of h) }

module _ (h : History) (x : Parts) (s : Stands h x) where
  long : length x.output ≡ length s.world.shared.output - h.dropped
  long = ap length s.parts.output ∙ search (rules, places)

  -- what was dropped and what is shown is all
  pub all_shown : h.dropped + length x.output ≡ length (output_of h)
  all_shown = let e = long in let d = s.parts.dropped in let o = ap length (output_all h x s) in omega (arith, e, d, o)

  pub shown_fits : h.dropped + length x.output < 2 ^ 64
  shown_fits = let e = long in let d = s.parts.dropped in let f = few_bytes h x s in omega (arith, e, d, f)

  pub cleared : Stands (dropping h) (record x { output = [] })
  cleared = record {
    limited = record {
      image = s.limited.image;
      some_region = s.limited.some_region;
      region = s.limited.region;
      limit = s.limited.limit;
      quota = s.limited.quota;
      entries = s.limited.entries;
      workers = s.limited.workers;
    };
    world = s.world;
    runs = s.runs;
    parts = record {
      store = s.parts.store;
      output = sym (ap (λ n. drop n s.world.shared.output) (ap length (output_all h x s)) ∙ drop-length s.world.shared.output);
      dropped = let o = ap length (output_all h x s) in omega (arith, o);
      over = s.parts.over;
      line = s.parts.line;
      work = s.parts.work;
      little_work = s.parts.little_work;
      book_room = s.parts.book_room;
      tasks_room = s.parts.tasks_room;
      procs_room = s.parts.procs_room;
    };
    loans = record { lent = s.loans.lent; one = s.loans.one; since = s.loans.since; still = s.loans.still };
    tasks = s.tasks;
  }
