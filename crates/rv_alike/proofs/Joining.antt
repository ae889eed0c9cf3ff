-- An image that is laid out is followed, from each start of a function with as many words as it takes.
use Rattle.std.proofs.Common.{ℕ, ◌^◌, ◌<◌, List, length}
use Rattle.std.specs.List.{AllByRecursion}
use Rattle.al_event.specs.declared.act.Start.{Start}
use Rattle.al_ir.specs.Control.{Control}
use Rattle.al_ir.specs.Meaning.{tasks}
use Rattle.al_ir.specs.declared.ir.Ir.{Ir}
use Rattle.rv_isa.specs.declared.image.Contents.{Contents}
use Rattle.rv_form.specs.Layout.{Layout}
use Rattle.rv_match.specs.Laws.{Followed}
use Rattle.rv_match.specs.Sense.{Sensible}
use Rattle.rv_flow.proofs.Starting.{starts_does}
use Rattle.rv_alike.specs.LaidOut.{IsLaidOut}
use Rattle.rv_alike.specs.Within.{places, live_in, midway_in}
use Rattle.rv_alike.proofs.Facts.{homes_are}
use Rattle.rv_alike.proofs.Following.{follows_all}

-- The operations have a meaning for all tasks that there are.
pub followed : (ir : Ir) (image : Contents) (l : Layout) (all : IsLaidOut ir image l) → (IsStart : Start → Type 0) (Good : Control → Type 0) (IsPrivate : List ℕ → Type 0)
    → Sensible (tasks ir) Good IsPrivate IsStart → ((s : Start) → IsStart s → s.code < length ir.functions) → ((s : Start) → IsStart s → AllByRecursion (λ w. w < 2 ^ 32) s.words) → Followed ir image IsStart
followed ir image l all IsStart Good IsPrivate sensible known words = record {
  small = all.small;
  places = places l;
  live = live_in ir l all.homes;
  Midway = midway_in ir l;
  Good = Good;
  IsPrivate = IsPrivate;
  sensible = sensible;
  follows = λ left c u h p m same fine. follows_all ir image l all left c u h p m same fine;
  words = words;
  begins = λ s is. starts_does ir image (places l) (live_in ir l all.homes) (midway_in ir l) all.small (homes_are ir image l all) s (l.entry s.code) (all.begins s.code (known s is)) (all.rows s.code (known s is));
}
