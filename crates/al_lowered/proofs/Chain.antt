-- From operations that do what the meaning says to runs that are the same.
use Rattle.std.proofs.Common.{◌≡◌, ℕ, ◌+◌, ◌*◌, List, [], ◌∷◌, length, refl, sym, ap, ◌∙◌, subst, le_refl}
use Rattle.std.specs.Prelude.{◌≢◌, if◌then◌else◌}
use Rattle.al_event.specs.declared.act.Start.{Start}
use Rattle.al_event.specs.declared.act.Act.{Act}
use Rattle.al_event.specs.declared.act.Act.TheVariants as act
use Rattle.al_world.specs.Control.{Asked, fitted}
use Rattle.al_world.specs.Alike.{SimulatesFrom}
use Rattle.al_until_last.specs.UntilLast.{is_last}
use Rattle.al_until_last.proofs.Lifting.{lifting_from_start}
use Rattle.al_typed.specs.declared.program.Program.{Program}
use Rattle.al_meaning.specs.Items as item
use Rattle.al_meaning.specs.Items.{most_turns}
use Rattle.al_meaning.specs.Places.{fresh_privates}
use Rattle.al_meaning.specs.Meaning.{source}
use Rattle.al_meaning.specs.Meaning as meaning
use Rattle.al_meaning.specs.Tasks.{Answer, Over, Stuck}
use Rattle.al_meaning.specs.Meant.{task_told}
use Rattle.al_meaning.specs.After as meant
use Rattle.al_meaning.proofs.Functions.{ask_as_told}
use Rattle.al_meaning.proofs.Finishing.{leave_nothing_open}
use Rattle.al_ir.specs.declared.ir.Ir.{Ir}
use Rattle.al_ir.specs.Control.{Control}
use Rattle.al_ir.specs.Meaning.{tasks}
use Rattle.al_ir.specs.Meaning as operations
use Rattle.al_lowered.specs.After.{after}
use Rattle.al_lowered.specs.Rules.{IsGood, AreGood, IsPrivate, IsKnownStart, rules}
use Rattle.al_lowered.specs.Same.{Tasks, kind, AskSame, same}
use Rattle.al_lowered.specs.Lowered.{Lowered}
use Rattle.al_lowered.proofs.Alike.{alike}

same_last : (a : Act) → is_last a ≡ meant.is_last a
same_last (act.Trap trap) = refl
same_last act.End = refl
same_last (act.Terminate status) = refl
same_last _ = refl

module _ (p : Program) (ir : Ir) where
  abbrev S : Tasks item.Control
  S = record { ask = meaning.ask p; resume = meaning.resume; start = meaning.start p; fresh = fresh_privates p }

  abbrev I : Tasks Control
  I = record { ask = operations.ask ir; resume = operations.resume; start = operations.start ir; fresh = operations.fresh_privates ir }

  -- what the meaning asks one action at a time, by both names
  source_after : (a : Asked item.Control (List ℕ)) (answers : List Answer) → after S.ask S.resume a answers ≡ meant.after p a answers
  source_after a [] = refl
  source_after a (r ∷ answers) =
      ap (λ o. if is_last a.act then Over else o) (source_after (meaning.ask p (meaning.resume a.control (fitted a.act r.words)) r.privates) answers)
      ∙ ap (λ b. if b then Over else meant.after p (meaning.ask p (meaning.resume a.control (fitted a.act r.words)) r.privates) answers) (same_last a.act)

  pub never_stuck : Lowered p ir → (n : ℕ) (start : Start) (u : List ℕ) (answers : List Answer) → IsKnownStart p start → IsPrivate p u → AreGood (rules p) answers → task_told p n start u answers ≢ Stuck
  never_stuck lowered n start u answers i k g e = subst (IsGood (rules p)) e (lowered.asks n start u answers i k g).0

  starts_ask_same : Lowered p ir → (start : Start) → IsKnownStart p start → AskSame S I (rules p) (meaning.start p start) (operations.start ir start)
  starts_ask_same lowered start i u answers k g =
      let n = most_turns + most_turns * length answers in
      let low = lowered.asks n start u answers i k g in
      let done = leave_nothing_open p n start u answers (le_refl n) in
      let asked : after S.ask S.resume (meaning.ask p (meaning.start p start) u) answers ≡ task_told p n start u answers =
      source_after (meaning.ask p (meaning.start p start) u) answers ∙ ask_as_told p n start u answers (never_stuck lowered n start u answers i k g) done in
      (asked ∙ sym (low.1 done), subst (IsGood (rules p)) (sym asked) low.0)

  -- so runs are the same, for every region, all globals and every schedule
  pub simulates : Lowered p ir → (start : Start) → IsKnownStart p start → SimulatesFrom (source p) (tasks ir) start
  simulates lowered start i =
      lifting_from_start (kind S) (kind I) (same S I (rules p)) (alike S I (rules p) lowered.privates lowered.fresh (starts_ask_same lowered)) start i
