-- Runs along schedules that have an entry which is not permitted.
use Rattle.std.proofs.Common.{◌≡◌, ℕ, suc, ◌<◌, List, [], ◌∷◌, ◌++◌, take, drop, Option, Some, None, refl, sym, ap, ◌∙◌, arith, drop-cons, inl, inr}
use Rattle.std.specs.Prelude.{slice_get, option_and_then, IsSome}
use Rattle.std.proofs.lemmas.Bool.{cases_lt}
use Rattle.std.proofs.lemmas.List.{take-append-drop, take-take, get_or-take, length-take}
use Rattle.std.proofs.lemmas.Option.{slice_get_within, slice_get-get_or, get_or_from_slice_get}
use Rattle.al_event.specs.declared.entry.Entry.{Entry}
use Rattle.al_base.specs.declared.over.Over.{Over}
use Rattle.al_world.specs.Control.{Kind}
use Rattle.al_world.specs.World.{TaskName, World}
use Rattle.al_world.specs.Step.{step, step_held, task_of, run as run_on}
use Rattle.al_world.proofs.Runs.{run_none}
use Rattle.al_typed.specs.declared.program.Program.{Program}
use Rattle.al_meaning.specs.Meaning.{source, run}
use Rattle.al_show.specs.Walks.{IsRefused}

module _ (K : Kind) where
  run_parts : (h k : List Entry) (o : Option (World K)) → run_on K (h ++ k) o ≡ run_on K k (run_on K h o)
  run_parts [] k o = refl
  run_parts (e ∷ h) k o = run_parts h k (option_and_then (λ w. step K w e) o)

  -- a world that is over has no step
  pub over_stays : (w : World K) (e : Entry) → IsSome w.shared.over → step K w e ≡ None
  over_stays w e is = on w.shared.over is
    where
      on : (o : Option Over) → IsSome o → option_and_then (λ (t : TaskName). step_held K w t e.pick (w.tasks t)) (task_of w.shared o e.proc) ≡ None
      on (Some over) is = refl
      on None is = cc

parted : (h : List Entry) (k : ℕ) (e : Entry) → slice_get h k ≡ Some e → h ≡ take k h ++ e ∷ drop (suc k) h
parted h k e is =
    sym (take-append-drop k h)
    ∙ ap (λ (l : List Entry). take k h ++ l) (drop-cons h k e (slice_get_within h k e is) ∙ ap (λ (f : Entry). f ∷ drop (suc k) h) (get_or_from_slice_get h k e e is))

module _ (p : Program) (region : ℕ) where
  -- the entries have no run
  pub refused_none : (h : List Entry) (k : ℕ) → IsRefused p region h k → run p region h ≡ None
  refused_none h k r =
      ap (run p region) (parted h k r.entry r.here)
      ∙ run_parts (source p) (take k h) (r.entry ∷ drop (suc k) h) _
      ∙ ap (run_on (source p) (r.entry ∷ drop (suc k) h)) r.ran
      ∙ ap (run_on (source p) (drop (suc k) h)) r.none
      ∙ run_none (source p) (drop (suc k) h)

  -- of a longer front too
  refused_front : (h : List Entry) (j k : ℕ) → j < k → IsRefused p region h j → IsRefused p region (take k h) j
  refused_front h j k lt r =
      let within = slice_get_within h j r.entry r.here in
      let size = length-take k h in
      record {
        world = r.world;
        entry = r.entry;
        here = slice_get-get_or (take k h) j r.entry (omega (arith, within, size, lt)) ∙ ap Some (get_or-take k h j r.entry lt ∙ get_or_from_slice_get h j r.entry r.entry r.here);
        ran = ap (run p region) (take-take j k h (omega arith)) ∙ r.ran;
        none = r.none;
      }

  not_before : (h : List Entry) (j k : ℕ) → j < k → IsRefused p region h j → IsRefused p region h k → ⊥
  not_before h j k lt r s = let none = refused_none (take k h) j (refused_front h j k lt r) in let some = s.ran in cc

  -- one entry is the first
  pub one_refused : (h : List Entry) (j k : ℕ) → IsRefused p region h j → IsRefused p region h k → j ≡ k
  one_refused h j k r s =
      elim (cases_lt j k) [
        | inl lt ↦ absurd (not_before h j k lt r s)
        | inr ge ↦ elim (cases_lt k j) [ inl lt ↦ absurd (not_before h k j lt s r) | inr le ↦ omega (arith, ge, le) ]
      ]
