-- The output of a run only grows.
use Rattle.std.proofs.Common.{◌≡◌, ℕ, List, [], ◌∷◌, ◌++◌, Option, Some, None, Bool, true, false, cond, refl, sym, ap, ◌∙◌, subst, append_assoc, append-nil, IsSome, Result, Ok, Err, option_map}
use Rattle.std.specs.Option.{option_map_or}
use Rattle.std.proofs.lemmas.Option.{same_Some}
use Rattle.al_base.specs.declared.trap.Trap.{Trap}
use Rattle.al_base.specs.declared.trap.Trap.TheVariants.{Chan}
use Rattle.al_event.specs.declared.act.Act.{Act}
use Rattle.al_event.specs.declared.act.Act.TheVariants.{Talk, Print, End}
use Rattle.al_event.specs.declared.entry.Entry.{Entry}
use Rattle.al_world.specs.Control.{Kind}
use Rattle.al_world.specs.World.{TaskName, Shared, World, Effect}
use Rattle.al_world.specs.Actions.{acts, performs, or_trap, trapped, goes}
use Rattle.al_world.specs.Step.{step, run, opening}
use Rattle.al_world.proofs.Cases.{IfSome', got_some, performs_cases}
use Rattle.al_world.proofs.Runs.{run_none}
use Rattle.al_world.proofs.Local.{step_by}
use Rattle.al_world.proofs.Permits.{runs_go_through}
use Rattle.rv_exec.specs.Machine.{machine}
use Rattle.al_core.specs.Opening.{globals_of, main_of}
use Rattle.al_core.specs.History.{History, run_of, output_of}
use Rattle.al_rounds.specs.Later.{followed_by, PutsOutMore}

-- what was put out stands first
record Adds (before after : List ℕ) : Type 0 where
  shown : List ℕ
  is : after ≡ before ++ shown

adds_nothing : (before after : List ℕ) → after ≡ before → Adds before after
adds_nothing before after e = record { shown = []; is = e ∙ sym (append-nil before) }

adds_on : (a b c : List ℕ) → Adds a b → Adds b c → Adds a c
adds_on a b c x y = record { shown = x.shown ++ y.shown; is = y.is ∙ ap (λ (l : List ℕ). l ++ y.shown) x.is ∙ append_assoc a x.shown y.shown }

record Shows (s : Shared) (e : Effect) : Type 0 where
  adds : Adds s.output e.shared.output

module _ (s : Shared) (t : TaskName) where
  shows_same : (e : Effect) → e.shared.output ≡ s.output → Shows s e
  shows_same e h = record { adds = adds_nothing s.output e.shared.output h }

  shows_or_trap : {X : Type 0} (r : Result X Trap) (f : X → Effect) → ((x : X) → Shows s (f x)) → Shows s (or_trap s t r f)
  shows_or_trap (Ok x) f h = h x
  shows_or_trap (Err trap) f h = shows_same (trapped s t trap) refl

  shows_if : (b : Bool) (x y : Effect) → Shows s x → Shows s y → Shows s (cond b x y)
  shows_if true x y h k = h
  shows_if false x y h k = k

  shows_acts : (act : Act) → Shows s (acts s t act)
  shows_acts (Print text) = record { adds = record { shown = text; is = refl } }
  shows_acts End = shows_same (acts s t End) refl
  shows_acts (Talk bs) = shows_same (acts s t (Talk bs)) refl
  shows_acts act = search (shows_if, shows_or_trap, shows_same)

  shows_performs : (act : Act) (pick : ℕ) → IfSome' (Shows s) (performs s t act pick)
  shows_performs act pick = performs_cases (Shows s) s t (shows_same (trapped s t Chan) refl) (λ bs k f fine e. shows_same (goes s t f) refl) act pick (shows_acts act)

module _ (K : Kind) where
  adds_step : (w v : World K) (e : Entry) → step K w e ≡ Some v → Adds w.shared.output v.shared.output
  adds_step w v e h =
      let x = step_by K w v e h in
      let k = got_some (Shows w.shared) _ x.effect (shows_performs w.shared x.task _ e.pick) x.comes in
      subst (λ (v : World K). Adds w.shared.output v.shared.output) x.is k.adds

  adds_run : (h : List Entry) (w v : World K) → run K h (Some w) ≡ Some v → Adds w.shared.output v.shared.output
  adds_run [] w v r = adds_nothing w.shared.output v.shared.output (sym (ap (λ (w : World K). w.shared.output) (same_Some w v r)))
  adds_run (e ∷ es) w v r = on (step K w e) refl r (λ u q. adds_run es u v q)
    where
      on : (o : Option (World K)) → step K w e ≡ o → run K es o ≡ Some v → ((u : World K) → run K es (Some u) ≡ Some v → Adds u.shared.output v.shared.output) → Adds w.shared.output v.shared.output
      on None s r f = absurd (let x = run_none K es in cc)
      on (Some u) s r f = adds_on w.shared.output u.shared.output v.shared.output (adds_step w u e s) (f u r)

output_is : (h : History) (w : World (machine h.image)) → run_of h ≡ Some w → output_of h ≡ w.shared.output
output_is h w r = ap (λ (o : Option (World (machine h.image))). option_map_or (λ (s : Shared). s.output) (option_map (λ (w : World (machine h.image)). w.shared) o) []) r

some_of : {X : Type 0} (o : Option X) → IsSome o → (x : X) × (o ≡ Some x)
some_of None h = absurd (cc)
some_of (Some x) h = (x, refl)

pub puts_out_more : (h : History) (more : List Entry) → IsSome (run_of (followed_by more h)) → PutsOutMore more h
puts_out_more h more is =
    let v = some_of (run_of (followed_by more h)) is in
    let through = runs_go_through (machine h.image) h.entries more (opening (machine h.image) _ (globals_of h.image) (main_of h.image)) v.0 v.1 in
    let a = adds_run (machine h.image) more through.between v.0 through.rest in
    record {
      shown = a.shown;
      output = output_is (followed_by more h) v.0 v.1 ∙ a.is ∙ ap (λ o. o ++ a.shown) (sym (output_is h through.between through.before));
    }
