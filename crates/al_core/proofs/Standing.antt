-- What the fields of a world that stands for a run are.
use Rattle.std.proofs.Common.{◌≡◌, ◌≢◌, ◌≤◌, ◌*◌, ◌^◌, [], length, drop, Option, Some, refl, sym, ap, ◌∙◌, subst}
use Rattle.std.specs.Prelude.{IsSome, option_map, option_and_then}
use Rattle.std.specs.Option.{option_map_or}
use Rattle.al_base.specs.declared.over.Over.TheVariants.{Spent}
use Rattle.al_world.specs.World.{Shared, World}
use Rattle.al_world.proofs.Permits.{is_never_spent}
use Rattle.rv_exec.specs.Machine.{machine}
use Rattle.al_core.specs.History.{History, run_of, seen_of, over_of, line_of, output_of, work_of}
use Rattle.al_core.specs.Opening.{globals_of, main_of}
use Rattle.al_core.specs.Stands.{Parts, Stands}

module _ (h : History) (x : Parts) (s : Stands h x) where
  pub seen_is : seen_of h ≡ Some s.world.shared
  seen_is = ap (option_map (λ (w : World (machine h.image)). w.shared)) s.runs

  pub runs_some : IsSome (run_of h)
  runs_some = rw s.runs refl

  pub over_is : x.over ≡ over_of h
  over_is = s.parts.over ∙ sym (ap (option_and_then (λ (v : Shared). v.over)) seen_is)

  pub over_none : over_of h ≡ s.world.shared.over
  over_none = ap (option_and_then (λ (v : Shared). v.over)) seen_is

  pub line_is : x.line ≡ line_of h
  line_is = s.parts.line ∙ sym (ap (λ (o : Option Shared). option_map_or (λ (v : Shared). v.line) o 0) seen_is)

  pub output_all : output_of h ≡ s.world.shared.output
  output_all = ap (λ (o : Option Shared). option_map_or (λ (v : Shared). v.output) o []) seen_is

  pub output_is : x.output ≡ drop h.dropped (output_of h)
  output_is = s.parts.output ∙ ap (drop h.dropped) (sym output_all)

  pub dropped_within : h.dropped ≤ length (output_of h)
  dropped_within = subst (λ o. h.dropped ≤ length o) (sym output_all) s.parts.dropped

  pub work_is : x.work ≡ work_of h
  work_is = s.parts.work ∙ sym (ap (λ (o : Option (World (machine h.image))). option_map_or (λ (w : World (machine h.image)). w.work) o 0) s.runs)

  pub unspent : x.over ≢ Some Spent
  unspent e = is_never_spent (machine h.image) (h.region * 2 ^ 20) (globals_of h.image) (main_of h.image) h.entries s.world s.runs (sym s.parts.over ∙ e)
