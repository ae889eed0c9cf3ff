-- A source that stands for a run stands for one entry more.
use Rattle.std.proofs.Common.{◌≡◌, ℕ, [], ◌∷◌, ◌++◌, Option, Some, option_and_then, ap, sym, subst, ◌∙◌}
use Rattle.al_event.specs.declared.entry.Entry.{Entry}
use Rattle.al_world.specs.World.{World}
use Rattle.al_world.specs.Step as world
use Rattle.al_world.specs.Step.{step}
use Rattle.al_world.proofs.Permits.{runs_go_on}
use Rattle.al_typed.specs.declared.program.Program.{Program}
use Rattle.al_meaning.specs.Places.{opening_blocks}
use Rattle.al_meaning.specs.Meaning.{source, run, main_start}
use Rattle.al_step.specs.declared.source.Source.{Source}
use Rattle.al_step.specs.declared.entry.Stepped.{Stepped}
use Rattle.al_step.specs.declared.entry.Stepped.TheVariants as stepped
use Rattle.al_step.specs.Sources.{world_of, Stands, IsMade, IsStepped, source_of}

goes_on : (p : Program) (region : ℕ) (s t : Source) (e : Entry) → run p region s.entries ≡ Some (world_of p s) → step (source p) (world_of p s) e ≡ Some (world_of p t) → t.entries ≡ s.entries ++ e ∷ [] → run p region t.entries ≡ Some (world_of p t)
goes_on p region s t e ran stepped more =
    ap (run p region) more
    ∙ (runs_go_on (source p) s.entries (e ∷ []) (Some (world.opening (source p) region (opening_blocks p) (main_start p)))
    ∙ (ap (λ (o : Option (World (source p))). option_and_then (λ w. step (source p) w e) o) ran ∙ stepped))

made_stands : (p : Program) (region : ℕ) (s t : Source) (e : Entry) → IsMade s e (step (source s.program.now) (world_of s.program.now s) e) t → Stands p region s → Stands p region t
made_stands p region s t e made stands =
    let P : Program → Type 0 = λ q. step (source q) (world_of q s) e ≡ Some (world_of q t) in
    record {
      program = made.program ∙ stands.program;
      ran = goes_on p region s t e stands.ran (subst P stands.program made.world) made.entries;
    }

same_stands : (p : Program) (region : ℕ) (s t : Source) → t ≡ s → Stands p region s → Stands p region t
same_stands p region s t e h = subst (λ (x : Source). Stands p region x) (sym e) h

pub stepped_stands : (s : Source) (e : Entry) (r : Stepped) → IsStepped s e r → (p : Program) (region : ℕ) → Stands p region s → Stands p region (source_of r)
stepped_stands s e (stepped.Made t) h p region stands = made_stands p region s t e h stands
stepped_stands s e (stepped.NotPermitted t) h p region stands = same_stands p region s t h.same stands
stepped_stands s e (stepped.Over t) h p region stands = same_stands p region s t h.0 stands
