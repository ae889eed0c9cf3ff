-- From what each entry comes to to what all of them do.
use Rattle.std.proofs.Common.{◌≡◌, ℕ, ◌+◌, ◌<◌, List, [], ◌∷◌, ◌++◌, length, take, get_or, Some, None, Result, Ok, Err, sym, ap, ◌∙◌, subst, inl, inr}
use Rattle.std.specs.Prelude.{slice_get, IfOk, IfErr}
use Rattle.std.proofs.lemmas.List.{take_more}
use Rattle.std.proofs.lemmas.Option.{slice_get-get_or}
use Rattle.al_event.specs.declared.entry.Entry.{Entry}
use Rattle.al_world.specs.Step.{step}
use Rattle.al_typed.specs.declared.program.Program.{Program}
use Rattle.al_meaning.specs.Meaning.{source, run}
use Rattle.al_step_text.specs.StepText.{step_text}
use Rattle.al_step.specs.declared.source.Source.{Source}
use Rattle.al_control.specs.declared.unmade.Unmade.{Unmade}
use Rattle.al_control.specs.declared.unmade.Unmade.TheVariants as unmade
use Rattle.al_control.specs.Fits.{Explains}
use Rattle.al_step.specs.declared.entry.Stepped.{Stepped}
use Rattle.al_step.specs.declared.entry.Stepped.TheVariants as step_to
use Rattle.al_step.specs.Sources.{Stands, IsSound, StartFits, EntryFits, IsStepped, source_of, world_of}
use Rattle.al_show.specs.declared.walking.WalkStop.{WalkStop}
use Rattle.al_show.specs.declared.walking.WalkStop.TheVariants as stop
use Rattle.al_show.specs.Stops.{of_unmade}
use Rattle.al_show.proofs.Runs.{over_stays}
use Rattle.al_show.specs.Walks.{StandsStill, GoesOn, StopsHere, StopsAlong, Stops, IsShown}

-- an element of a list, whatever would stand for one past its end
pub at_element : {A : Type 0} (xs : List A) (i : ℕ) (d : A) → i < length xs → get_or xs i d ≡ get_or xs i (get_or xs i d)
at_element xs i d h = cc (slice_get-get_or xs i d h, slice_get-get_or xs i (get_or xs i d) h)

-- a source after the first so many entries
pub record Walked (s : Source) (h : List Entry) (at : ℕ) (t : Source) : Type 0 where
  pub sound : IsSound t
  pub entries : t.entries ≡ take at h
  pub stands : StandsStill s t

pub walked_none : (s : Source) (h : List Entry) → IsSound s → s.entries ≡ [] → Walked s h 0 s
walked_none s h sound none = record { sound = sound; entries = none; stands = λ p region it. it }

module _ (s t : Source) (h : List Entry) (at : ℕ) (e : Entry) (so_far : Walked s h at t) (within : at < length h) (is : e ≡ get_or h at e) where
  pub walked_more : (u : Source) → GoesOn t e u → Walked s h (at + 1) u
  walked_more u g = record {
    sound = g.sound;
    entries = g.entries ∙ ap (λ (l : List Entry). l ++ e ∷ []) so_far.entries ∙ ap (λ (f : Entry). take at h ++ f ∷ []) is ∙ sym (take_more h at e within);
    stands = λ p region it. g.stands p region (so_far.stands p region it);
  }

  here : slice_get h at ≡ Some e
  here = slice_get-get_or h at e within ∙ ap Some (sym is)

  ran : (p : Program) (region : ℕ) → Stands p region s → run p region (take at h) ≡ Some (world_of p t)
  ran p region it = ap (run p region) (sym so_far.entries) ∙ (so_far.stands p region it).ran

  pub stops_along : (why : WalkStop) → StopsHere t e at why → StopsAlong s h why
  stops_along (stop.NotPermitted k) w p region it =
      let P : Program → Type 0 = λ q. step (source q) (world_of q t) e ≡ None in
      let first : k ≡ at = w.0 in
      let R : ℕ → Type 0 = λ k. Stops p region h (stop.NotPermitted k) in
      subst R (sym first) (record {
        world = world_of p t;
        entry = e;
        here = here;
        ran = ran p region it;
        none = subst P (so_far.stands p region it).program w.1;
      })
  stops_along stop.TooLarge w p region it =
      let P : Program → Type 0 = λ q. EntryFits q (world_of q t) e → ⊥ in
      inr (record {
        number = at;
        world = world_of p t;
        entry = e;
        here = here;
        ran = ran p region it;
        large = subst P (so_far.stands p region it).program w;
      })
  stops_along stop.NoMemory w p region it = tt

-- ---- one entry

module _ (s : Source) (e : Entry) (r : Stepped) (t : Source) (stepped : IsStepped s e r) where
  pub made_goes : r ≡ step_to.Made t → StandsStill s (source_of r) → GoesOn s e t
  made_goes is stands =
      let P : Stepped → Type 0 = IsStepped s e in
      let S : Stepped → Type 0 = λ r. StandsStill s (source_of r) in
      let made = subst P is stepped in
      record { sound = made.sound; entries = made.entries; stands = subst S is stands }

  pub refused_here : r ≡ step_to.NotPermitted t → step (source s.program.now) (world_of s.program.now s) e ≡ None
  refused_here is = let P : Stepped → Type 0 = IsStepped s e in (subst P is stepped).refused

  pub over_here : r ≡ step_to.Over t → step (source s.program.now) (world_of s.program.now s) e ≡ None
  over_here is = let P : Stepped → Type 0 = IsStepped s e in over_stays (source s.program.now) (world_of s.program.now s) e (subst P is stepped).1

-- ---- stops

pub unmade_here : (s : Source) (e : Entry) (at : ℕ) (why : Unmade) (end : WalkStop) → end ≡ of_unmade why → Explains why (EntryFits s.program.now (world_of s.program.now s) e) → StopsHere s e at end
unmade_here s e at unmade.NoMemory end is h = let P : WalkStop → Type 0 = StopsHere s e at in subst P (sym is) tt
unmade_here s e at unmade.TooLarge end is h = let P : WalkStop → Type 0 = StopsHere s e at in subst P (sym is) h

module _ (p : Program) (region : ℕ) (h : List Entry) where
  pub unmade_start : (why : Unmade) (end : WalkStop) → end ≡ of_unmade why → Explains why (StartFits p) → Stops p region h end
  unmade_start unmade.NoMemory end is fits = let P : WalkStop → Type 0 = Stops p region h in subst P (sym is) tt
  unmade_start unmade.TooLarge end is fits = let P : WalkStop → Type 0 = Stops p region h in subst P (sym is) (inl fits)

  pub no_memory : (why : WalkStop) → why ≡ stop.NoMemory → Stops p region h why
  no_memory why is = let P : WalkStop → Type 0 = Stops p region h in subst P (sym is) tt

-- ---- the whole

pub if_ok : {A E : Type 0} (P Q : A → Type 0) (r : Result A E) → ((a : A) → P a → Q a) → IfOk r P → IfOk r Q
if_ok P Q (Ok a) f h = f a h
if_ok P Q (Err e) f h = h

pub if_err : {A E : Type 0} (P Q : E → Type 0) (r : Result A E) → ((e : E) → P e → Q e) → IfErr r P → IfErr r Q
if_err P Q (Ok a) f h = h
if_err P Q (Err e) f h = f e h

-- the text of a source
pub text_shown : (p : Program) (region : ℕ) (h : List Entry) (s : Source) (text : List ℕ) → Stands p region s → s.entries ≡ h
    → text ≡ step_text s.program.now (world_of s.program.now s) (length s.entries) → IsShown p region h text
text_shown p region h s text it entries is = record {
  world = world_of p s;
  ran = ap (run p region) (sym entries) ∙ it.ran;
  text_is = is ∙ ap (λ (q : Program). step_text q (world_of q s) (length s.entries)) it.program ∙ ap (λ (l : List Entry). step_text p (world_of p s) (length l)) entries;
}
