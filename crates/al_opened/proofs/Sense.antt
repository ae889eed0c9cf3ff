-- The tasks of a program ask what its text says, as long as its operations are known to keep the meaning.
use Rattle.std.proofs.Common.{◌≡◌, ℕ, ◌+◌, ◌*◌, Bool, true, false, List, [], ◌∷◌, ◌++◌, length, Some, refl, sym, ap, ◌∙◌, subst, subst₂, le_refl}
use Rattle.std.specs.Prelude.{◌≢◌, if◌then◌else◌}
use Rattle.al_event.specs.declared.act.Act.{Act}
use Rattle.al_event.specs.declared.act.Act.TheVariants as act
use Rattle.al_event.specs.declared.act.Start.{Start}
use Rattle.al_event.specs.declared.entry.Entry.{Entry}
use Rattle.al_world.specs.Alike.{AsksAlike, Relation}
use Rattle.al_world.specs.Control.{Asked, Kind, fitted}
use Rattle.al_world.specs.Step.{opening, step}
use Rattle.al_world.specs.World.{Goes, Held, TaskName, World}
use Rattle.al_world.proofs.Lift.{OnBoth}
use Rattle.al_world.proofs.Roles.{SoundWorld, sound_opening, sound_step}
use Rattle.al_world.proofs.Runs.{along}
use Rattle.al_until_last.specs.UntilLast.{AlikeUntilLast, is_last}
use Rattle.al_until_last.proofs.Lifting.{HeldAlike, WorldsAlike, alike_openings, step_alike}
use Rattle.al_typed.specs.declared.program.Program.{Program}
use Rattle.al_meaning.specs.After.{after}
use Rattle.al_meaning.specs.After as meant
use Rattle.al_meaning.specs.Items.{Control, most_turns}
use Rattle.al_meaning.specs.Meaning.{ask, main_start, resume, source}
use Rattle.al_meaning.specs.Meaning as meaning
use Rattle.al_meaning.specs.Meant.{task_told}
use Rattle.al_meaning.specs.Places.{opening_blocks}
use Rattle.al_meaning.specs.Tasks.{Answer, Asks, Outcome, Over, Stuck}
use Rattle.al_meaning.proofs.Finishing.{leave_nothing_open}
use Rattle.al_meaning.proofs.Functions.{ask_as_told}
use Rattle.al_lower_code.specs.Functions.{lowered}
use Rattle.al_lowered.specs.Lowered.{Lowered}
use Rattle.al_lowered.specs.Rules.{AreGood, IsGood, IsKnownStart, IsPrivate, rules}
use Rattle.al_lowered.proofs.Chain.{never_stuck}
use Rattle.al_opened.specs.Sense.{HasSense, asked_after, asked_then}

same_last : (a : Act) → is_last a ≡ meant.is_last a
same_last (act.Trap trap) = refl
same_last act.End = refl
same_last (act.Terminate status) = refl
same_last _ = refl

over_is_not : (a : Act) (line : ℕ) (u : List ℕ) → Over ≡ Asks a line u → ⊥
over_is_not a line u e = cc

module _ (p : Program) where
  -- ---- one answer more

  abbrev A : Type 0
  A = Asked Control (List ℕ)

  abbrev asks : A → Outcome
  asks a = Asks a.act a.line a.privates

  then_append : (a : A) (answers : List Answer) (r : Answer) → asked_after p a (answers ++ r ∷ []) ≡ asked_then p (asked_after p a answers) r
  then_append a [] r = refl
  then_append a (q ∷ answers) r = then_append (asked_then p a q) answers r

  one_more : (a : A) (answers : List Answer) (r : Answer) (b : A) → after p a answers ≡ asks b → meant.is_last (asked_after p a answers).act ≡ false
      → after p a (answers ++ r ∷ []) ≡ asks (asked_then p (asked_after p a answers) r)
  one_more a [] r b is e = ap (λ c. if c then Over else asks (asked_then p a r)) e
  one_more a (q ∷ answers) r b is e = on (meant.is_last a.act) is (λ is. one_more (asked_then p a q) answers r b is e)
    where
      on : (c : Bool) → (if c then Over else after p (asked_then p a q) answers) ≡ asks b
          → (after p (asked_then p a q) answers ≡ asks b → after p (asked_then p a q) (answers ++ r ∷ []) ≡ asks (asked_then p (asked_after p (asked_then p a q) answers) r))
          → (if c then Over else after p (asked_then p a q) (answers ++ r ∷ [])) ≡ asks (asked_then p (asked_after p (asked_then p a q) answers) r)
      on true is more = absurd (over_is_not b.act b.line b.privates is)
      on false is more = more is

  good_append : (answers : List Answer) (r : Answer) → AreGood (rules p) answers → IsPrivate p r.privates → AreGood (rules p) (answers ++ r ∷ [])
  good_append [] r g k = (k, tt)
  good_append (q ∷ answers) r g k = (g.0, good_append answers r g.1 k)

  module _ (low : Lowered p (lowered p)) where
    abbrev rounds : List Answer → ℕ
    rounds answers = most_turns + most_turns * length answers

    sense : (start : Start) (first : List ℕ) (answers : List Answer) (c : Control) (u : List ℕ) → IsKnownStart p start → IsPrivate p first → AreGood (rules p) answers
        → ask p c u ≡ asked_after p (ask p (meaning.start p start) first) answers → after p (ask p (meaning.start p start) first) answers ≡ asks (ask p c u) → HasSense p c u
    sense start first answers c u known private good came is =
        let never : (n : ℕ) → task_told p n start first answers ≢ Stuck = λ n. never_stuck p (lowered p) low n start first answers known private good in
        record {
          start = start;
          first = first;
          answers = answers;
          known = known;
          globals = private;
          good = good;
          came = came;
          said = λ n le. sym (ask_as_told p n start first answers (never n) (leave_nothing_open p n start first answers le)) ∙ is;
          never = never;
        }

    begins : (start : Start) (u : List ℕ) → IsKnownStart p start → IsPrivate p u → HasSense p (meaning.start p start) u
    begins start u known private = sense start u [] (meaning.start p start) u known private tt refl refl

    asked_is : (c : Control) (u : List ℕ) (h : HasSense p c u) → after p (ask p (meaning.start p h.start) h.first) h.answers ≡ asks (ask p c u)
    asked_is c u h =
        let n = rounds h.answers in
        ask_as_told p n h.start h.first h.answers (h.never n) (leave_nothing_open p n h.start h.first h.answers (le_refl n)) ∙ h.said n (le_refl n)

    goes_on : (c : Control) (u : List ℕ) → HasSense p c u → is_last (ask p c u).act ≡ false → (words v : List ℕ) → IsPrivate p v
        → HasSense p (resume (ask p c u).control (fitted (ask p c u).act words)) v
    goes_on c u h e words v private =
        let r : Answer = record { words = words; privates = v } in
        let a : A = ask p (meaning.start p h.start) h.first in
        let came : asked_then p (ask p c u) r ≡ asked_then p (asked_after p a h.answers) r = ap (λ b. asked_then p b r) h.came in
        let goes : meant.is_last (asked_after p a h.answers).act ≡ false = ap (λ (b : A). meant.is_last b.act) (sym h.came) ∙ (sym (same_last (ask p c u).act) ∙ e) in
        sense h.start h.first (h.answers ++ r ∷ []) (resume (ask p c u).control (fitted (ask p c u).act words)) v h.known h.globals (good_append h.answers r h.good private)
        (came ∙ sym (then_append a h.answers r))
        (one_more a h.answers r (ask p c u) (asked_is c u h) goes ∙ ap asks (sym came))

    -- ---- worlds

    abbrev K : Kind
    K = source p

    abbrev WillHaveSense : Control → Type 0
    WillHaveSense c = (u : List ℕ) → IsPrivate p u → HasSense p c u

    abbrev R : Relation Control Control (List ℕ) (List ℕ)
    R = record {
      Going = λ c d. (c ≡ d) × WillHaveSense c;
      Waiting = λ a c d. (c ≡ d) × (is_last a ≡ false → (words : List ℕ) → WillHaveSense (resume c (fitted a words)));
      Private = λ u v. (u ≡ v) × IsPrivate p u;
      IsStart = IsKnownStart p;
    }

    asks_itself : (c : Control) (u : List ℕ) → HasSense p c u → AsksAlike R (ask p c u) (ask p c u)
    asks_itself c u h =
        let n = rounds h.answers in
        let good : IsGood (rules p) (asks (ask p c u)) = subst (IsGood (rules p)) (h.said n (le_refl n)) (low.asks n h.start h.first h.answers h.known h.globals h.good).0 in
        record { act = refl; line = refl; control = (refl, λ e words v private. goes_on c u h e words v private); privates = (refl, good.0); starts = good.1 }

    keeps : AlikeUntilLast K K R
    keeps = record {
      asks = λ c d u v s k. subst₂ (λ d v. AsksAlike R (ask p c u) (ask p d v)) s.0 k.0 (asks_itself c u (s.1 u k.1));
      resumes = λ a c d words e w. (ap (λ c. resume c (fitted a words)) w.0, w.1 e words);
      starts = λ start known. (refl, λ u private. begins start u known private);
      fresh = (refl, low.fresh);
    }

    abbrev Fine : World K → Type 0
    Fine w = SoundWorld K w × WorldsAlike K K R keeps w w

    fine_step : (w v : World K) (e : Entry) → Fine w → step K w e ≡ Some v → Fine v
    fine_step w v e f is =
        (sound_step K w v e f.0 is, subst (λ o. OnBoth (WorldsAlike K K R keeps) o o) is (step_alike K K R keeps w w e f.0 f.1))

    held_sense : (h : Held Control) (c : Control) → h ≡ Goes c → HeldAlike K K R keeps h h → WillHaveSense c
    held_sense h c e held = (subst (λ h. HeldAlike K K R keeps h h) e held).1

    pub have_sense : IsKnownStart p (main_start p) → (region : ℕ) (h : List Entry) (w : World K) (t : TaskName) (c : Control) → meaning.run p region h ≡ Some w → w.tasks t ≡ Goes c
        → HasSense p c (w.privates t.proc)
    have_sense main region h w t c is goes =
        let first : World K = opening K region (opening_blocks p) (main_start p) in
        let fine : Fine w =
        along K Fine fine_step h first w (sound_opening K region (opening_blocks p) (main_start p), alike_openings K K R keeps region (opening_blocks p) (main_start p) main) is in
        held_sense (w.tasks t) c goes (fine.1.tasks t) (w.privates t.proc) (fine.1.privates t.proc).1
