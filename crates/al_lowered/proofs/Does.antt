-- What a control of any kind that is made of private steps asks after the answers that it is given, a step at a time.
use Rattle.std.proofs.Common.{◌≡◌, ℕ, zero, suc, ◌<◌, List, [], ◌∷◌, refl, sym, ap, ◌∙◌, subst}
use Rattle.std.specs.Prelude.{◌≢◌, true, false, if◌then◌else◌}
use Rattle.std.specs.List.{AllByRecursion}
use Rattle.al_event.specs.declared.act.Act.{Act}
use Rattle.al_event.specs.declared.act.Act.TheVariants as act
use Rattle.al_world.specs.Control.{Asked, fitted}
use Rattle.al_world.specs.Turns.{Move, Moves, Turns, Asks, ask_within}
use Rattle.al_world.specs.Alike.{starts_in}
use Rattle.al_until_last.specs.UntilLast.{is_last}
use Rattle.al_world.proofs.Turning.{Comes, comes, all_come}
use Rattle.al_world.proofs.Turning as come
use Rattle.al_meaning.specs.Items.{most_turns}
use Rattle.al_meaning.specs.Tasks.{Answer, Still, Outcome, Over, Unfinished, answered, ask_in, last_asked, stop_in, turn_at, turn_in}
use Rattle.al_lowered.specs.After.{after, asked_next}
use Rattle.al_lowered.specs.Rules.{Rules, IsGood, AreGood}

module _ {C : Type 0} (step : C → List ℕ → Move C (List ℕ)) (weight : C → ℕ) (resume : C → List ℕ → C) (lighter : (c d : C) (u v : List ℕ) → step c u ≡ Moves d v → weight d < weight c) (R : Rules) where
  within : ℕ → C → List ℕ → Asked C (List ℕ)
  within left c u = ask_within step weight left act.Pause c u

  abbrev asked : Act → ℕ → C → List ℕ → Asked C (List ℕ)
  asked a line c u = record { act = a; line = line; work = 0; control = c; privates = u }

  within_comes : (n : ℕ) (c : C) (u : List ℕ) (r : Asked C (List ℕ)) → Comes step weight act.Pause n c u r → within (suc n) c u ≡ r
  unfolding within
  within_comes n c u r h = comes step weight act.Pause n c u r h

  all_within : (n : ℕ) (c : C) (u : List ℕ) → Comes step weight act.Pause n c u (within (suc n) c u)
  all_within n c u =
      let r = all_come step weight act.Pause lighter n c u in
      subst (λ q. Comes step weight act.Pause n c u q) (sym (within_comes n c u r.0 r.1)) r.1

  moves_some : (n : ℕ) (c d : C) (u v : List ℕ) → step c u ≡ Moves d v → within (suc n) c u ≡ within (suc n) d v
  moves_some n c d u v e = within_comes n c u _ (come.moves e (lighter c d u v e) (all_within n d v))

  none_left : (c : C) (u : List ℕ) → within 0 c u ≡ within 1 c u
  unfolding within
  none_left c u = refl

  moves_within : (left : ℕ) (c d : C) (u v : List ℕ) → step c u ≡ Moves d v → within left c u ≡ within left d v
  moves_within zero c d u v e = none_left c u ∙ (moves_some 0 c d u v e ∙ sym (none_left d v))
  moves_within (suc n) c d u v e = moves_some n c d u v e

  asks_within : (left line : ℕ) (a : Act) (c d : C) (u v : List ℕ) → step c u ≡ Asks a line d v → within left c u ≡ asked a line d v
  asks_within zero line a c d u v e = none_left c u ∙ within_comes 0 c u _ (come.asks e)
  asks_within (suc n) line a c d u v e = within_comes n c u _ (come.asks e)

  turns_within : (n line : ℕ) (c d : C) (u v : List ℕ) → step c u ≡ Turns line d v → within (suc (suc n)) c u ≡ within (suc n) d v
  turns_within n line c d u v e = within_comes (suc n) c u _ (come.turns e (all_within n d v))

  stops_within : (line : ℕ) (c d : C) (u v : List ℕ) → step c u ≡ Turns line d v → within 1 c u ≡ asked act.Pause line d v
  stops_within line c d u v e = within_comes 0 c u _ (come.stops e)

  -- how a control comes out that has so many turns left and gets these answers
  out : C → Still → Outcome
  out c s = after (asked_next step weight) resume (within s.left c s.privates) s.answers

  abbrev pub IsOk : Still → Type 0
  IsOk s = R.Private s.privates × AreGood R s.answers

  -- A meaning says well how a control comes out: it is never stuck, what it asks keeps the rules, and the control comes out so
  -- unless the meaning leaves that open.
  pub record Does (o : Outcome) (c : C) (s : Still) : Type 0 where
    by : IsOk s → IsGood R o × (o ≢ Unfinished → out c s ≡ o)

  -- the rules hold where the run stands
  pub knowing : {o : Outcome} {c : C} {s : Still} → (R.Private s.privates → Does o c s) → Does o c s
  knowing h = record { by = λ ok. (h ok.0).by ok }

  pub unfinished : {c : C} {s : Still} → Does Unfinished c s
  unfinished = record { by = λ ok. (tt, λ done. absurd (done refl)) }

  -- a step that goes on
  pub one : {o : Outcome} {c d : C} {s : Still} {u : List ℕ} → step c s.privates ≡ Moves d u → (R.Private s.privates → R.Private u) → Does o d (record s { privates = u }) → Does o c s
  unfolding out
  one {c = c} {d} {s} {u} e k h = record {
    by = λ ok.
        let r = h.by (k ok.0, ok.1) in
        (r.0, λ done. ap (λ a. after (asked_next step weight) resume a s.answers) (moves_within s.left c d s.privates u e) ∙ r.1 done);
  }

  -- a step that asks
  answers_do : (answers : List Answer) (a : Act) (line : ℕ) (c d : C) (s : Still) (k : List ℕ → Still → Outcome) → step c s.privates ≡ Asks a line d s.privates → is_last a ≡ false → AllByRecursion R.IsStart (starts_in a) → ((words : List ℕ) (s : Still) → Does (k (fitted a words) s) (resume d (fitted a words)) s) → Does (answered answers a line s k) c (record s { answers = answers })
  unfolding out within
  answers_do [] a line c d s k e f g h = record { by = λ ok. ((ok.0, g), λ done. ap (λ q. after (asked_next step weight) resume q []) (asks_within s.left line a c d s.privates s.privates e)) }
  answers_do (r ∷ answers) a line c d s k e f g h = record {
    by = λ ok.
        let q = (h r.words (record { left = most_turns; privates = r.privates; answers = answers })).by (ok.1.0, ok.1.1) in (
          q.0,
          λ done. ap (λ q. after (asked_next step weight) resume q (r ∷ answers)) (asks_within s.left line a c d s.privates s.privates e)
              ∙ (ap (λ b. if b then Over else after (asked_next step weight) resume (asked_next step weight (resume d (fitted a r.words)) r.privates) answers) f ∙ q.1 done),
        );
  }

  pub asks_starting : {c d : C} {s : Still} {a : Act} {line : ℕ} (k : List ℕ → Still → Outcome) → step c s.privates ≡ Asks a line d s.privates → is_last a ≡ false → AllByRecursion R.IsStart (starts_in a) → ((words : List ℕ) (s : Still) → Does (k (fitted a words) s) (resume d (fitted a words)) s) → Does (ask_in line a s k) c s
  asks_starting {c} {d} {s} {a} {line} k e f g h = answers_do s.answers a line c d s k e f g h

  last_do : (answers : List Answer) (a : Act) (line : ℕ) (c d : C) (s : Still) → step c s.privates ≡ Asks a line d s.privates → is_last a ≡ true → AllByRecursion R.IsStart (starts_in a) → Does (last_asked answers a line s.privates) c (record s { answers = answers })
  unfolding out
  last_do [] a line c d s e f g = record { by = λ ok. ((ok.0, g), λ done. ap (λ q. after (asked_next step weight) resume q []) (asks_within s.left line a c d s.privates s.privates e)) }
  last_do (r ∷ answers) a line c d s e f g = record {
    by = λ ok. (
      tt,
      λ done. ap (λ q. after (asked_next step weight) resume q (r ∷ answers)) (asks_within s.left line a c d s.privates s.privates e)
          ∙ ap (λ b. if b then Over else after (asked_next step weight) resume (asked_next step weight (resume d (fitted a r.words)) r.privates) answers) f,
    );
  }

  -- a step that asks what has no answer
  pub stops : {c d : C} {s : Still} (a : Act) (line : ℕ) → step c s.privates ≡ Asks a line d s.privates → is_last a ≡ true → AllByRecursion R.IsStart (starts_in a) → Does (stop_in line a s) c s
  stops {c} {d} {s} a line e f g = last_do s.answers a line c d s e f g

  module _ (nothing : (c : C) → resume c [] ≡ c) where
    pause_does : (answers : List Answer) (left line : ℕ) (c d : C) (s : Still) (k : Still → Outcome) → within left c s.privates ≡ asked act.Pause line d s.privates → ((s : Still) → Does (k s) d s) → Does (answered answers act.Pause line s (λ _ s. k s)) c (record s { left = left; answers = answers })
    unfolding out within
    pause_does [] left line c d s k e h = record { by = λ ok. ((ok.0, tt), λ done. ap (λ q. after (asked_next step weight) resume q []) e) }
    pause_does (r ∷ answers) left line c d s k e h = record {
      by = λ ok.
          let q = (h (record { left = most_turns; privates = r.privates; answers = answers })).by (ok.1.0, ok.1.1) in
          (q.0, λ done. ap (λ q. after (asked_next step weight) resume q (r ∷ answers)) e ∙ (ap (λ d. after (asked_next step weight) resume (asked_next step weight d r.privates) answers) (nothing d) ∙ q.1 done));
    }

    turn_does : (left line : ℕ) (c d : C) (s : Still) (k : Still → Outcome) → step c s.privates ≡ Turns line d s.privates → ((s : Still) → Does (k s) d s) → Does (turn_at left line s k) c (record s { left = left })
    unfolding out
    turn_does zero line c d s k e h = pause_does s.answers 0 line c d s k (none_left c s.privates ∙ stops_within line c d s.privates s.privates e) h
    turn_does (suc zero) line c d s k e h = pause_does s.answers 1 line c d s k (stops_within line c d s.privates s.privates e) h
    turn_does (suc (suc n)) line c d s k e h = record {
      by = λ ok.
          let q = (h (record s { left = suc n })).by ok in
          (q.0, λ done. ap (λ q. after (asked_next step weight) resume q s.answers) (turns_within n line c d s.privates s.privates e) ∙ q.1 done);
    }

    -- a step that is a turn
    pub turns : {c d : C} {s : Still} {line : ℕ} (k : Still → Outcome) → step c s.privates ≡ Turns line d s.privates → ((s : Still) → Does (k s) d s) → Does (turn_in line s k) c s
    turns {c} {d} {s} {line} k e h = turn_does s.left line c d s k e h

  -- what the control of a task comes out as
  pub task_does : {o : Outcome} (c : C) (privates : List ℕ) (answers : List Answer) → R.Private privates → AreGood R answers → Does o c (record { left = most_turns; privates = privates; answers = answers }) → IsGood R o × (o ≢ Unfinished → after (asked_next step weight) resume (asked_next step weight c privates) answers ≡ o)
  unfolding out within
  task_does c privates answers k g h = h.by (k, g)
