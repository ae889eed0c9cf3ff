-- What a control asks after the answers that it is given, a private step at a time.
use Rattle.std.proofs.Common.{◌≡◌, ℕ, zero, suc, List, [], ◌∷◌, refl, sym, ap, ◌∙◌, subst}
use Rattle.std.specs.Prelude.{◌≢◌, Bool, true, false, Some, if◌then◌else◌}
use Rattle.al_event.specs.declared.act.Act.{Act}
use Rattle.al_event.specs.declared.act.Act.TheVariants as act
use Rattle.al_world.specs.Control.{Asked, fitted, cut}
use Rattle.al_world.specs.Turns.{Moves, Turns, Asks, ask_within}
use Rattle.al_world.proofs.Turning.{Comes, comes, all_come}
use Rattle.al_world.proofs.Turning as come
use Rattle.al_typed.specs.declared.program.Program.{Program}
use Rattle.al_meaning.specs.Items.{Control, most_turns}
use Rattle.al_meaning.specs.Here.{Next}
use Rattle.al_meaning.specs.Calls.{with_given}
use Rattle.al_meaning.specs.Step.{private_step}
use Rattle.al_meaning.specs.Weight.{control_weight}
use Rattle.al_meaning.specs.Meaning.{ask, resume}
use Rattle.al_meaning.specs.Tasks.{Env, Rest, Task, Answer, Still, Outcome, Over, Unfinished, Stuck, answered, ask_in, last_asked, stop_in, turn_at, turn_in}
use Rattle.al_meaning.specs.After.{is_last, after}
use Rattle.al_meaning.proofs.Lighter.{lighter}

module _ (p : Program) where
  -- what it asks first, with so many turns left
  within : ℕ → Control → List ℕ → Asked Control (List ℕ)
  within left c u = ask_within (private_step p) (control_weight p) left act.Pause c u

  abbrev asked : Act → ℕ → Control → List ℕ → Asked Control (List ℕ)
  asked a line c u = record { act = a; line = line; work = 0; control = c; privates = u }

  within_comes : (n : ℕ) (c : Control) (u : List ℕ) (r : Asked Control (List ℕ)) → Comes (private_step p) (control_weight p) act.Pause n c u r → within (suc n) c u ≡ r
  unfolding within
  within_comes n c u r h = comes (private_step p) (control_weight p) act.Pause n c u r h

  all_within : (n : ℕ) (c : Control) (u : List ℕ) → Comes (private_step p) (control_weight p) act.Pause n c u (within (suc n) c u)
  all_within n c u =
      let r = all_come (private_step p) (control_weight p) act.Pause (lighter p) n c u in
      subst (λ q. Comes (private_step p) (control_weight p) act.Pause n c u q) (sym (within_comes n c u r.0 r.1)) r.1

  moves_some : (n : ℕ) (c d : Control) (u v : List ℕ) → private_step p c u ≡ Moves d v → within (suc n) c u ≡ within (suc n) d v
  moves_some n c d u v e = within_comes n c u _ (come.moves e (lighter p c d u v e) (all_within n d v))

  none_left : (c : Control) (u : List ℕ) → within 0 c u ≡ within 1 c u
  unfolding within
  none_left c u = refl

  moves_within : (left : ℕ) (c d : Control) (u v : List ℕ) → private_step p c u ≡ Moves d v → within left c u ≡ within left d v
  moves_within zero c d u v e = none_left c u ∙ (moves_some 0 c d u v e ∙ sym (none_left d v))
  moves_within (suc n) c d u v e = moves_some n c d u v e

  asks_within : (left line : ℕ) (a : Act) (c d : Control) (u v : List ℕ) → private_step p c u ≡ Asks a line d v → within left c u ≡ asked a line d v
  asks_within zero line a c d u v e = none_left c u ∙ within_comes 0 c u _ (come.asks e)
  asks_within (suc n) line a c d u v e = within_comes n c u _ (come.asks e)

  turns_within : (n line : ℕ) (c d : Control) (u v : List ℕ) → private_step p c u ≡ Turns line d v → within (suc (suc n)) c u ≡ within (suc n) d v
  turns_within n line c d u v e = within_comes (suc n) c u _ (come.turns e (all_within n d v))

  stops_within : (line : ℕ) (c d : Control) (u v : List ℕ) → private_step p c u ≡ Turns line d v → within 1 c u ≡ asked act.Pause line d v
  stops_within line c d u v e = within_comes 0 c u _ (come.stops e)

  -- how a control comes out that has so many turns left and gets these answers
  out : Control → Still → Outcome
  out c s = after p (within s.left c s.privates) s.answers

  -- a control comes out so, if a meaning says so at all
  pub record Does (o : Outcome) (c : Control) (s : Still) : Type 0 where
    by : o ≢ Stuck → o ≢ Unfinished → out c s ≡ o

-- an action whose answer has words
abbrev pub HasWords : Act → Type 0
HasWords a = (words : List ℕ) (c : Control) → resume c (fitted a words) ≡ record c { frames = with_given (Some (fitted a words)) c.frames }

pub one_word : (m : ℕ) (words : List ℕ) (c : Control) → resume c (cut 1 m words) ≡ record c { frames = with_given (Some (cut 1 m words)) c.frames }
one_word m [] c = refl
one_word m (w ∷ words) c = refl

module _ {p : Program} where
  pub stuck : {c : Control} {s : Still} → Does p Stuck c s
  stuck = record { by = λ live done. absurd (live refl) }

  pub unfinished : {c : Control} {s : Still} → Does p Unfinished c s
  unfinished = record { by = λ live done. absurd (done refl) }

  -- a step that goes on
  pub one : {o : Outcome} {c d : Control} {s : Still} {u : List ℕ} → private_step p c s.privates ≡ Moves d u → Does p o d (record s { privates = u }) → Does p o c s
  unfolding out
  one {c = c} {d} {s} {u} e h = record { by = λ live done. ap (λ a. after p a s.answers) (moves_within p s.left c d s.privates u e) ∙ h.by live done }

  -- a step that asks
  answers_do : (answers : List Answer) (a : Act) (line : ℕ) (c d : Control) (s : Still) (k : List ℕ → Still → Outcome)
      → private_step p c s.privates ≡ Asks a line d s.privates → is_last a ≡ false
      → ((words : List ℕ) (s : Still) → Does p (k (fitted a words) s) (resume d (fitted a words)) s)
      → Does p (answered answers a line s k) c (record s { answers = answers })
  unfolding out within
  answers_do [] a line c d s k e f h = record { by = λ live done. ap (λ q. after p q []) (asks_within p s.left line a c d s.privates s.privates e) }
  answers_do (r ∷ answers) a line c d s k e f h = record {
    by = λ live done. ap (λ q. after p q (r ∷ answers)) (asks_within p s.left line a c d s.privates s.privates e)
        ∙ (ap (λ b. if b then Over else after p (ask p (resume d (fitted a r.words)) r.privates) answers) f
        ∙ (h r.words (record { left = most_turns; privates = r.privates; answers = answers })).by live done);
  }

  pub asks : {c d : Control} {s : Still} {a : Act} {line : ℕ} (k : List ℕ → Still → Outcome) → private_step p c s.privates ≡ Asks a line d s.privates → is_last a ≡ false
      → ((words : List ℕ) (s : Still) → Does p (k (fitted a words) s) (resume d (fitted a words)) s) → Does p (ask_in line a s k) c s
  asks {c} {d} {s} {a} {line} k e f h = answers_do s.answers a line c d s k e f h

  last_do : (answers : List Answer) (a : Act) (line : ℕ) (c d : Control) (s : Still) → private_step p c s.privates ≡ Asks a line d s.privates → is_last a ≡ true
      → Does p (last_asked answers a line s.privates) c (record s { answers = answers })
  unfolding out
  last_do [] a line c d s e f = record { by = λ live done. ap (λ q. after p q []) (asks_within p s.left line a c d s.privates s.privates e) }
  last_do (r ∷ answers) a line c d s e f = record {
    by = λ live done. ap (λ q. after p q (r ∷ answers)) (asks_within p s.left line a c d s.privates s.privates e)
        ∙ ap (λ b. if b then Over else after p (ask p (resume d (fitted a r.words)) r.privates) answers) f;
  }

  -- a step that asks what has no answer
  pub stops : {c d : Control} {s : Still} (a : Act) (line : ℕ) → private_step p c s.privates ≡ Asks a line d s.privates → is_last a ≡ true → Does p (stop_in line a s) c s
  stops {c} {d} {s} a line e f = last_do s.answers a line c d s e f

  pause_does : (answers : List Answer) (left line : ℕ) (c d : Control) (s : Still) (k : Still → Outcome)
      → within p left c s.privates ≡ asked p act.Pause line d s.privates
      → ((s : Still) → Does p (k s) d s)
      → Does p (answered answers act.Pause line s (λ _ s. k s)) c (record s { left = left; answers = answers })
  unfolding out within
  pause_does [] left line c d s k e h = record { by = λ live done. ap (λ q. after p q []) e }
  pause_does (r ∷ answers) left line c d s k e h = record {
    by = λ live done. ap (λ q. after p q (r ∷ answers)) e ∙ (h (record { left = most_turns; privates = r.privates; answers = answers })).by live done;
  }

  turn_does : (left line : ℕ) (c d : Control) (s : Still) (k : Still → Outcome) → private_step p c s.privates ≡ Turns line d s.privates
      → ((s : Still) → Does p (k s) d s) → Does p (turn_at left line s k) c (record s { left = left })
  unfolding out
  turn_does zero line c d s k e h = pause_does s.answers 0 line c d s k (none_left p c s.privates ∙ stops_within p line c d s.privates s.privates e) h
  turn_does (suc zero) line c d s k e h = pause_does s.answers 1 line c d s k (stops_within p line c d s.privates s.privates e) h
  turn_does (suc (suc n)) line c d s k e h = record {
    by = λ live done. ap (λ q. after p q s.answers) (turns_within p n line c d s.privates s.privates e) ∙ (h (record s { left = suc n })).by live done;
  }

  -- a step that is a turn
  pub turns : {c d : Control} {s : Still} {line : ℕ} (k : Still → Outcome) → private_step p c s.privates ≡ Turns line d s.privates
      → ((s : Still) → Does p (k s) d s) → Does p (turn_in line s k) c s
  turns {c} {d} {s} {line} k e h = turn_does s.left line c d s k e h

  -- what the control of a task comes out as
  pub task_does : {o : Outcome} (c : Control) (privates : List ℕ) (answers : List Answer)
      → Does p o c (record { left = most_turns; privates = privates; answers = answers }) → o ≢ Stuck → o ≢ Unfinished → after p (ask p c privates) answers ≡ o
  unfolding out within
  task_does c privates answers h live done = h.by live done

  pub asks_words : {c d : Control} {s : Still} {a : Act} {line : ℕ} (k : List ℕ → Still → Outcome) → private_step p c s.privates ≡ Asks a line d s.privates → is_last a ≡ false
      → HasWords a → ((v : List ℕ) (s : Still) → Does p (k v s) (record d { frames = with_given (Some v) d.frames }) s) → Does p (ask_in line a s k) c s
  asks_words {d = d} {a = a} k e f g h = asks k e f (λ words s. subst (λ c. Does p (k (fitted a words) s) c s) (sym (g words d)) (h (fitted a words) s))

  -- a step that goes by a condition
  pub branches : {A : Type 0} {c : Control} {s : Still} {env : Env} (x y : Task A) (next : A → Rest) (b : Bool) {m n : Next}
      → private_step p c s.privates ≡ (if b then m else n)
      → (private_step p c s.privates ≡ m → Does p (x env s next) c s)
      → (private_step p c s.privates ≡ n → Does p (y env s next) c s)
      → Does p ((if b then x else y) env s next) c s
  branches x y next true e f g = f e
  branches x y next false e f g = g e

  pub branching : {c : Control} {s : Still} (x y : Outcome) (b : Bool) {m n : Next}
      → private_step p c s.privates ≡ (if b then m else n)
      → (private_step p c s.privates ≡ m → Does p x c s)
      → (private_step p c s.privates ≡ n → Does p y c s)
      → Does p (if b then x else y) c s
  branching x y true e f g = f e
  branching x y false e f g = g e
