-- Where a control goes on, as the ways of a meaning say.
use Rattle.std.proofs.Common.{◌≡◌, ℕ, zero, suc, ◌+◌, List, [], ◌∷◌, ◌++◌, Option, None, refl, sym, ap, subst}
use Rattle.std.specs.Prelude.{unwrap_or, sum_by}
use Rattle.al_typed.specs.declared.program.Program.{Program}
use Rattle.al_typed.specs.declared.statement.TStmt.{Case, Default, AltCase, Row_of-TStmt, end_of-TStmt, more_of-TStmt}
use Rattle.al_meaning.specs.Places.{function_at}
use Rattle.al_meaning.specs.Items.{Found, Replace, CasesEnd, Item, Frame, Control}
use Rattle.al_meaning.specs.Parts.{Inside, LoopEnd, BodyEnd, border, item, statements, behind_bodies, next_of_loop}
use Rattle.al_meaning.specs.Here.{here, moves}
use Rattle.al_meaning.specs.Calls.{only, ends, gives_block, frame_slots, slots_of}
use Rattle.al_meaning.specs.Execute.{items_from}
use Rattle.al_meaning.specs.Step.{private_step}
use Rattle.al_meaning.specs.Tasks.{Env, Still, Outcome, Rest, Ways}
use Rattle.al_meaning.specs.Meant.{Given, rest_at}
use Rattle.al_meaning.proofs.Does.{Does}
use Rattle.al_meaning.proofs.Expressions.{CallsDo}

module _ (p : Program) (function : ℕ) (below : List Frame) where
  abbrev pub framed : Env → List Item → List Found → Frame
  framed env items found = record {
    function = function;
    locals = env.locals;
    block = env.block;
    around = env.around;
    turns = env.turns;
    items = items;
    found = found;
  }

  abbrev pub control : Env → List Item → List Found → Control
  control env items found = record { entering = None; frames = framed env items found ∷ below }

  -- these items do what goes on so
  abbrev pub GoesOn : List Item → Rest → Type 0
  GoesOn items next = (env : Env) (s : Still) → Does p (next env s) (control env items []) s

  -- the ways out of a statement that are the same in all of a function
  pub record Leads (call : ℕ → List ℕ → Still → Given → Outcome) (jump : ℕ → Rest) (return : ℕ → Option (List ℕ) → Rest) (become : ℕ → ℕ → List ℕ → Rest) : Type 0 where
    pub calls : CallsDo p call (slots_of p (function_at p function) + sum_by (frame_slots p) below)
    pub jumps : (label : ℕ) → GoesOn (unwrap_or (items_from (function_at p function) label) []) (jump label)
    pub returns : (line : ℕ) (given : Option (List ℕ)) (env : Env) (s : Still) {c : Control} (items : List Item) (found : List Found)
        → private_step p c s.privates ≡ ends (here p line (framed env items found) below s.privates) given
        → Does p (return line given env s) c s
    pub becomes : (line number : ℕ) (words : List ℕ) (env : Env) (s : Still) {c : Control} (items : List Item) (found : List Found)
        → private_step p c s.privates ≡ gives_block (here p line (framed env items found) below s.privates) (Replace number words ∷ []) (moves (only (here p line (framed env items found) below s.privates) (Replace number words ∷ [])))
        → Does p (become line number words env s) c s

  -- where break and continue lead
  pub record Bodies (items : List Item) (behind again : List Rest) : Type 0 where
    pub behinds : (k : ℕ) → GoesOn (behind_bodies (suc k) items) (rest_at (suc k) behind)
    pub agains : (k : ℕ) → GoesOn (next_of_loop (suc k) items) (rest_at (suc k) again)

  same_items : {next : Rest} (old : List Item) {items : List Item} → items ≡ old → GoesOn old next → GoesOn items next
  same_items {next} old e h env s = subst (λ is. Does p (next env s) (control env is []) s) (sym e) (h env s)

  -- other statements in front change nothing
  behind_row : {m : _} (row : Row_of-TStmt m) (k : ℕ) (items : List Item) → behind_bodies (suc k) (statements row ++ items) ≡ behind_bodies (suc k) items
  behind_row end_of-TStmt k items = refl
  behind_row (more_of-TStmt (Case _ _) rest) k items = behind_row rest k items
  behind_row (more_of-TStmt Default rest) k items = behind_row rest k items
  behind_row (more_of-TStmt (AltCase _) rest) k items = behind_row rest k items
  behind_row (more_of-TStmt s rest) k items = behind_row rest k items

  next_row : {m : _} (row : Row_of-TStmt m) (k : ℕ) (items : List Item) → next_of_loop (suc k) (statements row ++ items) ≡ next_of_loop (suc k) items
  next_row end_of-TStmt k items = refl
  next_row (more_of-TStmt (Case _ _) rest) k items = next_row rest k items
  next_row (more_of-TStmt Default rest) k items = next_row rest k items
  next_row (more_of-TStmt (AltCase _) rest) k items = next_row rest k items
  next_row (more_of-TStmt s rest) zero items = next_row rest zero items
  next_row (more_of-TStmt s rest) (suc k) items = next_row rest (suc k) items

  pub before_row : {m : _} (row : Row_of-TStmt m) {items : List Item} {behind again : List Rest} → Bodies items behind again → Bodies (statements row ++ items) behind again
  before_row row {items} bodies = record {
    behinds = λ k. same_items (behind_bodies (suc k) items) (behind_row row k items) (bodies.behinds k);
    agains = λ k. same_items (next_of_loop (suc k) items) (next_row row k items) (bodies.agains k);
  }

  -- the body of a loop
  loop_behind : (i : Item) (k : ℕ) (items : List Item) → border i.work ≡ LoopEnd → behind_bodies (suc k) (i ∷ items) ≡ behind_bodies k items
  loop_behind i k items e = ap (λ b. elim b as (λ x. List Item) [ Inside ↦ behind_bodies (suc k) items | LoopEnd ↦ behind_bodies k items | BodyEnd ↦ behind_bodies k items ]) e

  loop_again : (i : Item) (items : List Item) → border i.work ≡ LoopEnd → next_of_loop 1 (i ∷ items) ≡ i ∷ items
  loop_again i items e = ap (λ b. elim b as (λ x. List Item) [ Inside ↦ next_of_loop 1 items | LoopEnd ↦ i ∷ items | BodyEnd ↦ next_of_loop 1 items ]) e

  loop_outer : (i : Item) (k : ℕ) (items : List Item) → border i.work ≡ LoopEnd → next_of_loop (suc (suc k)) (i ∷ items) ≡ next_of_loop (suc k) items
  loop_outer i k items e = ap (λ b. elim b as (λ x. List Item) [ Inside ↦ next_of_loop (suc (suc k)) items | LoopEnd ↦ next_of_loop (suc k) items | BodyEnd ↦ next_of_loop (suc (suc k)) items ]) e

  pub in_body : (i : Item) → border i.work ≡ LoopEnd → {items : List Item} {behind again : List Rest} {next repeat : Rest}
      → GoesOn items next → GoesOn (i ∷ items) repeat → Bodies items behind again → Bodies (i ∷ items) (next ∷ behind) (repeat ∷ again)
  in_body i e {items} {behind} {again} {next} {repeat} go back bodies = record { behinds = λ k. out k; agains = λ k. on k }
    where
      out : (k : ℕ) → GoesOn (behind_bodies (suc k) (i ∷ items)) (rest_at (suc k) (next ∷ behind))
      out zero = same_items items (loop_behind i zero items e) go
      out (suc k) = same_items (behind_bodies (suc k) items) (loop_behind i (suc k) items e) (bodies.behinds k)

      on : (k : ℕ) → GoesOn (next_of_loop (suc k) (i ∷ items)) (rest_at (suc k) (repeat ∷ again))
      on zero = same_items (i ∷ items) (loop_again i items e) back
      on (suc k) = same_items (next_of_loop (suc k) items) (loop_outer i k items e) (bodies.agains k)

  pub in_selection : {line : ℕ} {items : List Item} {behind again : List Rest} {next : Rest} → GoesOn items next → Bodies items behind again → Bodies (item line CasesEnd ∷ items) (next ∷ behind) again
  in_selection {line} {items} {behind} {again} {next} go bodies = record { behinds = λ k. out k; agains = λ k. on k }
    where
      out : (k : ℕ) → GoesOn (behind_bodies (suc k) (item line CasesEnd ∷ items)) (rest_at (suc k) (next ∷ behind))
      out zero = go
      out (suc k) = bodies.behinds k

      on : (k : ℕ) → GoesOn (next_of_loop (suc k) (item line CasesEnd ∷ items)) (rest_at (suc k) again)
      on zero = bodies.agains zero
      on (suc k) = bodies.agains (suc k)

-- the ways of a meaning lead where these frames and items go on
abbrev pub Around : Ways → List Frame → Type 0
Around w below = Leads w.program w.function below w.call w.jump w.return w.become

abbrev pub Within : Ways → List Frame → List Item → Type 0
Within w below items = Bodies w.program w.function below items w.behind w.again

abbrev pub Goes : Ways → List Frame → List Item → Rest → Type 0
Goes w below items next = GoesOn w.program w.function below items next
