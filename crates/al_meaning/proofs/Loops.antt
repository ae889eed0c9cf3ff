-- A control does what the meaning says of loops.
use Rattle.std.proofs.Common.{◌≡◌, ℕ, zero, suc, ◌+◌, List, [], ◌∷◌, Option, Some, None, refl}
use Rattle.std.specs.Prelude.{Bool, true, false, if◌then◌else◌}
use Rattle.al_typed.specs.declared.expression.TExpr.{TExpr}
use Rattle.al_typed.specs.declared.statement.TStmt.{TStmt}
use Rattle.al_typed.specs.StatementForms as part
use Rattle.al_meaning.specs.Words.{is_zero, is_below}
use Rattle.al_meaning.specs.Items.{Found, Bounds, Iterate, NextTurn, WhileAgain, DoCondition, ForCondition, ForNext, ForAgain, Item, Frame, Control}
use Rattle.al_meaning.specs.Parts.{item, to_do}
use Rattle.al_meaning.specs.Execute.{next_turn, while_test, for_test}
use Rattle.al_meaning.specs.Step.{private_step}
use Rattle.al_meaning.specs.Tasks.{Env, Still, Rest, Task, ◌>>◌, give, Ways, in_line, a_turn}
use Rattle.al_meaning.specs.Told.{value, told}
use Rattle.al_meaning.specs.Meant.{Part, condition, optionally, then_next, in_loop, while_rounds, do_rounds, for_rounds, set_turn, turns_of, iterated, evaluated}
use Rattle.al_meaning.proofs.Does.{unfinished, one, turns, branches, branching}
use Rattle.al_meaning.proofs.Places.{at, place, val, DoesIt}
use Rattle.al_meaning.proofs.Expressions.{expr_does}
use Rattle.al_meaning.proofs.Ways.{Around, Within, Goes, in_body}
use Rattle.al_meaning.proofs.Clauses.{evaluated_does, optionally_does}

module _ (below : List Frame) where
  -- a statement's part does so, wherever it stands
  abbrev pub Behaves : Part → Item → Type 0
  Behaves m i = (w : Ways) (items : List Item) (env : Env) (s : Still) (next : Unit {0} → Rest) → Around w below → Within w below items → Goes w below items (next tt)
      → DoesIt w below (m w env s next) (at w below env (i ∷ items) []) s

  module _ (w : Ways) (around : Around w below) (items : List Item) (within : Within w below items) (next : Rest) (go : Goes w below items next) (line : ℕ) where
    abbrev here : Ways
    here = in_line line w

    -- ---- while

    module _ (test : TExpr) (body : TStmt) (m : Part) (body_does : Behaves m (to_do body)) where
      abbrev again_by_while : ℕ → Rest
      again_by_while n = then_next (a_turn here) (while_rounds n (value (told test here)) m here next)

      abbrev round_by_while : ℕ → Rest
      round_by_while n env s = m (in_loop next (again_by_while n) here) env s (λ _. again_by_while n)

      while_test_does : (n : ℕ) (b : Bool) (env : Env) (s : Still) {c : Control}
          → private_step w.program c s.privates ≡ while_test (part.while_loop line test body) b (place here below env items [] s)
          → Goes w below (to_do body ∷ item line (WhileAgain (part.while_loop line test body)) ∷ items) (round_by_while n)
          → DoesIt w below (if b then next env s else round_by_while n env s) c s
      while_test_does n true env s e h = one e (go env s)
      while_test_does n false env s e h = one e (h env s)

      pub while_does : (n : ℕ) → Goes w below (to_do (part.while_loop line test body) ∷ items) (while_rounds n (value (told test here)) m here next)
      while_does zero env s = unfinished
      while_does (suc n) env s =
          one refl (expr_does here below around.calls test env s _ (val here below _ (λ v env s.
          while_test_does n (is_zero v) env s refl (λ env s. body_does (in_loop next (again_by_while n) here) _ env s (λ _. again_by_while n) around
          (in_body w.program w.function below (item line (WhileAgain (part.while_loop line test body))) refl go (λ env s. turns _ refl (λ s. while_does n env s)) within)
          (λ env s. turns _ refl (λ s. while_does n env s))))))

      -- after its body
      pub while_again : (n : ℕ) → Goes w below (item line (WhileAgain (part.while_loop line test body)) ∷ items) (again_by_while n)
      while_again n env s = turns _ refl (λ s. while_does n env s)

    -- ---- do

    module _ (test : TExpr) (body : TStmt) (m : Part) (body_does : Behaves m (to_do body)) where
      abbrev do_loop : TStmt
      do_loop = part.do_loop line body test

      abbrev again_by_do : ℕ → Rest
      again_by_do n env s = value (told test here) env s (λ v env s. if is_zero v then next env s else then_next (a_turn here) (do_rounds n (value (told test here)) m here next) env s)

      do_condition_does : (n : ℕ) → Goes w below (to_do do_loop ∷ items) (do_rounds n (value (told test here)) m here next)
          → Goes w below (item line (DoCondition do_loop) ∷ items) (again_by_do n)
      do_condition_does n h env s =
          one refl (expr_does here below around.calls test env s _ (val here below _ (λ v env s.
          branching (next env s) (then_next (a_turn here) (do_rounds n (value (told test here)) m here next) env s) (is_zero v) refl
          (λ e. one e (go env s)) (λ e. turns _ e (λ s. h env s)))))

      pub do_does : (n : ℕ) → Goes w below (to_do do_loop ∷ items) (do_rounds n (value (told test here)) m here next)
      do_does zero env s = unfinished
      do_does (suc n) env s =
          one refl (body_does (in_loop next (again_by_do n) here) _ env s (λ _. again_by_do n) around
          (in_body w.program w.function below (item line (DoCondition do_loop)) refl go (do_condition_does n (do_does n)) within)
          (do_condition_does n (do_does n)))

      pub do_again : (n : ℕ) → Goes w below (item line (DoCondition do_loop) ∷ items) (again_by_do n)
      do_again n = do_condition_does n (do_does n)

    -- ---- for

    module _ (start test step : Option TExpr) (body : TStmt) (m : Part) (body_does : Behaves m (to_do body)) where
      abbrev for_loop : Option TExpr → TStmt
      for_loop test = part.for_loop line start test step body

      abbrev rounds : ℕ → Option TExpr → Rest
      rounds n test = for_rounds n (condition test here) (optionally step here) m here next

      abbrev again_by_for : ℕ → Option TExpr → Rest
      again_by_for n test = then_next (optionally step here) (then_next (a_turn here) (rounds n test))

      for_next_does : (n : ℕ) (test : Option TExpr) → Goes w below (item line (ForCondition (for_loop test)) ∷ items) (rounds n test)
          → Goes w below (item line (ForNext (for_loop test)) ∷ items) (again_by_for n test)
      for_next_does n test h env s =
          one refl (optionally_does here below around.calls step (ForAgain (for_loop test) ∷ []) items env s _ (λ env s. turns _ refl (λ s. h env s)))

      for_body_does : (n : ℕ) (test : Option TExpr) → Goes w below (item line (ForCondition (for_loop test)) ∷ items) (rounds n test)
          → Goes w below (to_do body ∷ item line (ForNext (for_loop test)) ∷ items) (λ env s. m (in_loop next (again_by_for n test) here) env s (λ _. again_by_for n test))
      for_body_does n test h env s =
          body_does (in_loop next (again_by_for n test) here) _ env s (λ _. again_by_for n test) around
          (in_body w.program w.function below (item line (ForNext (for_loop test))) refl go (for_next_does n test h) within)
          (for_next_does n test h)

      for_test_does : (n : ℕ) (b : Bool) (test : Option TExpr) (env : Env) (s : Still) {c : Control}
          → private_step w.program c s.privates ≡ for_test (for_loop test) b (place here below env items [] s)
          → Goes w below (item line (ForCondition (for_loop test)) ∷ items) (rounds n test)
          → DoesIt w below (if b then next env s else m (in_loop next (again_by_for n test) here) env s (λ _. again_by_for n test)) c s
      for_test_does n true test env s e h = one e (go env s)
      for_test_does n false test env s e h = one e (for_body_does n test h env s)

      rounds_do : (n : ℕ) (test : Option TExpr) → Goes w below (item line (ForCondition (for_loop test)) ∷ items) (rounds n test)
      rounds_do zero test env s = unfinished
      rounds_do (suc n) None env s = one refl (for_body_does n None (rounds_do n None) env s)
      rounds_do (suc n) (Some e) env s =
          one refl (expr_does here below around.calls e env s _ (val here below _ (λ v env s.
          for_test_does n (is_zero v) (Some e) env s refl (rounds_do n (Some e)))))

      pub for_does : (n : ℕ) → Goes w below (item line (ForCondition (for_loop test)) ∷ items) (rounds n test)
      for_does n = rounds_do n test

      pub for_again : (n : ℕ) → Goes w below (item line (ForNext (for_loop test)) ∷ items) (again_by_for n test)
      for_again n = for_next_does n test (rounds_do n test)

  -- ---- iterators

  module _ (w : Ways) (around : Around w below) (e : TExpr) where
    turns_do : (j number : ℕ) (b : Bounds) (rest : List Bounds) (inner : Task (Unit {0}))
        → ((items : List Item) (fs : List Found) (env : Env) (s : Still) (next : Unit {0} → Rest) → ((env : Env) (s : Still) → DoesIt w below (next tt env s) (at w below env items fs) s)
        → DoesIt w below (inner env s next) (at w below env (item w.line (Iterate (number + 1) rest e) ∷ items) fs) s)
        → (items : List Item) {fs : List Found} (env : Env) (s : Still) (next : Unit {0} → Rest) → ((env : Env) (s : Still) → DoesIt w below (next tt env s) (at w below env items fs) s)
        → DoesIt w below (turns_of j number b w inner env s next) (at w below env (item w.line (Iterate number (b ∷ rest) e) ∷ items) fs) s
    turns_do zero number b rest inner inner_does items env s next h = unfinished
    turns_do (suc j) number b rest inner inner_does items env s next h =
        branches (set_turn number b.from >> inner >> a_turn w >> turns_of j number (next_turn b) w inner) (give tt) next (is_below b.from b.to) refl
        (λ q. one q (inner_does (item w.line (NextTurn number b rest e) ∷ items) _ _ s _ (λ env s. turns _ refl (λ s. turns_do j number (next_turn b) rest inner inner_does items env s next h))))
        (λ q. one q (h env s))

    pub iterated_does : (n number : ℕ) (bounds : List Bounds) (items : List Item) {fs : List Found} (env : Env) (s : Still) (next : Unit {0} → Rest)
        → ((env : Env) (s : Still) → DoesIt w below (next tt env s) (at w below env items fs) s)
        → DoesIt w below (iterated n number bounds w (evaluated e w) env s next) (at w below env (item w.line (Iterate number bounds e) ∷ items) fs) s
    iterated_does n number [] items env s next h = one refl (evaluated_does w below around.calls e items env s next h)
    iterated_does n number (b ∷ rest) items env s next h =
        turns_do n number b rest (iterated n (number + 1) rest w (evaluated e w)) (λ items fs env s next h. iterated_does n (number + 1) rest items env s next h) items env s next h
