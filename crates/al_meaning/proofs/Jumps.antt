-- A control does what the meaning says from a label or rescue on.
use Rattle.std.proofs.Common.{◌≡◌, ℕ, List, [], ◌∷◌, ◌++◌, Option, Some, None, refl}
use Rattle.std.specs.Prelude.{Bool, true, false, ◌==◌, if◌then◌else◌}
use Rattle.al_typed.specs.declared.statement.TStmt.{TStmt, Block', If', Switch', Alt', Held-TStmt-If-3, Row_of-TStmt, end_of-TStmt, more_of-TStmt}
use Rattle.al_typed.specs.declared.statement.TStmt as stmt
use Rattle.al_typed.specs.StatementForms as part
use Rattle.al_meaning.specs.Items.{WhileAgain, DoCondition, ForNext, CasesEnd, Item, Frame}
use Rattle.al_meaning.specs.Parts.{LoopEnd, border, item, statements, going_on, going_on_in, going_on_in_other, first_of_two}
use Rattle.al_meaning.specs.Tasks.{Env, Still, Rest, Ways}
use Rattle.al_meaning.specs.Meant.{Part, meant, meant_all, in_loop, in_cases, inside, then_part, rest_of_round, rest_of_cases, again_while, again_do, again_for, part_from, part_from_other, part_from_row}
use Rattle.al_meaning.proofs.Does.{one}
use Rattle.al_meaning.proofs.Places.{at, DoesIt}
use Rattle.al_meaning.proofs.Ways.{Around, Within, Goes, before_row, in_body, in_selection}
use Rattle.al_meaning.proofs.Loops.{while_again, do_again, for_again}
use Rattle.al_meaning.proofs.Statements.{meant_does, all_meant}

module _ (below : List Frame) where
  -- a part that is gone through from somewhere inside it does what these items do, the last of which follow it
  abbrev pub Through : List Item → Part → List Item → Type 0
  Through items m is = (w : Ways) (env : Env) (s : Still) (next : Unit {0} → Rest) → Around w below → Within w below items → Goes w below items (next tt)
      → DoesIt w below (m w env s next) (at w below env is []) s

  abbrev pub Reaches : List Item → Option Part → Option (List Item) → Type 0
  Reaches items None None = Unit {0}
  Reaches items (Some m) (Some is) = Through items m is
  Reaches items None (Some is) = ⊥
  Reaches items (Some m) None = ⊥

  first_reaches : (items : List Item) (a : Option Part) (b : Option (List Item)) (c : Option Part) (d : Option (List Item)) → Reaches items a b → Reaches items c d → Reaches items (first_of_two a c) (first_of_two b d)
  first_reaches items None None c d x y = y
  first_reaches items (Some m) (Some is) c d x y = x
  first_reaches items None (Some is) c d x y = absurd x
  first_reaches items (Some m) None c d x y = absurd x

  here_or_inside : (items : List Item) (found : Bool) (m : Part) (is : List Item) (c : Option Part) (d : Option (List Item)) → Through items m is → Reaches items c d
      → Reaches items (if found then Some m else c) (if found then Some is else d)
  here_or_inside items true m is c d x y = x
  here_or_inside items false m is c d x y = y

  loop_reaches : (i : Item) → border i.work ≡ LoopEnd → (items : List Item) (again_by : Ways → Rest → Rest)
      → ((w : Ways) (next : Rest) → Around w below → Within w below items → Goes w below items next → Goes w below (i ∷ items) (again_by w next))
      → (a : Option Part) (b : Option (List Item)) → Reaches (i ∷ items) a b → Reaches items (inside (rest_of_round again_by) a) b
  loop_reaches i e items again_by h None None x = x
  loop_reaches i e items again_by h (Some m) (Some is) x = λ w env s next around within go.
      let back = h w (next tt) around within go in
      x (in_loop (next tt) (again_by w (next tt)) w) env s (λ _. again_by w (next tt)) around (in_body w.program w.function below i e go back within) back
  loop_reaches i e items again_by h None (Some is) x = x
  loop_reaches i e items again_by h (Some m) None x = x

  cases_reach : (line : ℕ) (items : List Item) (a : Option Part) (b : Option (List Item)) → Reaches (item line CasesEnd ∷ items) a b → Reaches items (inside rest_of_cases a) b
  cases_reach line items None None x = x
  cases_reach line items (Some m) (Some is) x = λ w env s next around within go.
      x (in_cases (next tt) w) env s next around (in_selection w.program w.function below go within) (λ env s. one refl (go env s))
  cases_reach line items None (Some is) x = x
  cases_reach line items (Some m) None x = x

  module _ (n : ℕ) where
    then_reaches : {m : _} (row : Row_of-TStmt m) (items : List Item) (a : Option Part) (b : Option (List Item)) → Reaches (statements row ++ items) a b → Reaches items (then_part a (meant_all row n)) b
    then_reaches row items None None x = x
    then_reaches row items (Some m) (Some is) x = λ w env s next around within go.
        x w env s (λ _ env s. meant_all row n w env s next) around (before_row w.program w.function below row within) (λ env s. all_meant below n row w items env s next around within go)
    then_reaches row items None (Some is) x = x
    then_reaches row items (Some m) None x = x

    mutual
      pub from_does : (l : ℕ) (a : TStmt) (items : List Item) → Reaches items (part_from l a n) (going_on l a items)
      from_does l (Block' line _ body) items = from_row l body items
      from_does l (part.label line number body) items =
          here_or_inside items (number == l) _ _ _ _ (λ w env s next around within go. meant_does below n (part.label line number body) w items env s next around within go) (from_does l body items)
      from_does l (If' line _ _ (more_of-TStmt chosen stmt.end_of-TStmt) other) items = first_reaches items _ _ _ _ (from_does l chosen items) (from_other l other items)
      from_does l (part.while_loop line test body) items =
          loop_reaches (item line (WhileAgain (part.while_loop line test body))) refl items (again_while n line test body)
          (λ w next around within go. while_again below w around items within next go line test body (meant body n) (λ w items env s next around within go. meant_does below n body w items env s next around within go) n)
          _ _ (from_does l body _)
      from_does l (part.do_loop line body test) items =
          loop_reaches (item line (DoCondition (part.do_loop line body test))) refl items (again_do n line body test)
          (λ w next around within go. do_again below w around items within next go line test body (meant body n) (λ w items env s next around within go. meant_does below n body w items env s next around within go) n)
          _ _ (from_does l body _)
      from_does l (part.for_loop line start test step body) items =
          loop_reaches (item line (ForNext (part.for_loop line start test step body))) refl items (again_for n line test step body)
          (λ w next around within go. for_again below w around items within next go line start test step body (meant body n) (λ w items env s next around within go. meant_does below n body w items env s next around within go) n)
          _ _ (from_does l body _)
      from_does l (Switch' line _ _ body) items = cases_reach line items _ _ (from_row l body _)
      from_does l (Alt' line _ body) items = cases_reach line items _ _ (from_row l body _)
      from_does l (part.rescue line number body) items =
          here_or_inside items (number == l) _ _ _ _ (λ w env s next around within go. meant_does below n body w items env s next around within go) (from_does l body items)
      from_does l _ items = tt

      from_other : (l : ℕ) (other : Held-TStmt-If-3) (items : List Item) → Reaches items (part_from_other l other n) (going_on_in_other l other items)
      from_other l stmt.None' items = tt
      from_other l (stmt.Some' _ (more_of-TStmt other stmt.end_of-TStmt)) items = from_does l other items

      from_row : (l : ℕ) {m : _} (row : Row_of-TStmt m) (items : List Item) → Reaches items (part_from_row l row n) (going_on_in l row items)
      from_row l end_of-TStmt items = tt
      from_row l (more_of-TStmt a rest) items =
          first_reaches items _ _ _ _ (then_reaches rest items _ _ (from_does l a (statements rest ++ items))) (from_row l rest items)
