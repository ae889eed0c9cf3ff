-- Where labels and rescues stand, and what goes on from them.
use Rattle.std.proofs.Common.{◌≡◌, ℕ, ◌+◌, ◌<◌, ◌≤◌, List, ◌∷◌, ◌++◌, length, get_or, drop, Option, Some, None, refl, sym, ap, ap₂, ◌∙◌}
use Rattle.std.proofs.lemmas.List.{drop_more, drop_all}
use Rattle.std.specs.Prelude.{◌==◌, ◌||◌, if◌then◌else◌, Bool, true, false}
use Rattle.al_typed.specs.declared.expression.TExpr.{TExpr}
use Rattle.al_typed.specs.declared.statement.TStmt as stmt
use Rattle.al_typed.specs.declared.statement.TStmt.{TStmt, Block', If', Switch', Alt', Held-TStmt-If-3, Row_of-TStmt, end_of-TStmt, more_of-TStmt, items-the_row-TStmt, items_hidden-the_row-TStmt-0}
use Rattle.al_typed.specs.declared.statement.TStmt.TheBlock.{hidden-the_row-TStmt-0, hidden-the_row-TStmt-1}
use Rattle.al_typed.specs.declared.statement.TStmt.TheVariants as variant
use Rattle.al_typed.specs.StatementForms as part
use denote.Hole.Carrier.{hidden}
use Rattle.al_meaning.specs.Items.{Item, WhileAgain, DoCondition, ForNext, CasesEnd}
use Rattle.al_meaning.specs.Parts as parts
use Rattle.al_meaning.specs.Parts.{first_of_two, going_on, item, statements, to_do}
use Rattle.al_walk_loops.specs.BodyParts.{statements_in}
use Rattle.al_walk_jumps.specs.Labelled.{going_on_in, going_on_other, other_holds}
use Rattle.al_walk_jumps.specs.Holds.{holds, holds_in, holds_in_other, any_holds}
use Rattle.al_walk_loops.proofs.StatementRows.{statements_items}

-- ---- where they do not stand, nothing goes on

nothing_first : (a b : Bool) → a || b ≡ false → a ≡ false
nothing_first false b e = refl
nothing_first true b e = absurd (cc)

nothing_then : (a b : Bool) → a || b ≡ false → b ≡ false
nothing_then false b e = e
nothing_then true b e = absurd (cc)

skipped : {A : Type 0} (b c : Bool) (x y : A) → b || c ≡ false → (if b then x else y) ≡ y
skipped false c x y e = refl
skipped true c x y e = absurd (cc)

neither : (a b : Option (List Item)) → a ≡ None → b ≡ None → first_of_two a b ≡ None
neither a b e f = ap₂ first_of_two e f

mutual
  pub not_held : (n : ℕ) (s : TStmt) (rest : List Item) → holds n s ≡ false → going_on n s rest ≡ None
  not_held n (Block' line k body) rest e = not_held_in n body rest e
  not_held n (part.label line number body) rest e =
      skipped (number == n) (holds n body) _ _ e ∙ not_held n body rest (nothing_then (number == n) (holds n body) e)
  not_held n (If' line condition k (more_of-TStmt chosen end_of-TStmt) other) rest e =
      neither (going_on n chosen rest) (parts.going_on_in_other n other rest)
      (not_held n chosen rest (nothing_first (holds n chosen) (holds_in_other n other) e))
      (not_held_other n other rest (nothing_then (holds n chosen) (holds_in_other n other) e))
  not_held n (part.while_loop line condition body) rest e = not_held n body _ e
  not_held n (part.do_loop line body condition) rest e = not_held n body _ e
  not_held n (part.for_loop line start condition step body) rest e = not_held n body _ e
  not_held n (Switch' line value k body) rest e = not_held_in n body _ e
  not_held n (Alt' line k body) rest e = not_held_in n body _ e
  not_held n (part.rescue line number body) rest e =
      skipped (number == n) (holds n body) _ _ e ∙ not_held n body rest (nothing_then (number == n) (holds n body) e)
  not_held n _ rest e = refl

  not_held_other : (n : ℕ) (other : Held-TStmt-If-3) (rest : List Item) → holds_in_other n other ≡ false → parts.going_on_in_other n other rest ≡ None
  not_held_other n stmt.None' rest e = refl
  not_held_other n (stmt.Some' k (more_of-TStmt other end_of-TStmt)) rest e = not_held n other rest e

  not_held_in : (n : ℕ) {m : _} (body : Row_of-TStmt m) (rest : List Item) → holds_in n body ≡ false → parts.going_on_in n body rest ≡ None
  not_held_in n end_of-TStmt rest e = refl
  not_held_in n (more_of-TStmt s more) rest e =
      neither (going_on n s (statements more ++ rest)) (parts.going_on_in n more rest)
      (not_held n s (statements more ++ rest) (nothing_first (holds n s) (holds_in n more) e))
      (not_held_in n more rest (nothing_then (holds n s) (holds_in n more) e))

-- ---- rows as lists

holds_items : (n : ℕ) {m : _} (row : Row_of-TStmt m) → holds_in n row ≡ any_holds n (items-the_row-TStmt m row)
holds_items n end_of-TStmt = refl
holds_items n (more_of-TStmt s more) = ap (λ b. holds n s || b) (holds_items n more)

pub any_is : (n : ℕ) (body : List TStmt) → holds_in n (hidden-the_row-TStmt-0 body) ≡ any_holds n body
any_is n body = holds_items n (hidden-the_row-TStmt-0 body) ∙ ap (any_holds n) (items_hidden-the_row-TStmt-0 body)

going_items : (n : ℕ) {m : _} (row : Row_of-TStmt m) (rest : List Item) → parts.going_on_in n row rest ≡ going_on_in n (items-the_row-TStmt m row) rest
going_items n end_of-TStmt rest = refl
going_items n (more_of-TStmt s more) rest =
    ap₂ first_of_two (ap (λ its. going_on n s (its ++ rest)) (statements_items more)) (going_items n more rest)

pub going_is : (n : ℕ) (body : List TStmt) (rest : List Item) → parts.going_on_in n (hidden-the_row-TStmt-0 body) rest ≡ going_on_in n body rest
going_is n body rest = going_items n (hidden-the_row-TStmt-0 body) rest ∙ ap (λ b. going_on_in n b rest) (items_hidden-the_row-TStmt-0 body)

-- ---- each statement

pub holds-Block : (n line : ℕ) (body : List TStmt) → holds n (variant.Block line body) ≡ any_holds n body
holds-Block n line body = any_is n body

pub holds-Label : (n line number : ℕ) (body : TStmt) → holds n (variant.Label line number body) ≡ (number == n) || holds n body
unfolding hidden-the_row-TStmt-1 hidden
holds-Label n line number body = refl

pub holds-If : (n line : ℕ) (condition : TExpr) (chosen : TStmt) (other : Option TStmt)
    → holds n (variant.If line condition chosen other) ≡ holds n chosen || other_holds n other
unfolding hidden-the_row-TStmt-1 hidden
holds-If n line condition chosen None = refl
holds-If n line condition chosen (Some other) = refl

pub holds-While : (n line : ℕ) (condition : TExpr) (body : TStmt) → holds n (variant.While line condition body) ≡ holds n body
unfolding hidden-the_row-TStmt-1 hidden
holds-While n line condition body = refl

pub holds-Do : (n line : ℕ) (body : TStmt) (condition : TExpr) → holds n (variant.Do line body condition) ≡ holds n body
unfolding hidden-the_row-TStmt-1 hidden
holds-Do n line body condition = refl

pub holds-For : (n line : ℕ) (start condition step : Option TExpr) (body : TStmt) → holds n (variant.For line start condition step body) ≡ holds n body
unfolding hidden-the_row-TStmt-1 hidden
holds-For n line start condition step body = refl

pub holds-Switch : (n line : ℕ) (value : TExpr) (body : List TStmt) → holds n (variant.Switch line value body) ≡ any_holds n body
holds-Switch n line value body = any_is n body

pub holds-Alt : (n line : ℕ) (body : List TStmt) → holds n (variant.Alt line body) ≡ any_holds n body
holds-Alt n line body = any_is n body

pub holds-Rescue : (n line number : ℕ) (body : TStmt) → holds n (variant.Rescue line number body) ≡ (number == n) || holds n body
unfolding hidden-the_row-TStmt-1 hidden
holds-Rescue n line number body = refl

pub ruleset held = (holds-Block, holds-Label, holds-If, holds-While, holds-Do, holds-For, holds-Switch, holds-Alt, holds-Rescue)

-- ---- what goes on

pub going-Block : (n line : ℕ) (body : List TStmt) (rest : List Item) → going_on n (variant.Block line body) rest ≡ going_on_in n body rest
going-Block n line body rest = going_is n body rest

pub going-Label : (n line number : ℕ) (body : TStmt) (rest : List Item)
    → going_on n (variant.Label line number body) rest ≡ (if number == n then Some (to_do (variant.Label line number body) ∷ rest) else going_on n body rest)
unfolding hidden-the_row-TStmt-1 hidden
going-Label n line number body rest = refl

pub going-If : (n line : ℕ) (condition : TExpr) (chosen : TStmt) (other : Option TStmt) (rest : List Item)
    → going_on n (variant.If line condition chosen other) rest ≡ first_of_two (going_on n chosen rest) (going_on_other n other rest)
unfolding hidden-the_row-TStmt-1 hidden
going-If n line condition chosen None rest = refl
going-If n line condition chosen (Some other) rest = refl

pub going-While : (n line : ℕ) (condition : TExpr) (body : TStmt) (rest : List Item)
    → going_on n (variant.While line condition body) rest ≡ going_on n body (item line (WhileAgain (variant.While line condition body)) ∷ rest)
unfolding hidden-the_row-TStmt-1 hidden
going-While n line condition body rest = refl

pub going-Do : (n line : ℕ) (body : TStmt) (condition : TExpr) (rest : List Item)
    → going_on n (variant.Do line body condition) rest ≡ going_on n body (item line (DoCondition (variant.Do line body condition)) ∷ rest)
unfolding hidden-the_row-TStmt-1 hidden
going-Do n line body condition rest = refl

pub going-For : (n line : ℕ) (start condition step : Option TExpr) (body : TStmt) (rest : List Item)
    → going_on n (variant.For line start condition step body) rest
    ≡ going_on n body (item line (ForNext (variant.For line start condition step body)) ∷ rest)
unfolding hidden-the_row-TStmt-1 hidden
going-For n line start condition step body rest = refl

pub going-Switch : (n line : ℕ) (value : TExpr) (body : List TStmt) (rest : List Item)
    → going_on n (variant.Switch line value body) rest ≡ going_on_in n body (item line CasesEnd ∷ rest)
going-Switch n line value body rest = going_is n body (item line CasesEnd ∷ rest)

pub going-Alt : (n line : ℕ) (body : List TStmt) (rest : List Item)
    → going_on n (variant.Alt line body) rest ≡ going_on_in n body (item line CasesEnd ∷ rest)
going-Alt n line body rest = going_is n body (item line CasesEnd ∷ rest)

pub going-Rescue : (n line number : ℕ) (body : TStmt) (rest : List Item)
    → going_on n (variant.Rescue line number body) rest ≡ (if number == n then Some (to_do body ∷ rest) else going_on n body rest)
unfolding hidden-the_row-TStmt-1 hidden
going-Rescue n line number body rest = refl

pub ruleset goings = (going-Block, going-Label, going-If, going-While, going-Do, going-For, going-Switch, going-Alt, going-Rescue)

-- ---- the first statement that has it

-- one that does not is passed
pub held_later : (n : ℕ) (body : List TStmt) (k : ℕ) (s : TStmt) → k < length body → s ≡ get_or body k s → holds n s ≡ false
    → any_holds n (drop k body) ≡ any_holds n (drop (k + 1) body)
held_later n body k s below is e =
    ap (any_holds n) (drop_more body k s below)
    ∙ ap (λ y. holds n y || any_holds n (drop (k + 1) body)) (sym is)
    ∙ ap (λ b. b || any_holds n (drop (k + 1) body)) e

pub going_later : (n : ℕ) (body : List TStmt) (k : ℕ) (s : TStmt) (rest : List Item) → k < length body → s ≡ get_or body k s → holds n s ≡ false
    → going_on_in n (drop k body) rest ≡ going_on_in n (drop (k + 1) body) rest
going_later n body k s rest below is e =
    let more = drop (k + 1) body in
    ap (λ b. going_on_in n b rest) (drop_more body k s below)
    ∙ ap (λ y. first_of_two (going_on n y (statements_in more ++ rest)) (going_on_in n more rest)) (sym is)
    ∙ ap (λ o. first_of_two o (going_on_in n more rest)) (not_held n s (statements_in more ++ rest) e)

-- one that does goes on, before those behind it
pub going_here : (n : ℕ) (body : List TStmt) (k : ℕ) (s : TStmt) (rest its : List Item) → k < length body → s ≡ get_or body k s
    → going_on n s (statements_in (drop (k + 1) body) ++ rest) ≡ Some its → going_on_in n (drop k body) rest ≡ Some its
going_here n body k s rest its below is e =
    let more = drop (k + 1) body in
    ap (λ b. going_on_in n b rest) (drop_more body k s below)
    ∙ ap (λ y. first_of_two (going_on n y (statements_in more ++ rest)) (going_on_in n more rest)) (sym is)
    ∙ ap (λ o. first_of_two o (going_on_in n more rest)) e

-- none does
pub held_past : (n : ℕ) (body : List TStmt) (k : ℕ) → length body ≤ k → any_holds n (drop k body) ≡ false
held_past n body k past = ap (any_holds n) (drop_all k body past)
