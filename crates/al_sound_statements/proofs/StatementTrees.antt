-- Trees of statements, by the statements in them.
use Rattle.std.proofs.Common.{◌≡◌, ℕ, ◌+◌, List, [], ◌∷◌, map, Some, None, sym, subst}
use Rattle.al_tree.specs.declared.statement.Stmt.{Stmt, fold-roll-Stmt, map-Stmt, out-Stmt, roll-Stmt}
use Rattle.al_tree.specs.declared.statement.Stmt.TheViews.{out-roll-Stmt}
use Rattle.al_tree.specs.declared.statement.Stmt.TheFolds.{ind-Stmt}
use Rattle.al_tree.specs.declared.statement.Stmt.TheOpen.{Stmt-F}
use Rattle.al_tree_walks.specs.Statements.{Standing}
use Rattle.al_typed.specs.WellTyped.{Scope}
use Rattle.al_environment.specs.declared.environment.Environment.{Environment}
use Rattle.al_environment.specs.declared.environment.Here.{Here}
use Rattle.al_type_stmt.specs.declared.within.Within.{Within}
use Rattle.al_type_stmt.specs.declared.within.Choice.TheVariants as choice
use Rattle.al_type_stmt.specs.Statements.{Part, part, part_step}
use Rattle.al_sound_expressions.specs.Expressions.{Every}
use Rattle.al_sound_statements.specs.Statements.{AreFitStatements, EachInside, IsFitAt, IsPart, StandsAt, StatementsAreSound}
use Rattle.al_sound_statements.proofs.Known.{Laws}
use Rattle.al_sound_statements.proofs.StatementParts.{way_is}

module _ (law : Laws) (s : Scope) (number : ℕ) (w : Within) (env : Environment) (here : Here) (trees : List Standing) (fits : AreFitStatements s number w env here trees) where
  abbrev Sound : Stmt → Type 0
  Sound x = (b l : ℕ) → StandsAt trees b l x → IsPart s number b l (part w env here x)

  abbrev Checked : Type 0
  Checked = (x : Stmt) × Sound x

  abbrev tree_of : Stmt-F Checked → Stmt-F Stmt
  tree_of y = map-Stmt Checked Stmt (λ c. c.0) y

  abbrev parts_of : Stmt-F Stmt → Stmt-F Part
  parts_of z = map-Stmt Stmt Part (part w env here) z

  every_part : (b l : ℕ) (ys : List Checked) → Every (StandsAt trees b l) (map (λ y. y.0) ys) → Every (IsPart s number b l) (map (part w env here) (map (λ y. y.0) ys))
  every_part b l [] h = tt
  every_part b l (y ∷ ys) h = (y.1 b l h.0, every_part b l ys h.1)

  each_part : (b l : ℕ) (y : Stmt-F Checked) → EachInside (StandsAt trees) b l (tree_of y) → EachInside (IsPart s number) b l (parts_of (tree_of y))
  each_part b l (Stmt-F.Empty at) h = tt
  each_part b l (Stmt-F.Block at body) h = every_part b l body h
  each_part b l (Stmt-F.Declare at base variables) h = tt
  each_part b l (Stmt-F.Value at e) h = tt
  each_part b l (Stmt-F.Label at name body) h = body.1 b l h
  each_part b l (Stmt-F.If at e met None) h = (met.1 b l h.0, tt)
  each_part b l (Stmt-F.If at e met (Some other)) h = (met.1 b l h.0, other.1 b l h.1)
  each_part b l (Stmt-F.While at e body) h = body.1 (b + 1) (l + 1) h
  each_part b l (Stmt-F.Do at body e) h = body.1 (b + 1) (l + 1) h
  each_part b l (Stmt-F.For at start e next body) h = body.1 (b + 1) (l + 1) h
  each_part b l (Stmt-F.Switch at e body) h = every_part (b + 1) l body h
  each_part b l (Stmt-F.Alt at body) h = every_part (b + 1) l body h
  each_part b l (Stmt-F.Case at e) h = tt
  each_part b l (Stmt-F.Default at) h = tt
  each_part b l (Stmt-F.Par at branches) h = tt
  each_part b l (Stmt-F.Rescue at name body) h = body.1 b l h
  each_part b l (Stmt-F.Raise at name) h = tt
  each_part b l (Stmt-F.Return at e) h = tt
  each_part b l (Stmt-F.Become at e) h = tt
  each_part b l (Stmt-F.Break at count) h = tt
  each_part b l (Stmt-F.Continue at count) h = tt
  each_part b l (Stmt-F.Goto at name) h = tt
  each_part b l (Stmt-F.Alloc at es) h = tt
  each_part b l (Stmt-F.Unalloc at es) h = tt
  each_part b l (Stmt-F.Check at e text) h = tt
  each_part b l (Stmt-F.Proc at es) h = tt
  each_part b l (Stmt-F.Task at es) h = tt

  step_is : (b l : ℕ) (z : Stmt-F Part) → EachInside (IsPart s number) b l z → IsFitAt s number w env here b l z → IsPart s number b l (part_step w env here z)
  step_is b l z h k c = way_is law s number w env here fits.tells b l c fits.returns fits.sound z h k

  by_parts : (y : Stmt-F Checked) → Sound (roll-Stmt (tree_of y))
  unfolding part
  by_parts y b l m =
      let z = tree_of y in
      let same : out-Stmt (roll-Stmt z) ≡ z = out-roll-Stmt z in
      let x : Standing = record { tree = roll-Stmt z; breaks = b; loops = l } in
      let parts = subst (EachInside (StandsAt trees) b l) same (fits.parts x m) in
      let fit = subst (λ v. IsFitAt s number w env here b l (parts_of v)) same (fits.fit x m) in
      subst (IsPart s number b l) (sym (fold-roll-Stmt Part (part_step w env here) z)) (step_is b l (parts_of z) (each_part b l y parts) fit)

  pub tree_is : (x : Stmt) (b l : ℕ) → StandsAt trees b l x → IsPart s number b l (part w env here x)
  tree_is = ind-Stmt Sound (λ x y is. subst (λ z. Sound (roll-Stmt z)) is (by_parts y))

pub statements_are : Laws → StatementsAreSound
statements_are law = record {
  part = λ s number w env here trees fits x c. tree_is law s number w env here trees fits x.tree x.breaks x.loops c;
  body = λ s number w env here trees fits tree m. tree_is law s number w env here trees fits tree 0 0 m choice.Neither;
}
