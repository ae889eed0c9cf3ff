-- What trees of statements with statements in them give has the labels and rescues of these.
use Rattle.std.proofs.Common.{◌≡◌, ℕ, ◌+◌, false, List, [], ◌∷◌, ◌++◌, length, Option, Some, None, refl, sym, ◌∙◌}
use Rattle.std.specs.Prelude.{⊤, nat_le}
use Rattle.al_base.specs.declared.arith.Kind.{Kind}
use Rattle.al_base.specs.declared.place.Place.{Place}
use Rattle.al_rules.specs.Outcome.{Outcome, Good, Bad, and_then, ask, pair}
use Rattle.al_tree.specs.declared.expression.Expr.{Expr}
use Rattle.al_typed.specs.declared.expression.TExpr.{TExpr}
use Rattle.al_typed.specs.declared.statement.TStmt.{TStmt}
use Rattle.al_typed.specs.declared.statement.TStmt.TheVariants as stmt
use Rattle.al_typed.specs.Typed.{type_of}
use Rattle.al_convert.specs.Kinds.{kind_of}
use Rattle.al_environment.specs.declared.environment.Environment.{Environment}
use Rattle.al_environment.specs.declared.environment.Here.{Here}
use Rattle.al_flow.specs.declared.mark.Mark.{Mark}
use Rattle.al_flow.specs.declared.mark.Mark.TheVariants as mark
use Rattle.al_flow.specs.Targets.{number_at as target_at}
use Rattle.al_statements.specs.Cases.{no_cases}
use Rattle.al_type_expr.specs.Lists.{each}
use Rattle.al_type_stmt.specs.declared.within.Choice.{Choice}
use Rattle.al_type_stmt.specs.declared.within.Choice.TheVariants as choice
use Rattle.al_type_stmt.specs.declared.within.Within.{Within}
use Rattle.al_type_stmt.specs.Numbers.{number_of}
use Rattle.al_type_stmt.specs.Statements.{Part, alt_at, alt_of, block_at, condition_of, do_at, for_at, for_head, if_made, in_choice, inner, label_at, label_faults, labelled, of_each, places, rescue_at, switch_at, switch_in, switch_of, switch_on, target, while_at}
use Rattle.al_sound_operators.specs.Typed.{IfGood}
use Rattle.al_sound_operators.proofs.Outcomes.{after, also, paired}
use Rattle.al_sound_statements.proofs.StatementLists.{anything, if_either, judged_any}
use Rattle.al_sound_flow.proofs.Typed.{AreNumbered, IsNumbered, IsNumberedIf, both_numbered, none_numbered, numbered_Alt, numbered_Block, numbered_Do, numbered_For, numbered_If, numbered_Label, numbered_Rescue, numbered_Switch, numbered_While}

-- ---- lists

pub each_none : (c : Choice) (from : ℕ) → IfGood (of_each (in_choice c) []) (AreNumbered from [])
unfolding each
each_none c from = none_numbered from

pub each_more : (c : Choice) (from : ℕ) (own more : List Mark) (p : Part) (ps : List Part) → IfGood (p.way c) (IsNumbered from own) → IfGood (of_each (in_choice c) ps) (AreNumbered (from + length own) more)
    → IfGood (of_each (in_choice c) (p ∷ ps)) (AreNumbered from (own ++ more))
unfolding each
each_more c from own more p ps h k = both_numbered from own more (p.way c) (of_each (in_choice c) ps) h k

-- ---- the number of a label or rescue

numbered_at : (rule : ℕ) (at : Place) (o : Option ℕ) → IfGood (number_of rule at o) (λ n. o ≡ Some n)
numbered_at rule at None = tt
numbered_at rule at (Some n) = if_either (λ m. Some n ≡ Some m) (nat_le n 4294967295) (Good n) (Bad (ask rule at false)) refl tt

some_is : {A : Type 0} {a b : A} → Some a ≡ Some b → a ≡ b
some_is e = cc

-- ---- by the kind of a statement

module _ (from : ℕ) (own : List Mark) where
  abbrev Has : TStmt → Type 0
  Has = IsNumbered from own

  pub block_has : (at : Place) (ps : List Part) → IfGood (of_each inner ps) (AreNumbered from own) → IfGood (block_at at ps) Has
  unfolding block_at
  block_has at ps h = after (AreNumbered from own) Has (of_each inner ps) _ h (λ ss q. numbered_Block from own at.line ss q)

  pub alt_has : (at : Place) (ps : List Part) → IfGood (of_each (in_choice choice.Alt) ps) (AreNumbered from own) → IfGood (alt_at at ps) Has
  unfolding alt_at
  alt_has at ps h = after (AreNumbered from own) Has (of_each (in_choice choice.Alt) ps) (alt_of at) h (λ ss q. judged_any Has _ (stmt.Alt at.line ss) (numbered_Alt from own at.line ss q))

  switch_in_has : (line : ℕ) (ps : List Part) (v : TExpr) (k : Kind) → IfGood (of_each (in_choice (choice.Switch k)) ps) (AreNumbered from own) → IfGood (switch_in line ps v k) Has
  unfolding switch_in
  switch_in_has line ps v k h =
      after (AreNumbered from own) Has (of_each (in_choice (choice.Switch k)) ps) (labelled line (places ps) v) h
      (λ ss q. judged_any Has (label_faults no_cases (places ps) ss) (stmt.Switch line v ss) (numbered_Switch from own line v ss q))

  switch_on_has : (at : Place) (ps : List Part) (v : TExpr) → ((c : Choice) → IfGood (of_each (in_choice c) ps) (AreNumbered from own)) → IfGood (switch_on at ps v) Has
  unfolding switch_on
  switch_on_has at ps v h = on (kind_of (type_of v))
    where
      on : (o : Option Kind) → IfGood (switch_of at ps v o) Has
      on None = tt
      on (Some k) = switch_in_has at.line ps v k (h (choice.Switch k))

  pub switch_has : (env : Environment) (here : Here) (at : Place) (e : Expr) (ps : List Part) → ((c : Choice) → IfGood (of_each (in_choice c) ps) (AreNumbered from own)) → IfGood (switch_at env here at e ps) Has
  unfolding switch_at
  switch_has env here at e ps h = after (λ v. ⊤) Has _ (switch_on at ps) (anything _) (λ v q. switch_on_has at ps v h)

  pub while_has : (env : Environment) (here : Here) (at : Place) (e : Expr) (o : Outcome TStmt) → IfGood o Has → IfGood (while_at env here at e o) Has
  unfolding while_at
  while_has env here at e o h =
      after (λ (p : TExpr × TStmt). ⊤ × Has p.1) Has (pair (condition_of env here e) o) _ (paired (λ (v : TExpr). ⊤) Has (condition_of env here e) o (anything (condition_of env here e)) h)
      (λ p q. numbered_While from own at.line p.0 p.1 q.1)

  pub do_has : (env : Environment) (here : Here) (at : Place) (o : Outcome TStmt) (e : Expr) → IfGood o Has → IfGood (do_at env here at o e) Has
  unfolding do_at
  do_has env here at o e h =
      after (λ (p : TStmt × TExpr). Has p.0 × ⊤) Has (pair o (condition_of env here e)) _ (paired Has (λ (v : TExpr). ⊤) o (condition_of env here e) h (anything (condition_of env here e)))
      (λ p q. numbered_Do from own at.line p.0 p.1 q.0)

  pub for_has : (env : Environment) (here : Here) (at : Place) (start e next : Option Expr) (o : Outcome TStmt) → IfGood o Has → IfGood (for_at env here at start e next o) Has
  unfolding for_at
  for_has env here at start e next o h =
      after (λ (p : (Option TExpr × (Option TExpr × Option TExpr)) × TStmt). ⊤ × Has p.1) Has (pair (for_head env here start e next) o) _
      (paired (λ (v : Option TExpr × (Option TExpr × Option TExpr)). ⊤) Has (for_head env here start e next) o (anything (for_head env here start e next)) h)
      (λ p q. numbered_For from own at.line p.0.0 p.0.1.0 p.0.1.1 p.1 q.1)

  pub if_has : (more : List Mark) (at : Place) (condition : Outcome TExpr) (met : Outcome TStmt) (other : Outcome (Option TStmt)) → IfGood met Has → IfGood other (IsNumberedIf (from + length own) more)
      → IfGood (if_made at condition met other) (IsNumbered from (own ++ more))
  unfolding if_made
  if_has more at condition met other h k =
      after (λ (p : TExpr × (TStmt × Option TStmt)). ⊤ × (Has p.1.0 × IsNumberedIf (from + length own) more p.1.1)) (IsNumbered from (own ++ more)) (pair condition (pair met other)) _
      (paired (λ (v : TExpr). ⊤) (λ (p : TStmt × Option TStmt). Has p.0 × IsNumberedIf (from + length own) more p.1) condition (pair met other) (anything condition)
      (paired Has (IsNumberedIf (from + length own) more) met other h k))
      (λ p q. numbered_If from own more at.line p.0 p.1.0 p.1.1 q.1.0 q.1.1)

  pub no_other : IsNumberedIf (from + length own) [] None
  no_other = record { labels = refl; rescues = refl }

  pub other_has : (more : List Mark) (o : Outcome TStmt) → IfGood o (IsNumbered (from + length own) more) → IfGood (and_then o (λ y. Good (Some y))) (IsNumberedIf (from + length own) more)
  other_has more o h = after (IsNumbered (from + length own) more) (IsNumberedIf (from + length own) more) o _ h (λ t q. record { labels = q.labels; rescues = q.rescues })

  module _ (w : Within) (at : Place) (there : target_at w.targets at ≡ Some from) (o : Outcome TStmt) (h : IfGood o (IsNumbered (from + 1) own)) where
    number_is : (rule : ℕ) → IfGood (target w rule at) (λ n. n ≡ from)
    number_is rule = also (λ n. target_at w.targets at ≡ Some n) (λ n. n ≡ from) (target w rule at) (numbered_at rule at (target_at w.targets at)) (λ n q. some_is (sym q ∙ there))

    pub label_has : (name : ℕ) → IfGood (label_at w at o) (IsNumbered from (mark.Label name ∷ own))
    unfolding label_at
    label_has name =
        after (λ (p : TStmt × ℕ). IsNumbered (from + 1) own p.0 × (p.1 ≡ from)) (IsNumbered from (mark.Label name ∷ own)) (pair o (target w 50 at)) _
        (paired (IsNumbered (from + 1) own) (λ n. n ≡ from) o (target w 50 at) h (number_is 50))
        (λ p q. numbered_Label from name own at.line p.1 p.0 q.1 q.0)

    pub rescue_has : (name : Option ℕ) → IfGood (rescue_at w at o) (IsNumbered from (mark.Rescue name ∷ own))
    unfolding rescue_at
    rescue_has name =
        after (λ (p : TStmt × ℕ). IsNumbered (from + 1) own p.0 × (p.1 ≡ from)) (IsNumbered from (mark.Rescue name ∷ own)) (pair o (target w 51 at)) _
        (paired (IsNumbered (from + 1) own) (λ n. n ≡ from) o (target w 51 at) h (number_is 51))
        (λ p q. numbered_Rescue from name own at.line p.1 p.0 q.1 q.0)
