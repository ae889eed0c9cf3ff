-- Names in expressions, each of which is asked rule 9 unless it is called. The names of members are none of these.
use Rattle.std.specs.Prelude.{ℕ, List, ◌++◌, fold, Option, None, Some}
use Rattle.al_base.specs.declared.place.Place.{Place}
use Rattle.al_tree.specs.declared.expression.Expr.{Expr, fold-Expr}
use Rattle.al_tree.specs.declared.expression.Expr.TheOpen.{Expr-F}
use Rattle.al_rules.specs.declared.fault.TypeFault.{TypeFault}
use Rattle.al_rules.specs.Outcome.{ask}
use Rattle.al_called.specs.Rules.{rule_9_is_value}

-- what a part of a text adds to the faults before it
abbrev pub Way : Type 0
Way = List TypeFault → List TypeFault

-- it adds none
abbrev pub nothing : Way
nothing faults = faults

-- parts one after the other
abbrev pub each : {A : Type 0} → (A → Way) → List A → Way
each f xs faults = fold (λ u x. f x u) faults xs

-- a part that may be missing
abbrev pub optional : {A : Type 0} → (A → Way) → Option A → Way
optional f None faults = faults
optional f (Some x) faults = f x faults

-- what an expression adds itself, which is something only where it is a name, and what is inside it
pub record Part : Type 0 where
  pub itself : Way
  pub inside : Way

-- an expression whose value is used
abbrev pub used : Part → Way
used p faults = p.inside (p.itself faults)

-- an expression that is no name
abbrev pub plain : Way → Part
plain inside = record { itself = nothing; inside = inside }

-- The names of a text.
module _ (names : List (List ℕ)) where
  abbrev pub named : Place → ℕ → Way
  named at name faults = faults ++ ask 9 at (rule_9_is_value names name)

  -- a call uses the value of what it calls, but for a name
  abbrev pub step : Expr-F Part → Part
  step (Expr-F.Number at n) = plain nothing
  step (Expr-F.Char at n) = plain nothing
  step (Expr-F.Text at bytes) = plain nothing
  step (Expr-F.Nil at) = plain nothing
  step (Expr-F.Name at name) = record { itself = named at name; inside = nothing }
  step (Expr-F.Tuple at parts) = plain (each used parts)
  step (Expr-F.Unary at op a) = plain (used a)
  step (Expr-F.Cast at to a) = plain (used a)
  step (Expr-F.SizeofType at of) = plain nothing
  step (Expr-F.SizeofValue at a) = plain (used a)
  step (Expr-F.Index at a b) = plain (λ faults. used b (used a faults))
  step (Expr-F.Member at a access name) = plain (used a)
  step (Expr-F.Call at a arguments) = plain (λ faults. each used arguments (a.inside faults))
  step (Expr-F.Postfix at op a) = plain (used a)
  step (Expr-F.Binary at op a b) = plain (λ faults. used b (used a faults))
  step (Expr-F.Iterator at a b) = plain (λ faults. used b (used a faults))
  step (Expr-F.Assign at op a b) = plain (λ faults. used b (used a faults))
  step (Expr-F.Sequence at parts) = plain (each used parts)

  unfoldable pub part : Expr → Part
  part = fold-Expr Part step

  abbrev pub itself : Expr → Way
  itself e = (part e).itself

  abbrev pub inside : Expr → Way
  inside e = (part e).inside

  -- an expression whose value is used
  abbrev pub expr : Expr → Way
  expr e = used (part e)
