-- Lists of parts, from each part on.
use Rattle.std.proofs.Common.{◌≡◌, true, false, ◌-◌, ◌<◌, List, [], ◌∷◌, ◌++◌, length, take, Some, refl, ap, ◌∙◌, append_assoc, length-append, arith}
use Rattle.std.proofs.Math.Seq.{take-append_seam}
use Rattle.std.specs.Prelude.{slice_get}
use Rattle.al_base.specs.declared.place.Place.{Place}
use Rattle.al_rules.specs.declared.fault.TypeStop.{TypeStop}
use Rattle.al_rules.specs.declared.fault.TypeStop.TheVariants.{Fault as Broken, NoMemory}
use Rattle.al_rules.specs.Outcome.{Outcome, Good, Bad, ask, both, permits}
use Rattle.al_typed.specs.declared.ty.Ty.{Ty}
use Rattle.al_typed.specs.declared.expression.TExpr.{TExpr}
use Rattle.al_operands.specs.declared.operand.Operand.{Operand}
use Rattle.al_type_expr.specs.declared.columns.Columns.{Columns}
use Rattle.al_type_expr.specs.Lists.{no_columns, with_part, with_last_part, arguments, sequence, sequenced, with_last}
use Rattle.al_type_expr.specs.Nodes.{targets}

-- ---- tuples

-- with these parts before them
abbrev pub joined : Columns → Outcome Columns → Outcome Columns
joined d (Good c) = Good (record { types = d.types ++ c.types; values = d.values ++ c.values; written = d.written ++ c.written })
joined d (Bad fs) = Bad fs

pub joined-nil : (o : Outcome Columns) → joined no_columns o ≡ o
joined-nil (Good c) = refl
joined-nil (Bad fs) = refl

pub joined-cons : (d : Columns) (x : Operand) (o : Outcome Columns) → joined d (both (Good x) o (λ x c. Good (with_part x c))) ≡ joined (with_last_part d x) o
joined-cons d x (Good c) =
    simp append_assoc
joined-cons d x (Bad fs) = refl

pub permits-joined : (d : Columns) (o : Outcome Columns) (s : TypeStop) → permits o s ≡ true → permits (joined d o) s ≡ true
permits-joined d o NoMemory h = refl
permits-joined d (Good c) (Broken f) h = cc
permits-joined d (Bad fs) (Broken f) h = h

pub ruleset columns_are = (joined-nil, joined-cons, permits-joined)

-- ---- as many as there are

pub too_few-arguments : (at : Place) (ps : List Ty) → 0 < length ps → arguments at ps [] ≡ Bad (ask 35 at false)
unfolding arguments
too_few-arguments at [] h = absurd (omega arith)
too_few-arguments at (p ∷ ps) h = refl

pub ruleset too_few = (too_few-arguments)

pub too_few-targets : (at : Place) (ts : List Ty) → 0 < length ts → targets at [] ts ≡ Bad (ask 40 at false)
unfolding targets
too_few-targets at [] h = absurd (omega arith)
too_few-targets at (t ∷ ts) h = refl

pub ruleset targets_are = (too_few-targets)

-- ---- sequences

last_of : {A : Type 0} (xs : List A) (x : A) → slice_get (xs ++ x ∷ []) (length xs) ≡ Some x
last_of [] x = refl
last_of (y ∷ xs) x = last_of xs x

front_length : {A : Type 0} (xs : List A) (x : A) → length (xs ++ x ∷ []) - 1 ≡ length xs
front_length xs x = omega (arith, length-append xs (x ∷ []))

sequenced_front : (at : Place) (front : List TExpr) (last : TExpr) → sequenced at (front ++ last ∷ []) ≡ Good (sequence front last)
unfolding sequenced
sequenced_front at front last =
    ap (λ k. with_last at (take k (front ++ last ∷ [])) (slice_get (front ++ last ∷ []) k)) (front_length front last)
    ∙ ap (λ l. with_last at l (slice_get (front ++ last ∷ []) (length front))) (take-append_seam front (last ∷ []))
    ∙ ap (with_last at front) (last_of front last)

pub sequenced_last : (at : Place) (es front : List TExpr) (last : TExpr) → es ≡ front ++ last ∷ [] → sequenced at es ≡ Good (sequence front last)
sequenced_last at es front last h = ap (sequenced at) h ∙ sequenced_front at front last

pub sequenced_none : (at : Place) → sequenced at [] ≡ Bad (ask 44 at false)
unfolding sequenced
sequenced_none at = refl

pub ruleset sequences = (sequenced_last, sequenced_none)
