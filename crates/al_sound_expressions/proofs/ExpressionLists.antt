-- Lists of parts: of tuples, arguments, prints and sequences.
use Rattle.std.proofs.Common.{◌≡◌, ℕ, zero, suc, ◌-◌, true, List, [], ◌∷◌, map, take, length, Option, Some, None, refl, ap, ap₂, ◌∙◌, subst}
use Rattle.std.specs.Prelude.{All, slice_get}
use Rattle.std.proofs.lemmas.List.Elements.{All-cons, All-head, All-nil, All-tail}
use Rattle.al_base.specs.declared.place.Place.{Place}
use Rattle.al_rules.specs.Outcome.{Outcome, Good, Bad, both}
use Rattle.al_typed.specs.declared.ty.Ty.{Ty}
use Rattle.al_typed.specs.declared.ty.Ty.TheVariants as ty
use Rattle.al_typed.specs.declared.expression.TExpr.{TExpr}
use Rattle.al_typed.specs.declared.expression.TExpr.TheVariants as expr
use Rattle.al_typed.specs.Types.{is_whole}
use Rattle.al_typed.specs.Typed.{type_of}
use Rattle.al_typed.specs.WellTyped.{Scope, is_small, is_sound, rows}
use Rattle.al_typed.proofs.ValueRules.{EachValue, IsValue-Sequence, IsValue-Tuple}
use Rattle.al_convert.specs.Same.{all_pass, pass}
use Rattle.al_operands.specs.declared.operand.Operand.{Operand}
use Rattle.al_operands.specs.Operands.{taken}
use Rattle.al_type_expr.specs.declared.columns.Columns.{Columns}
use Rattle.al_type_expr.specs.Lists.{argument, arguments, columns, each, print_of, prints, rule_18_tuple, sequence, sequenced, small_tuple, tuple, with_last, with_part}
use Rattle.al_sound_operators.specs.Typed.{IfGood, IsOperand, IsTyped, has_type}
use Rattle.al_sound_operators.specs.Operands.{IsOf}
use Rattle.al_sound_operators.specs.Operators.{IsPrinted}
use Rattle.al_sound_nodes.specs.Nodes.{IsFound, is_passed}
use Rattle.al_sound_expressions.specs.Expressions.{Every}
use Rattle.al_sound_operators.proofs.TypeForms.{parts_of-Tuple}
use Rattle.al_sound_operators.proofs.SameTypes.{and_both}
use Rattle.al_sound_operators.proofs.SoundTypes.{tuple_is_whole}
use Rattle.al_sound_operators.proofs.Literals.{has_type-Tuple}
use Rattle.al_sound_operators.proofs.Outcomes.{after, asked}
use Rattle.al_sound_operators.proofs.OperandsAre.{taken_is}
use Rattle.al_sound_operators.proofs.CastsAre.{printable_is}
use Rattle.al_sound_operators.proofs.PlacesAre.{both_true}
use Rattle.al_sound_nodes.proofs.NodesAre.{each_passed, usable_typed}
use Rattle.al_sound_expressions.proofs.TargetsAre.{sound-Tuple}

-- two parts, where what holds of them makes what holds of both
pub both_hold : {A B C : Type 0} (P : A → Type 0) (Q : B → Type 0) (R : C → Type 0) (x : Outcome A) (y : Outcome B) (f : A → B → Outcome C)
    → IfGood x P → IfGood y Q → ((a : A) (b : B) → P a → Q b → IfGood (f a b) R) → IfGood (both x y f) R
both_hold P Q R (Good a) (Good b) f h k g = g a b h k
both_hold P Q R (Good a) (Bad bs) f h k g = tt
both_hold P Q R (Bad fs) (Good b) f h k g = tt
both_hold P Q R (Bad fs) (Bad bs) f h k g = tt

-- ---- tuples

pub record AreColumns (s : Scope) (c : Columns) : Type 0 where
  pub types : c.types ≡ map type_of c.values
  pub values : EachValue s c.values
  pub passed : each_passed (rows s) c.types ≡ true
  pub written : all_pass (map has_type c.written) c.types ≡ true

part_columns : (s : Scope) (x : Operand) (c : Columns) → IsOperand s x → AreColumns s c → AreColumns s (with_part x c)
part_columns s x c o a = record {
  types = ap (λ ts. type_of x.value ∷ ts) a.types;
  values = (o.usable.value, a.values);
  passed = both_true (is_passed (rows s) (type_of x.value)) (each_passed (rows s) c.types) (both_true (is_sound (rows s) (type_of x.value)) (is_whole (rows s) (type_of x.value)) o.usable.sound o.usable.whole) a.passed;
  written = both_true (has_type x.written (type_of x.value)) (all_pass (map has_type c.written) c.types) o.written a.written;
}

pub columns_are : (s : Scope) (xs : List (Outcome Operand)) → Every (λ x. IfGood x (IsOperand s)) xs → IfGood (columns xs) (AreColumns s)
unfolding columns
columns_are s [] h = record { types = refl; values = tt; passed = refl; written = refl }
columns_are s (x ∷ xs) h =
    both_hold (IsOperand s) (AreColumns s) (AreColumns s) x (columns xs) (λ x c. Good (with_part x c)) h.0 (columns_are s xs h.1) (λ x c o a. part_columns s x c o a)

tuple_is : (s : Scope) (c : Columns) → AreColumns s c → is_small (rows s) (ty.Tuple c.types) ≡ true → IsFound s (tuple c)
unfolding tuple
tuple_is s c a small =
    let sound = sound-Tuple (rows s) c.types a.passed small in
    record {
      typed = usable_typed s (expr.Tuple (ty.Tuple c.types) c.values) (record {
        value = rw (IsValue-Tuple s (ty.Tuple c.types) c.values) ((sound, (a.values, ap ty.Tuple a.types)));
        sound = sound;
        whole = tuple_is_whole (rows s) c.types sound;
      });
      written = has_type-Tuple c.written (ty.Tuple c.types) ∙ ap (pass (map has_type c.written)) (parts_of-Tuple c.types) ∙ a.written;
    }

pub small_tuple_is : (s : Scope) (at : Place) (c : Columns) → AreColumns s c → IfGood (small_tuple (rows s) at c) (IsFound s)
unfolding small_tuple
small_tuple_is s at c a = asked (IsFound s) 18 at (rule_18_tuple (rows s) c.types) (tuple c) (λ q. tuple_is s c a q)

-- ---- arguments

pub record AreArguments (s : Scope) (ps : List Ty) (es : List TExpr) : Type 0 where
  pub values : EachValue s es
  pub types : map type_of es ≡ ps

pub arguments_are : (s : Scope) (at : Place) (ps : List Ty) (xs : List (Outcome Operand)) → All (λ t. is_passed (rows s) t ≡ true) ps → Every (λ x. IfGood x (IsOperand s)) xs
    → IfGood (arguments at ps xs) (AreArguments s ps)
unfolding arguments
arguments_are s at [] [] a h = record { values = tt; types = refl }
arguments_are s at [] (x ∷ xs) a h = tt
arguments_are s at (p ∷ ps) [] a h = tt
arguments_are s at (p ∷ ps) (x ∷ xs) a h =
    both_hold (IsOf s p) (AreArguments s ps) (AreArguments s (p ∷ ps)) (argument at p x) (arguments at ps xs) (λ e es. Good (e ∷ es))
    (after (IsOperand s) (IsOf s p) x (taken 35 at p) h.0 (λ y o. taken_is s 35 at p y o (and_both (is_sound (rows s) p) (is_whole (rows s) p) (All-head (λ t. is_passed (rows s) t ≡ true) p ps a)).0))
    (arguments_are s at ps xs (All-tail (λ t. is_passed (rows s) t ≡ true) p ps a) h.1)
    (λ e es u v. record { values = (u.usable.value, v.values); types = ap₂ (λ (t : Ty) (ts : List Ty). t ∷ ts) u.is v.types })

pub prints_are : (s : Scope) (xs : List (Outcome Operand)) → Every (λ x. IfGood x (IsOperand s)) xs → IfGood (prints xs) (All (IsPrinted s))
unfolding prints
prints_are s [] h = All-nil (IsPrinted s)
prints_are s (x ∷ xs) h =
    both_hold (IsPrinted s) (All (IsPrinted s)) (All (IsPrinted s)) (print_of x) (prints xs) (λ e es. Good (e ∷ es))
    (after (IsOperand s) (IsPrinted s) x _ h.0 (λ y o. printable_is s y.value o.usable))
    (prints_are s xs h.1)
    (λ e es u v. All-cons (IsPrinted s) e es u v)

-- ---- sequences

pub each_is : {A : Type 0} (P : A → Type 0) (xs : List (Outcome A)) → Every (λ x. IfGood x P) xs → IfGood (each xs) (Every P)
unfolding each
each_is P [] h = tt
each_is P (x ∷ xs) h = both_hold P (Every P) (Every P) x (each xs) (λ e es. Good (e ∷ es)) h.0 (each_is P xs h.1) (λ e es u v. (u, v))

every_value : (s : Scope) (n : ℕ) (es : List TExpr) → Every (IsTyped s) es → EachValue s (take n es)
every_value s zero es h = tt
every_value s (suc n) [] h = tt
every_value s (suc n) (e ∷ es) h = (h.0.value, every_value s n es h.1)

every_at : {A : Type 0} (P : A → Type 0) (xs : List A) (k : ℕ) (x : A) → Every P xs → slice_get xs k ≡ Some x → P x
every_at P [] k x h e = absurd (cc)
every_at P (y ∷ xs) zero x h e = subst P (cc) h.0
every_at P (y ∷ xs) (suc k) x h e = every_at P xs k x h.1 e

sequence_is : (s : Scope) (first : List TExpr) (last : TExpr) → EachValue s first → IsTyped s last → IsTyped s (sequence first last)
unfolding sequence
sequence_is s first last v t = record {
  value = rw (IsValue-Sequence s (type_of last) first last) ((v, (t.value, refl)));
  sound = t.sound;
  whole = t.whole;
}

pub sequenced_is : (s : Scope) (at : Place) (es : List TExpr) → Every (IsTyped s) es → IfGood (sequenced at es) (IsTyped s)
unfolding sequenced
sequenced_is s at es h = on (slice_get es (length es - 1)) refl
  where
    on : (o : Option TExpr) → slice_get es (length es - 1) ≡ o → IfGood (with_last at (take (length es - 1) es) o) (IsTyped s)
    on None e = tt
    on (Some last) e = sequence_is s (take (length es - 1) es) last (every_value s (length es - 1) es h) (every_at (IsTyped s) es (length es - 1) last h e)
