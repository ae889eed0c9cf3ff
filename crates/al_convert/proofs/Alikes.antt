-- Types that are the same for every rule, by their two definitions.
use Rattle.std.proofs.Common.{◌≡◌, ℕ, Bool, true, false, ◌&&◌, ◌==◌, if◌then◌else◌, List, [], ◌∷◌, Some, None, refl, sym, ap, ap₂, ◌∙◌}
use Rattle.al_base.specs.declared.arith.Kind.{Kind}
use Rattle.al_base.specs.declared.arith.Kind.TheVariants as kind
use Rattle.al_typed.specs.declared.ty.Ty.{Ty, Void, Integer, Pointer', Array', Chan', Tuple', Aggregate as Aggregate_, Function', Row_of-Ty, end_of-Ty, more_of-Ty, items-the_row-Ty}
use Rattle.al_typed.specs.declared.ty.Ty.TheVariants as ty
use Rattle.al_typed.specs.declared.ty.Ty.TheViews.{out-Ty, roll-out-Ty}
use Rattle.al_typed.specs.declared.ty.Ty.TheBlock.{hidden-the_row-Ty-0, hidden-the_row-Ty-1, shown-the_row-Ty-0, shown-the_row-Ty-1}
use denote.Hole.Carrier.{hidden, out, shown}
use Rattle.al_typed.specs.Types.{is_void}
use Rattle.al_convert.specs.Same as by_fold
use Rattle.al_convert.specs.Same.{same, same_list, are_same, passes, is_of_kind, is_aggregate, parts_of, pointed, chan_element, array_element, returns_of, parameters_of}
use Rattle.al_convert.proofs.SameIs.{same-Void, same-Integer, same-Pointer, same-Array, same-Chan, same-Tuple, same-Aggregate, same-Function}
use Rattle.al_convert.proofs.RowItems.{items_are, tuple_rolls}
use Rattle.al_typed.specs.Alike.{are_alike, all_alike, same_kind}

and_true : (b : Bool) → b ≡ (b && true)
and_true true = refl
and_true false = refl

kinds : (k j : Kind) → by_fold.same_kind k j ≡ same_kind k j
kinds kind.Byte kind.Byte = refl
kinds kind.Byte _ = refl
kinds kind.Sint kind.Sint = refl
kinds kind.Sint _ = refl
kinds kind.Usint kind.Usint = refl
kinds kind.Usint _ = refl
kinds kind.Int kind.Int = refl
kinds kind.Int _ = refl
kinds kind.Uint kind.Uint = refl
kinds kind.Uint _ = refl
kinds kind.Lint kind.Lint = refl
kinds kind.Lint _ = refl
kinds kind.Ulint kind.Ulint = refl
kinds kind.Ulint _ = refl

void_alike : (b : Ty) → is_void b ≡ are_alike Void b
unfolding is_void out-Ty out
void_alike Void = refl
void_alike _ = refl

integer_alike : (k : Kind) (b : Ty) → is_of_kind k b ≡ are_alike (Integer k) b
unfolding is_of_kind out-Ty out
integer_alike k (Integer j) = kinds k j
integer_alike k _ = refl

aggregate_alike : (n : ℕ) (b : Ty) → is_aggregate n b ≡ are_alike (Aggregate_ n) b
unfolding is_aggregate out-Ty out
aggregate_alike n (Aggregate_ m) = refl
aggregate_alike n _ = refl

pointer_alike : (x : Ty) → ((y : Ty) → same false x y ≡ are_alike x y) → (b : Ty) → passes (same false x) (pointed b) ≡ are_alike (ty.Pointer x) b
unfolding pointed out-Ty out hidden-the_row-Ty-0 shown-the_row-Ty-0 hidden shown
pointer_alike x h (Pointer' _ (more_of-Ty y end_of-Ty)) = h y ∙ and_true (are_alike x y)
pointer_alike x h _ = refl

and_false : (b : Bool) → false ≡ (b && false)
and_false true = refl
and_false false = refl

counted : (x y : Ty) (e : Bool) → same false x y ≡ are_alike x y
    → passes (same false x) (if e then Some y else None) ≡ ((are_alike x y && true) && e)
counted x y true h = h ∙ and_true (are_alike x y) ∙ and_true (are_alike x y && true)
counted x y false h = and_false (are_alike x y && true)

array_alike : (x : Ty) (n : ℕ) → ((y : Ty) → same false x y ≡ are_alike x y) → (b : Ty) → passes (same false x) (array_element n b) ≡ are_alike (ty.Array x n) b
unfolding array_element out-Ty out hidden-the_row-Ty-0 shown-the_row-Ty-0 hidden shown
array_alike x n h (Array' _ (more_of-Ty y end_of-Ty) m) = counted x y (n == m) (h y)
array_alike x n h _ = refl

chan_alike : (x : Ty) (n : ℕ) → ((y : Ty) → same false x y ≡ are_alike x y) → (b : Ty) → passes (same false x) (chan_element false n b) ≡ are_alike (ty.Chan x n) b
unfolding chan_element out-Ty out hidden-the_row-Ty-0 shown-the_row-Ty-0 hidden shown
chan_alike x n h (Chan' _ (more_of-Ty y end_of-Ty) m) = h y ∙ and_true (are_alike x y)
chan_alike x n h _ = refl

-- a row of types is the same as each other row that it is to be compared with
abbrev Alike_row : {m : _} → Row_of-Ty m → Type 0
Alike_row {m} r = (n : _) (q : Row_of-Ty n) → same_list false (items-the_row-Ty m r) (items-the_row-Ty n q) ≡ all_alike r q

tuple_alike : (s : _) (r : Row_of-Ty _) → Alike_row r → (b : Ty) → are_same false (items-the_row-Ty _ r) (parts_of b) ≡ are_alike (Tuple' s r) b
unfolding parts_of out-Ty out
tuple_alike s r h (Tuple' t q) = ap (same_list false (items-the_row-Ty _ r)) (sym (items_are t q)) ∙ h _ q
tuple_alike s r h _ = refl

function_alike : (x : Ty) (s : _) (r : Row_of-Ty _) → ((y : Ty) → same false x y ≡ are_alike x y) → Alike_row r → (b : Ty)
    → (passes (same false x) (returns_of b) && are_same false (items-the_row-Ty _ r) (parameters_of b)) ≡ are_alike (Function' tt (more_of-Ty x end_of-Ty) s r) b
unfolding returns_of parameters_of out-Ty out shown-the_row-Ty-0 shown
function_alike x s r h k (Function' _ (more_of-Ty y end_of-Ty) t q) =
    ap₂ (λ (a b : Bool). a && b) (h y ∙ and_true (are_alike x y)) (ap (same_list false (items-the_row-Ty _ r)) (sym (items_are t q)) ∙ k _ q)
function_alike x s r h k _ = refl

tuple_is : (s : _) (r : Row_of-Ty _) → Tuple' s r ≡ ty.Tuple (items-the_row-Ty _ r)
tuple_is s r = tuple_rolls s r ∙ ap ty.Tuple (sym (items_are s r))

function_is : (x : Ty) (s : _) (r : Row_of-Ty _) → Function' tt (more_of-Ty x end_of-Ty) s r ≡ ty.Function x (items-the_row-Ty _ r)
unfolding out-Ty out shown-the_row-Ty-0 shown
function_is x s r =
    sym (roll-out-Ty (Function' tt (more_of-Ty x end_of-Ty) s r)) ∙ ty.rolls-Function x (shown-the_row-Ty-1 s r) ∙ ap (ty.Function x) (sym (items_are s r))

mutual
  unfolding hidden-the_row-Ty-0 hidden

  alike_types : (a b : Ty) → same false a b ≡ are_alike a b
  alike_types Void b = same-Void false b ∙ void_alike b
  alike_types (Integer k) b = same-Integer false k b ∙ integer_alike k b
  alike_types (Pointer' _ (more_of-Ty x end_of-Ty)) b = same-Pointer false x b ∙ pointer_alike x (alike_types x) b
  alike_types (Array' _ (more_of-Ty x end_of-Ty) n) b = same-Array false x n b ∙ array_alike x n (alike_types x) b
  alike_types (Chan' _ (more_of-Ty x end_of-Ty) n) b = same-Chan false x n b ∙ chan_alike x n (alike_types x) b
  alike_types (Tuple' s r) b = ap (λ a. same false a b) (tuple_is s r) ∙ same-Tuple false (items-the_row-Ty _ r) b ∙ tuple_alike s r (alike_rows r) b
  alike_types (Aggregate_ n) b = same-Aggregate false n b ∙ aggregate_alike n b
  alike_types (Function' _ (more_of-Ty x end_of-Ty) s r) b =
      ap (λ a. same false a b) (function_is x s r)
      ∙ same-Function false x (items-the_row-Ty _ r) b
      ∙ function_alike x s r (alike_types x) (alike_rows r) b

  alike_rows : {m : _} (r : Row_of-Ty m) → Alike_row r
  alike_rows end_of-Ty _ end_of-Ty = refl
  alike_rows end_of-Ty _ (more_of-Ty y q) = refl
  alike_rows (more_of-Ty x r) _ end_of-Ty = refl
  alike_rows (more_of-Ty x r) _ (more_of-Ty y q) = ap₂ (λ (a b : Bool). a && b) (alike_types x y) (alike_rows r _ q)

pub alike : (a b : Ty) → same false a b ≡ are_alike a b
alike a b = alike_types a b

-- ---- types of functions, part by part

lists_alike : (xs ys : List Ty) → same_list false xs ys ≡ are_alike (ty.Tuple xs) (ty.Tuple ys)
unfolding hidden-the_row-Ty-1 hidden
lists_alike [] [] = refl
lists_alike [] (y ∷ ys) = refl
lists_alike (x ∷ xs) [] = refl
lists_alike (x ∷ xs) (y ∷ ys) = ap₂ (λ a b. a && b) (alike x y) (lists_alike xs ys)

by_parts : (x y : Ty) (xs ys : List Ty) → ((are_alike x y && true) && are_alike (ty.Tuple xs) (ty.Tuple ys)) ≡ are_alike (ty.Function x xs) (ty.Function y ys)
unfolding hidden-the_row-Ty-0 hidden-the_row-Ty-1 hidden
by_parts x y xs ys = refl

pub functions_alike : (x y : Ty) (xs ys : List Ty) → (same false x y && same_list false xs ys) ≡ are_alike (ty.Function x xs) (ty.Function y ys)
functions_alike x y xs ys =
    ap₂ (λ a b. a && b) (alike x y ∙ and_true (are_alike x y)) (lists_alike xs ys) ∙ by_parts x y xs ys
