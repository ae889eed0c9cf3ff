-- Types that are the same for every rule are the same to all others, and have the same values.
use Rattle.std.proofs.Common.{◌≡◌, ℕ, List, [], ◌∷◌, ◌++◌, refl, sym, ap, ap₂, ◌∙◌, subst, arith}
use Rattle.std.specs.Prelude.{Bool, true, false, ◌&&◌, nat_eq}
use Rattle.std.specs.List.{AllByRecursion, flat_map}
use Rattle.std.proofs.lemmas.Grind.{common_steps}
use Rattle.al_base.specs.declared.arith.Kind.{Kind}
use Rattle.al_base.specs.declared.arith.Kind.TheVariants as kind
use Rattle.al_typed.specs.declared.layout.Unit.{Unit as StorageUnit}
use Rattle.al_typed.specs.declared.program.Program.{Program}
use Rattle.al_typed.specs.declared.ty.Ty.{Ty, Void, Integer, Pointer', Array', Chan', Tuple', Aggregate, Function', Row_of-Ty, end_of-Ty, more_of-Ty, items-the_row-Ty, items_hidden-the_row-Ty-1}
use Rattle.al_typed.specs.declared.ty.Ty.TheVariants as ty
use Rattle.al_typed.specs.declared.ty.Ty.TheViews.{out-Ty}
use Rattle.al_typed.specs.declared.ty.Ty.TheBlock.{hidden-the_row-Ty-0, hidden-the_row-Ty-1}
use denote.Hole.Carrier.{hidden, out}
use Rattle.al_typed.specs.TyFold.{fold_ty, fold_types}
use Rattle.al_typed.specs.Types.{is_void, is_array}
use Rattle.al_typed.specs.Layout.{Layout, layout, layout_of, layout_step, layouts_after, in_order, repeated}
use Rattle.al_meaning.specs.Here.{units_in}
use Rattle.al_typed.specs.Alike.{are_alike, all_alike, same_kind}
use Rattle.al_lower_values.proofs.Calls.{SameCalls}

both_true : (a b : Bool) → (a && b) ≡ true → (a ≡ true) × (b ≡ true)
both_true true true e = (refl, refl)
both_true true false e = absurd (cc)
both_true false b e = absurd (cc)

both_hold : (a b : Bool) → a ≡ true → b ≡ true → (a && b) ≡ true
both_hold true b p q = q
both_hold false b p q = p

kind_self : (k : Kind) → same_kind k k ≡ true
kind_self kind.Byte = refl
kind_self kind.Sint = refl
kind_self kind.Usint = refl
kind_self kind.Int = refl
kind_self kind.Uint = refl
kind_self kind.Lint = refl
kind_self kind.Ulint = refl

number_self : (n : ℕ) → nat_eq n n ≡ true
number_self n = grind (arith, common_steps)

kinds_are : (k j : Kind) → same_kind k j ≡ true → k ≡ j
kinds_are kind.Byte kind.Byte e = refl
kinds_are kind.Sint kind.Sint e = refl
kinds_are kind.Usint kind.Usint e = refl
kinds_are kind.Int kind.Int e = refl
kinds_are kind.Uint kind.Uint e = refl
kinds_are kind.Lint kind.Lint e = refl
kinds_are kind.Ulint kind.Ulint e = refl
kinds_are _ _ e = absurd (cc)

numbers_are : (n m : ℕ) → nat_eq n m ≡ true → n ≡ m
numbers_are n m e = grind (arith, common_steps, e)

mutual
  pub alike_same : (a b : Ty) → are_alike a b ≡ true → (c : Ty) → are_alike a c ≡ are_alike b c
  alike_same Void Void e c = refl
  alike_same (Integer k) (Integer j) e c = ap (λ q. are_alike (Integer q) c) (kinds_are k j e)
  alike_same (Pointer' _ a) (Pointer' _ b) e (Pointer' _ c) = all_alike_same a b e c
  alike_same (Pointer' _ a) (Pointer' _ b) e _ = refl
  alike_same (Array' _ a n) (Array' _ b m) e (Array' _ c l) = let q = both_true (all_alike a b) (nat_eq n m) e in ap₂ (λ x y. x && y) (all_alike_same a b q.0 c) (ap (λ i. nat_eq i l) (numbers_are n m q.1))
  alike_same (Array' _ a n) (Array' _ b m) e _ = refl
  alike_same (Chan' _ a n) (Chan' _ b m) e (Chan' _ c l) = all_alike_same a b e c
  alike_same (Chan' _ a n) (Chan' _ b m) e _ = refl
  alike_same (Tuple' _ a) (Tuple' _ b) e (Tuple' _ c) = all_alike_same a b e c
  alike_same (Tuple' _ a) (Tuple' _ b) e _ = refl
  alike_same (Aggregate n) (Aggregate m) e c = ap (λ q. are_alike (Aggregate q) c) (numbers_are n m e)
  alike_same (Function' _ a _ ps) (Function' _ b _ qs) e (Function' _ c _ rs) = let q = both_true (all_alike a b) (all_alike ps qs) e in ap₂ (λ x y. x && y) (all_alike_same a b q.0 c) (all_alike_same ps qs q.1 rs)
  alike_same (Function' _ a _ ps) (Function' _ b _ qs) e _ = refl
  alike_same _ _ e c = absurd (cc)

  all_alike_same : {m n : _} (a : Row_of-Ty m) (b : Row_of-Ty n) → all_alike a b ≡ true → {l : _} (c : Row_of-Ty l) → all_alike a c ≡ all_alike b c
  all_alike_same end_of-Ty end_of-Ty e c = refl
  all_alike_same (more_of-Ty a more) (more_of-Ty b others) e end_of-Ty = refl
  all_alike_same (more_of-Ty a more) (more_of-Ty b others) e (more_of-Ty c rest) = let q = both_true (are_alike a b) (all_alike more others) e in ap₂ (λ x y. x && y) (alike_same a b q.0 c) (all_alike_same more others q.1 rest)
  all_alike_same end_of-Ty (more_of-Ty b others) e c = absurd (cc)
  all_alike_same (more_of-Ty a more) end_of-Ty e c = absurd (cc)

-- ---- their values

mutual
  alike_folds : (known : List Layout) (a b : Ty) → are_alike a b ≡ true → fold_ty (layout_step known) a ≡ fold_ty (layout_step known) b
  alike_folds known Void Void e = refl
  alike_folds known (Integer k) (Integer j) e = ap (λ q. fold_ty (layout_step known) (Integer q)) (kinds_are k j e)
  alike_folds known (Pointer' _ (more_of-Ty a end_of-Ty)) (Pointer' _ (more_of-Ty b end_of-Ty)) e = refl
  alike_folds known (Array' _ (more_of-Ty a end_of-Ty) n) (Array' _ (more_of-Ty b end_of-Ty) m) e =
      let q = both_true (are_alike a b && true) (nat_eq n m) e in
      ap₂ (λ i (l : Layout). repeated i l) (numbers_are n m q.1) (alike_folds known a b (both_true (are_alike a b) true q.0).0)
  alike_folds known (Chan' _ (more_of-Ty a end_of-Ty) n) (Chan' _ (more_of-Ty b end_of-Ty) m) e = refl
  alike_folds known (Tuple' _ a) (Tuple' _ b) e = ap in_order (all_folds known a b e)
  alike_folds known (Aggregate n) (Aggregate m) e = ap (λ q. fold_ty (layout_step known) (Aggregate q)) (numbers_are n m e)
  alike_folds known (Function' _ (more_of-Ty a end_of-Ty) _ ps) (Function' _ (more_of-Ty b end_of-Ty) _ qs) e = refl
  alike_folds known _ _ e = absurd (cc)

  all_folds : (known : List Layout) {m n : _} (a : Row_of-Ty m) (b : Row_of-Ty n) → all_alike a b ≡ true → fold_types (layout_step known) a ≡ fold_types (layout_step known) b
  all_folds known end_of-Ty end_of-Ty e = refl
  all_folds known (more_of-Ty a more) (more_of-Ty b others) e = let q = both_true (are_alike a b) (all_alike more others) e in ap₂ (λ (l : Layout) ls. l ∷ ls) (alike_folds known a b q.0) (all_folds known more others q.1)
  all_folds known end_of-Ty (more_of-Ty b others) e = absurd (cc)
  all_folds known (more_of-Ty a more) end_of-Ty e = absurd (cc)

pub alike_units : (p : Program) (a b : Ty) → are_alike a b ≡ true → units_in p a ≡ units_in p b
unfolding layout layout_of
alike_units p a b e = ap (λ (l : Layout). l.units) (alike_folds (layouts_after [] p.aggregates) a b e)

pub alike_void : (a b : Ty) → are_alike a b ≡ true → is_void a ≡ is_void b
unfolding is_void out-Ty out
alike_void Void Void e = refl
alike_void (Integer k) (Integer j) e = refl
alike_void (Pointer' _ a) (Pointer' _ b) e = refl
alike_void (Array' _ a n) (Array' _ b m) e = refl
alike_void (Chan' _ a n) (Chan' _ b m) e = refl
alike_void (Tuple' _ a) (Tuple' _ b) e = refl
alike_void (Aggregate n) (Aggregate m) e = refl
alike_void (Function' _ a _ ps) (Function' _ b _ qs) e = refl
alike_void _ _ e = absurd (cc)

pub alike_array : (a b : Ty) → are_alike a b ≡ true → is_array a ≡ is_array b
unfolding is_array out-Ty out
alike_array Void Void e = refl
alike_array (Integer k) (Integer j) e = refl
alike_array (Pointer' _ a) (Pointer' _ b) e = refl
alike_array (Array' _ a n) (Array' _ b m) e = refl
alike_array (Chan' _ a n) (Chan' _ b m) e = refl
alike_array (Tuple' _ a) (Tuple' _ b) e = refl
alike_array (Aggregate n) (Aggregate m) e = refl
alike_array (Function' _ a _ ps) (Function' _ b _ qs) e = refl
alike_array _ _ e = absurd (cc)

row_units : (p : Program) {m n : _} (a : Row_of-Ty m) (b : Row_of-Ty n) → all_alike a b ≡ true → flat_map (units_in p) (items-the_row-Ty m a) ≡ flat_map (units_in p) (items-the_row-Ty n b)
row_units p end_of-Ty end_of-Ty e = refl
row_units p (more_of-Ty a more) (more_of-Ty b others) e = let q = both_true (are_alike a b) (all_alike more others) e in ap₂ (λ (us : List StorageUnit) vs. us ++ vs) (alike_units p a b q.0) (row_units p more others q.1)
row_units p end_of-Ty (more_of-Ty b others) e = absurd (cc)
row_units p (more_of-Ty a more) end_of-Ty e = absurd (cc)

-- what holds of types and of all that are alike holds of the types of rows that are alike
pub each_alike : (P : Ty → Type 0) → ((a b : Ty) → are_alike a b ≡ true → P b → P a) → {m n : _} (a : Row_of-Ty m) (b : Row_of-Ty n) → all_alike a b ≡ true → AllByRecursion P (items-the_row-Ty n b) → AllByRecursion P (items-the_row-Ty m a)
each_alike P f end_of-Ty end_of-Ty e h = tt
each_alike P f (more_of-Ty a more) (more_of-Ty b others) e h = let q = both_true (are_alike a b) (all_alike more others) e in (f a b q.0 h.0, each_alike P f more others q.1 h.1)
each_alike P f end_of-Ty (more_of-Ty b others) e h = absurd (cc)
each_alike P f (more_of-Ty a more) end_of-Ty e h = absurd (cc)

-- types of functions that are the same return and take types that are
pub alike_returns : (t u : Ty) (ts us : List Ty) → are_alike (ty.Function t ts) (ty.Function u us) ≡ true → are_alike t u ≡ true
unfolding hidden-the_row-Ty-0 hidden
alike_returns t u ts us e = (both_true (are_alike t u) true (both_true (are_alike t u && true) (all_alike (hidden-the_row-Ty-1 ts) (hidden-the_row-Ty-1 us)) e).0).0

pub alike_parameters : (t u : Ty) (ts us : List Ty) → are_alike (ty.Function t ts) (ty.Function u us) ≡ true → all_alike (hidden-the_row-Ty-1 ts) (hidden-the_row-Ty-1 us) ≡ true
unfolding hidden-the_row-Ty-0 hidden
alike_parameters t u ts us e = (both_true (are_alike t u && true) (all_alike (hidden-the_row-Ty-1 ts) (hidden-the_row-Ty-1 us)) e).1

pub each_parameter : (P : Ty → Type 0) → ((a b : Ty) → are_alike a b ≡ true → P b → P a) → (t u : Ty) (ts us : List Ty) → are_alike (ty.Function t ts) (ty.Function u us) ≡ true → AllByRecursion P us → AllByRecursion P ts
each_parameter P f t u ts us e h =
    subst (AllByRecursion P) (items_hidden-the_row-Ty-1 ts)
    (each_alike P f (hidden-the_row-Ty-1 ts) (hidden-the_row-Ty-1 us) (alike_parameters t u ts us e) (subst (AllByRecursion P) (sym (items_hidden-the_row-Ty-1 us)) h))

pub same_calls : (p : Program) (t u : Ty) (ts us : List Ty) → are_alike (ty.Function t ts) (ty.Function u us) ≡ true → SameCalls p t u ts us
same_calls p t u ts us e =
    let r = alike_returns t u ts us e in
    record {
      void = alike_void t u r;
      given = alike_units p t u r;
      taken = sym (ap (flat_map (units_in p)) (items_hidden-the_row-Ty-1 ts)) ∙ (row_units p (hidden-the_row-Ty-1 ts) (hidden-the_row-Ty-1 us) (alike_parameters t u ts us e) ∙ ap (flat_map (units_in p)) (items_hidden-the_row-Ty-1 us));
    }

-- each type is the same as itself
mutual
  pub alike_self : (a : Ty) → are_alike a a ≡ true
  alike_self Void = refl
  alike_self (Integer k) = kind_self k
  alike_self (Pointer' _ a) = all_alike_self a
  alike_self (Array' _ a n) = both_hold (all_alike a a) (nat_eq n n) (all_alike_self a) (number_self n)
  alike_self (Chan' _ a n) = all_alike_self a
  alike_self (Tuple' _ a) = all_alike_self a
  alike_self (Aggregate n) = number_self n
  alike_self (Function' _ a _ ps) = both_hold (all_alike a a) (all_alike ps ps) (all_alike_self a) (all_alike_self ps)

  all_alike_self : {m : _} (a : Row_of-Ty m) → all_alike a a ≡ true
  all_alike_self end_of-Ty = refl
  all_alike_self (more_of-Ty a more) = both_hold (are_alike a a) (all_alike more more) (alike_self a) (all_alike_self more)
