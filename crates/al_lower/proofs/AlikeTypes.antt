-- Types that are the same for every rule: each is the same as itself, and types that are the same are so to all others.
use Rattle.std.proofs.Common.{◌≡◌, ℕ, List, [], ◌∷◌, refl, ap, ap₂, ◌∙◌, arith}
use Rattle.std.specs.Prelude.{Bool, true, false, ◌&&◌, nat_eq}
use Rattle.std.proofs.lemmas.Grind.{common_steps}
use Rattle.al_base.specs.declared.arith.Kind.{Kind}
use Rattle.al_base.specs.declared.arith.Kind.TheVariants as kind
use Rattle.al_typed.specs.declared.ty.Ty.{Ty, Void, Integer, Pointer', Array', Chan', Tuple', Aggregate, Function', Row_of-Ty, end_of-Ty, more_of-Ty}
use Rattle.al_typed.specs.declared.ty.Ty.TheVariants as ty
use Rattle.al_typed.specs.declared.ty.Ty.TheBlock.{hidden-the_row-Ty-0, hidden-the_row-Ty-1}
use denote.Hole.Carrier.{hidden}
use Rattle.al_typed.specs.Alike.{are_alike, all_alike, same_kind}

-- ---- a type and itself

kind_itself : (k : Kind) → same_kind k k ≡ true
kind_itself kind.Byte = refl
kind_itself kind.Sint = refl
kind_itself kind.Usint = refl
kind_itself kind.Int = refl
kind_itself kind.Uint = refl
kind_itself kind.Lint = refl
kind_itself kind.Ulint = refl

number_itself : (n : ℕ) → nat_eq n n ≡ true
number_itself n = grind (arith, common_steps)

both : (a b : Bool) → a ≡ true → b ≡ true → (a && b) ≡ true
both true b e h = h
both false b e h = cc

mutual
  pub alike_itself : (t : Ty) → are_alike t t ≡ true
  alike_itself Void = refl
  alike_itself (Integer k) = kind_itself k
  alike_itself (Pointer' _ a) = all_alike_themselves a
  alike_itself (Array' _ a n) = both (all_alike a a) (nat_eq n n) (all_alike_themselves a) (number_itself n)
  alike_itself (Chan' _ a n) = all_alike_themselves a
  alike_itself (Tuple' _ a) = all_alike_themselves a
  alike_itself (Aggregate n) = number_itself n
  alike_itself (Function' _ a _ ps) = both (all_alike a a) (all_alike ps ps) (all_alike_themselves a) (all_alike_themselves ps)

  all_alike_themselves : {m : _} (r : Row_of-Ty m) → all_alike r r ≡ true
  all_alike_themselves end_of-Ty = refl
  all_alike_themselves (more_of-Ty a more) = both (are_alike a a) (all_alike more more) (alike_itself a) (all_alike_themselves more)

-- ---- a type and others

both_true : (a b : Bool) → (a && b) ≡ true → (a ≡ true) × (b ≡ true)
both_true true true e = (refl, refl)
both_true true false e = absurd (cc)
both_true false b e = absurd (cc)

kinds_are : (k j : Kind) → same_kind k j ≡ true → k ≡ j
kinds_are kind.Byte kind.Byte e = refl
kinds_are kind.Sint kind.Sint e = refl
kinds_are kind.Usint kind.Usint e = refl
kinds_are kind.Int kind.Int e = refl
kinds_are kind.Uint kind.Uint e = refl
kinds_are kind.Lint kind.Lint e = refl
kinds_are kind.Ulint kind.Ulint e = refl
kinds_are _ _ e = absurd (cc)

numbers_are : (n m : ℕ) → nat_eq n m ≡ true → n ≡ m
numbers_are n m e = grind (arith, common_steps, e)

mutual
  pub alike_same : (a b : Ty) → are_alike a b ≡ true → (c : Ty) → are_alike a c ≡ are_alike b c
  alike_same Void Void e c = refl
  alike_same (Integer k) (Integer j) e c = ap (λ q. are_alike (Integer q) c) (kinds_are k j e)
  alike_same (Pointer' _ a) (Pointer' _ b) e (Pointer' _ c) = all_alike_same a b e c
  alike_same (Pointer' _ a) (Pointer' _ b) e _ = refl
  alike_same (Array' _ a n) (Array' _ b m) e (Array' _ c l) =
      let q = both_true (all_alike a b) (nat_eq n m) e in
      ap₂ (λ x y. x && y) (all_alike_same a b q.0 c) (ap (λ i. nat_eq i l) (numbers_are n m q.1))
  alike_same (Array' _ a n) (Array' _ b m) e _ = refl
  alike_same (Chan' _ a n) (Chan' _ b m) e (Chan' _ c l) = all_alike_same a b e c
  alike_same (Chan' _ a n) (Chan' _ b m) e _ = refl
  alike_same (Tuple' _ a) (Tuple' _ b) e (Tuple' _ c) = all_alike_same a b e c
  alike_same (Tuple' _ a) (Tuple' _ b) e _ = refl
  alike_same (Aggregate n) (Aggregate m) e c = ap (λ q. are_alike (Aggregate q) c) (numbers_are n m e)
  alike_same (Function' _ a _ ps) (Function' _ b _ qs) e (Function' _ c _ rs) =
      let q = both_true (all_alike a b) (all_alike ps qs) e in
      ap₂ (λ x y. x && y) (all_alike_same a b q.0 c) (all_alike_same ps qs q.1 rs)
  alike_same (Function' _ a _ ps) (Function' _ b _ qs) e _ = refl
  alike_same _ _ e c = absurd (cc)

  all_alike_same : {m n : _} (a : Row_of-Ty m) (b : Row_of-Ty n) → all_alike a b ≡ true → {l : _} (c : Row_of-Ty l) → all_alike a c ≡ all_alike b c
  all_alike_same end_of-Ty end_of-Ty e c = refl
  all_alike_same (more_of-Ty a more) (more_of-Ty b others) e end_of-Ty = refl
  all_alike_same (more_of-Ty a more) (more_of-Ty b others) e (more_of-Ty c rest) =
      let q = both_true (are_alike a b) (all_alike more others) e in
      ap₂ (λ x y. x && y) (alike_same a b q.0 c) (all_alike_same more others q.1 rest)
  all_alike_same end_of-Ty (more_of-Ty b others) e c = absurd (cc)
  all_alike_same (more_of-Ty a more) end_of-Ty e c = absurd (cc)
