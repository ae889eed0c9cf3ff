-- Types that are the same for every rule: the capacity of a channel serves `alloc` alone.
use Rattle.std.specs.Prelude.{◌==◌, Bool, true, false, ◌&&◌, nat_eq}
use Rattle.al_base.specs.Arith.{width_of, is_signed}
use Rattle.al_base.specs.declared.arith.Kind.{Kind}
use Rattle.al_typed.specs.declared.ty.Ty.{Ty, Void, Integer, Pointer', Array', Chan', Tuple', Aggregate, Function', Row_of-Ty, end_of-Ty, more_of-Ty}

abbrev pub same_sign : Bool → Bool → Bool
same_sign true b = b
same_sign false true = false
same_sign false false = true

-- kinds differ in their width or in their sign
abbrev pub same_kind : Kind → Kind → Bool
same_kind k j = (width_of k == width_of j) && same_sign (is_signed k) (is_signed j)

abbrev mutual
  pub are_alike : Ty → Ty → Bool
  are_alike Void Void = true
  are_alike (Integer k) (Integer j) = same_kind k j
  are_alike (Pointer' _ a) (Pointer' _ b) = all_alike a b
  are_alike (Array' _ a n) (Array' _ b m) = all_alike a b && nat_eq n m
  are_alike (Chan' _ a _) (Chan' _ b _) = all_alike a b
  are_alike (Tuple' _ a) (Tuple' _ b) = all_alike a b
  are_alike (Aggregate n) (Aggregate m) = nat_eq n m
  are_alike (Function' _ a _ ps) (Function' _ b _ qs) = all_alike a b && all_alike ps qs
  are_alike _ _ = false

  pub all_alike : {m n : _} → Row_of-Ty m → Row_of-Ty n → Bool
  all_alike end_of-Ty end_of-Ty = true
  all_alike (more_of-Ty a more) (more_of-Ty b others) = are_alike a b && all_alike more others
  all_alike _ _ = false
