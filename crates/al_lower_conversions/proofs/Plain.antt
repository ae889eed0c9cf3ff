-- Only values that are no arrays are converted, and into such values.
use Rattle.std.proofs.Common.{◌≡◌, ℕ, refl}
use Rattle.std.specs.Prelude.{Bool, true, false, ◌&&◌}
use Rattle.al_typed.specs.declared.ty.Ty.{Ty, Void, Integer, Pointer', Array', Chan', Tuple', Aggregate, Function'}
use Rattle.al_typed.specs.declared.ty.Ty.TheViews.{out-Ty}
use denote.Hole.Carrier.{out}
use Rattle.al_typed.specs.Types.{is_void, is_array}
use Rattle.al_typed.specs.WellTyped.{is_word, converts}
use Rattle.al_lower_claims.proofs.Operands.{both_true}

no : false ≡ true → ⊥
no e = cc

-- no array is made into anything
pub converts_no_array : (t u : Ty) → converts t u ≡ true → is_array t ≡ false
unfolding is_array is_word out-Ty out
converts_no_array Void u e = refl
converts_no_array (Integer k) u e = refl
converts_no_array (Pointer' _ to) u e = refl
converts_no_array (Chan' _ element capacity) u e = refl
converts_no_array (Tuple' _ parts) u e = refl
converts_no_array (Aggregate number) u e = refl
converts_no_array (Function' _ returns _ parameters) u e = refl
converts_no_array (Array' s element count) u e = absurd (no (both_true (is_word (Array' s element count)) (is_word u) e).0)

-- nothing is made into no value
pub converts_to_value : (t u : Ty) → converts t u ≡ true → is_void u ≡ false
unfolding is_void is_word out-Ty out
converts_to_value t (Integer k) e = refl
converts_to_value t (Pointer' _ to) e = refl
converts_to_value t (Array' _ element count) e = refl
converts_to_value t (Chan' _ element capacity) e = refl
converts_to_value t (Tuple' _ parts) e = refl
converts_to_value t (Aggregate number) e = refl
converts_to_value t (Function' _ returns _ parameters) e = refl
converts_to_value Void Void e = absurd (cc)
converts_to_value (Integer k) Void e = absurd (no (both_true (is_word (Integer k)) (is_word Void) e).1)
converts_to_value (Pointer' s to) Void e = absurd (cc)
converts_to_value (Chan' s part capacity) Void e = absurd (cc)
converts_to_value (Tuple' s parts) Void e = absurd (cc)
converts_to_value (Aggregate number) Void e = absurd (cc)
converts_to_value (Array' s part n) Void e = absurd (cc)
converts_to_value (Function' s returns r parameters) Void e = absurd (cc)

-- nothing is made into an array
pub converts_to_no_array : (t u : Ty) → converts t u ≡ true → is_array u ≡ false
unfolding is_array is_word out-Ty out
converts_to_no_array t Void e = refl
converts_to_no_array t (Integer k) e = refl
converts_to_no_array t (Pointer' _ to) e = refl
converts_to_no_array t (Chan' _ element capacity) e = refl
converts_to_no_array t (Tuple' _ parts) e = refl
converts_to_no_array t (Aggregate number) e = refl
converts_to_no_array t (Function' _ returns _ parameters) e = refl
converts_to_no_array Void (Array' _ element count) e = absurd (cc)
converts_to_no_array (Integer k) (Array' s element count) e = absurd (no (both_true (is_word (Integer k)) (is_word (Array' s element count)) e).1)
converts_to_no_array (Pointer' s to) (Array' _ element count) e = absurd (cc)
converts_to_no_array (Chan' s part capacity) (Array' _ element count) e = absurd (cc)
converts_to_no_array (Tuple' s parts) (Array' _ element count) e = absurd (cc)
converts_to_no_array (Aggregate number) (Array' _ element count) e = absurd (cc)
converts_to_no_array (Array' s part n) (Array' _ element count) e = absurd (cc)
converts_to_no_array (Function' s returns r parameters) (Array' _ element count) e = absurd (cc)
