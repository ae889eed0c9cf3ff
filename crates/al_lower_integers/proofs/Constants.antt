-- Constants: integers of every kind, and addresses.
use Rattle.std.proofs.Common.{◌≡◌, ℕ, zero, suc, ◌+◌, ◌*◌, ◌/◌, ◌%◌, ◌^◌, ◌<◌, ◌≤◌, List, [], ◌∷◌, length, Option, Some, None, refl, sym, ap, ◌∙◌, subst, arith}
use Rattle.std.specs.Prelude.{Bool, true, false, ◌==◌}
use Rattle.std.proofs.Math.Nat.{mod-eq_of_lt}
use Rattle.al_base.specs.Arith.{width_of}
use Rattle.al_base.specs.declared.arith.Kind.{Kind}
use Rattle.al_base.specs.declared.arith.Kind.TheVariants as kind
use Rattle.al_typed.specs.declared.ty.Ty.{Ty}
use Rattle.al_typed.specs.declared.ty.Ty.TheVariants as ty
use Rattle.al_typed.specs.Layout.{unit_at}
use Rattle.al_meaning.specs.Words.{integer_words, is_zero}
use Rattle.al_meaning.specs.Shown.{kind_of}
use Rattle.al_meaning.specs.Here.{units_in}
use Rattle.al_meaning.specs.Tasks.{Still, Env, Rest, Task}
use Rattle.al_lower_words.specs.Units.{AreOf}
use Rattle.al_lower_words.proofs.Integers.{units_of_kind, integer_not_void, integer_not_array, words_are, length_of, one_fits, two_fit, low_small, high_small}
use Rattle.al_lower_code.specs.Coded.{Coded, constant_coded}
use Rattle.al_lower_claims.proofs.Claims.{Setting, spot, UnitsOf, count_of, IsWord, IsKnown, CodedDoes}
use Rattle.al_lower_claims.proofs.Plain.{IsNumber, constant_does}
use Rattle.al_lower_values.proofs.Binary.{kind_of_integer, not_void_integer, counts_integer}

unit_fits : (size w : ℕ) → w < 256 ^ size → AreOf (unit_at 0 size ∷ []) (w ∷ [])
unit_fits size w h = let e : w % 256 ^ size ≡ w = mod-eq_of_lt h in rw e refl

-- the words of bits of a kind
pub integer_fits : (k : Setting) (j : Kind) (bits : ℕ) → bits < 2 ^ width_of j → UnitsOf k (ty.Integer j) (integer_words j bits)
integer_fits k kind.Byte bits lt = subst (λ us. AreOf us (bits ∷ [])) (sym (units_of_kind k.ways.program kind.Byte)) (unit_fits 1 bits lt)
integer_fits k kind.Sint bits lt = subst (λ us. AreOf us (bits ∷ [])) (sym (units_of_kind k.ways.program kind.Sint)) (unit_fits 2 bits lt)
integer_fits k kind.Usint bits lt = subst (λ us. AreOf us (bits ∷ [])) (sym (units_of_kind k.ways.program kind.Usint)) (unit_fits 2 bits lt)
integer_fits k kind.Int bits lt = subst (λ us. AreOf us (bits ∷ [])) (sym (units_of_kind k.ways.program kind.Int)) (unit_fits 4 bits lt)
integer_fits k kind.Uint bits lt = subst (λ us. AreOf us (bits ∷ [])) (sym (units_of_kind k.ways.program kind.Uint)) (unit_fits 4 bits lt)
integer_fits k kind.Lint bits lt = subst (λ us. AreOf us (bits % 2 ^ 32 ∷ bits / 2 ^ 32 ∷ [])) (sym (units_of_kind k.ways.program kind.Lint)) (two_fit 0 4 (bits % 2 ^ 32) (bits / 2 ^ 32) (low_small bits) (high_small bits lt))
integer_fits k kind.Ulint bits lt = subst (λ us. AreOf us (bits % 2 ^ 32 ∷ bits / 2 ^ 32 ∷ [])) (sym (units_of_kind k.ways.program kind.Ulint)) (two_fit 0 4 (bits % 2 ^ 32) (bits / 2 ^ 32) (low_small bits) (high_small bits lt))

long_zero : (bits : ℕ) → is_zero (bits % 2 ^ 32 ∷ bits / 2 ^ 32 ∷ []) ≡ (bits == 0)
long_zero bits = let e : bits % 2 ^ 32 + 2 ^ 32 * (bits / 2 ^ 32) ≡ bits = omega arith in ap (λ n. n == 0) e

-- they are zero where the bits are
pub integer_zero : (j : Kind) (bits : ℕ) → is_zero (integer_words j bits) ≡ (bits == 0)
integer_zero kind.Byte bits = refl
integer_zero kind.Sint bits = refl
integer_zero kind.Usint bits = refl
integer_zero kind.Int bits = refl
integer_zero kind.Uint bits = refl
integer_zero kind.Lint bits = long_zero bits
integer_zero kind.Ulint bits = long_zero bits

module _ (k : Setting) where
  pub known_integer : {m : Task (Option (List ℕ))} (t : Ty) (j : Kind) (bits : ℕ) → t ≡ ty.Integer j → bits < 2 ^ width_of j → ((env : Env) (s : Still) (next : Option (List ℕ) → Rest) → m env s next ≡ next (Some (integer_words (kind_of t) bits)) env s) → IsKnown k m t bits
  known_integer {m} t j bits e lt means =
      let is : kind_of t ≡ j = ap kind_of e ∙ kind_of_integer j in
      record {
        means = means;
        not_void = not_void_integer t j e;
        fits = subst (λ q. UnitsOf k t (integer_words q bits)) (sym is) (subst (λ q. UnitsOf k q (integer_words j bits)) (sym e) (integer_fits k j bits lt));
      }

  pub integer_does : {m : Task (Option (List ℕ))} (t : Ty) (j : Kind) (bits : ℕ) → t ≡ ty.Integer j → IsKnown k m t bits → CodedDoes k m t (constant_coded (spot k) t bits)
  integer_does {m} t j bits e known =
      let is : kind_of t ≡ j = ap kind_of e ∙ kind_of_integer j in
      constant_does k t bits known (counts_integer k t j e ∙ sym (length_of _ _ known.fits)) (record { zero = ap (λ q. is_zero (integer_words q bits)) is ∙ integer_zero j bits })

  -- an address, nil, and whatever else is one word
  pub word_does : {m : Task (Option (List ℕ))} (t : Ty) (w : ℕ) → IsWord k t → w < 2 ^ 32 → integer_words (kind_of t) w ≡ w ∷ [] → ((env : Env) (s : Still) (next : Option (List ℕ) → Rest) → m env s next ≡ next (Some (w ∷ [])) env s) → CodedDoes k m t (constant_coded (spot k) t w)
  word_does {m} t w word small words means =
      let known : IsKnown k m t w = record {
        means = λ env s next. means env s next ∙ ap (λ v. next (Some v) env s) (sym words);
        not_void = word.not_void;
        fits = subst (UnitsOf k t) (sym words) (subst (λ us. AreOf us (w ∷ [])) (sym word.units) (one_fits 0 w small));
      } in
      constant_does k t w known (word.counts ∙ sym (ap length words)) (record { zero = ap is_zero words })
