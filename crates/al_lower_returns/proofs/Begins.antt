-- The variables that a function begins with.
use Rattle.std.proofs.Common.{◌≡◌, ℕ, zero, suc, ◌+◌, ◌-◌, ◌^◌, ◌<◌, ◌≤◌, List, [], ◌∷◌, ◌++◌, take, drop, length, Option, Some, refl, sym, ap, ◌∙◌, subst, arith, length-append}
use Rattle.std.specs.Prelude.{Bool, true, false, filter, if◌then◌else◌, slice_get, slice_index}
use Rattle.std.specs.List.{flat_map}
use Rattle.std.proofs.lemmas.List.{take-append-drop}
use Rattle.std.proofs.lemmas.Option.{same_Some}
use Rattle.std.proofs.lemmas.Grind.{common_steps}
use Rattle.std.proofs.Math.Nat.{mod-mod}
use Rattle.al_typed.specs.declared.layout.Unit.{Unit as StorageUnit}
use Rattle.al_typed.specs.declared.program.Local.{Local as LocalRow}
use Rattle.al_typed.specs.declared.program.Program.{Program}
use Rattle.al_typed.specs.Types.{is_array}
use Rattle.al_typed.specs.Typed.{local_types}
use Rattle.al_typed.specs.WellTyped.{shared_types}
use Rattle.al_meaning.specs.Words.{fitted_to, zero_words}
use Rattle.al_meaning.specs.Here.{units_in}
use Rattle.al_meaning.specs.Places.{words_in, has_block}
use Rattle.al_meaning.specs.Calls.{begun_locals}
use Rattle.al_ir.specs.Control.{Slots}
use Rattle.al_lower_words.specs.Units.{AreOf}
use Rattle.al_lower_words.proofs.Integers.{length_of, words_are}
use Rattle.al_lower_code.specs.Homes.{local_slots, one_less, behind_locals}
use Rattle.al_lower_steps.specs.Slots.{Holds}
use Rattle.al_lower_steps.proofs.Slots.{holds_front, holds_back, holds_at, holds_is}
use Rattle.al_lower_claims.proofs.Privates.{take_fits, drop_fits}

first_is : (a b : ℕ) (xs ys : List ℕ) → a ∷ xs ≡ b ∷ ys → a ≡ b
first_is a b xs ys e = cc

rest_is : (a b : ℕ) (xs ys : List ℕ) → a ∷ xs ≡ b ∷ ys → xs ≡ ys
rest_is a b xs ys e = cc

true_is_not : (b : Bool) → b ≡ true → b ≡ false → ⊥
true_is_not true h k = cc
true_is_not false h k = cc

-- the first words of those that fit
pub fitted_front : (us vs : List StorageUnit) (w : List ℕ) → AreOf (us ++ vs) w → fitted_to us w ≡ take (length us) w
fitted_front [] vs w h = refl
fitted_front (u ∷ us) vs [] h = absurd (cc)
fitted_front (u ∷ us) vs (x ∷ w) h = rw (first_is _ _ _ _ h, fitted_front us vs w (rest_is _ _ _ _ h)) refl

pub fitted_twice : (us : List StorageUnit) (v : List ℕ) → AreOf us (fitted_to us v)
fitted_twice [] v = refl
fitted_twice (u ∷ us) v = rw (mod-mod (slice_index v 0) (256 ^ u.size), fitted_twice us (drop 1 v)) refl

zero_at : (d n t u : ℕ) (slots : Slots) → u ≡ t + d → d < n → Holds slots t (zero_words n) → slots u ≡ Some 0
zero_at d zero t u slots e lt h = absurd (omega (arith, lt))
zero_at zero (suc n) t u slots e lt h = let q : t ≡ u = omega (arith, e) in subst (λ i. slots i ≡ Some 0) q h.0
zero_at (suc d) (suc n) t u slots e lt h = zero_at d n (t + 1) u slots (omega (arith, e)) (omega (arith, lt)) h.1

-- words of zero among more of them
pub zeros_among : (m n t u : ℕ) (slots : Slots) → t ≤ u → u + m ≤ t + n → Holds slots t (zero_words n) → Holds slots u (zero_words m)
zeros_among zero n t u slots low high h = tt
zeros_among (suc m) n t u slots low high h = (zero_at (u - t) n t u slots (omega (arith, low)) (omega (arith, low, high)) h, zeros_among m n t (u + 1) slots (omega (arith, low)) (omega (arith, high)) h)

-- ---- where the homes of locals lie

module _ (p : Program) where
  pub no_further : (ls : List LocalRow) (at m n : ℕ) → at ≤ behind_locals p at m n ls
  no_further ls at m zero = omega arith
  no_further [] at m (suc n) = omega arith
  no_further (l ∷ ls) at m (suc n) = let h = no_further ls (at + local_slots p m l) (one_less m) n in omega (arith, h)

  -- later ones stand no earlier
  pub behind_later : (ls : List LocalRow) (at m k n : ℕ) → k ≤ n → behind_locals p at m k ls ≤ behind_locals p at m n ls
  behind_later ls at m zero n le = no_further ls at m n
  behind_later [] at m (suc k) n le = on n
    where
      on : (n : ℕ) → at ≤ behind_locals p at m n []
      on n = no_further [] at m n
  behind_later (l ∷ ls) at m (suc k) zero le = absurd (omega (arith, le))
  behind_later (l ∷ ls) at m (suc k) (suc n) le = behind_later ls (at + local_slots p m l) (one_less m) k n (omega (arith, le))

  -- a parameter has all its words in slots, also if it is shared
  pub behind_parameter : (ls : List LocalRow) (at m n : ℕ) (l : LocalRow) → slice_get ls n ≡ Some l → n < m → behind_locals p at m (n + 1) ls ≡ behind_locals p at m n ls + words_in p l.ty
  behind_parameter [] at m n l g lt = absurd (cc)
  behind_parameter (x ∷ ls) at zero n l g lt = absurd (omega (arith, lt))
  behind_parameter (x ∷ ls) at (suc m) zero l g lt =
      let same : x ≡ l = same_Some x l g in ap (λ (r : LocalRow). at + words_in p r.ty) same
  behind_parameter (x ∷ ls) at (suc m) (suc n) l g lt =
      let z : suc n + 1 ≡ suc (n + 1) = omega arith in
      ap (λ i. behind_locals p at (suc m) i (x ∷ ls)) z ∙ behind_parameter ls (at + words_in p x.ty) m n l g (omega (arith, lt))

  -- ---- what locals begin with

  -- the first so many are no arrays
  abbrev pub NoArrays : ℕ → List LocalRow → Type 0
  NoArrays m ls = (n : ℕ) (l : LocalRow) → slice_get ls n ≡ Some l → n < m → is_array l.ty ≡ false

  abbrev pub parameter_units : ℕ → List LocalRow → List StorageUnit
  parameter_units m ls = flat_map (units_in p) (local_types (take m ls))

  -- a local has a value of its type in its home
  pub record Begins (slots : Slots) (home : ℕ) (o : Option (List ℕ)) (us : List StorageUnit) : Type 0 where
    pub value : List ℕ
    pub is : o ≡ Some value
    pub fits : AreOf us value
    pub holds : Holds slots home value

  pub parameter_begins : (ls : List LocalRow) (at m n : ℕ) (words : List ℕ) (slots : Slots) (l : LocalRow) → slice_get ls n ≡ Some l → l.is_shared ≡ false → n < m → NoArrays m ls → AreOf (parameter_units m ls) words → Holds slots at words → Begins slots (behind_locals p at m n ls) (slice_get (begun_locals p m ls words) n) (units_in p l.ty)
  parameter_begins [] at m n words slots l g sh lt na fits holds = absurd (cc)
  parameter_begins (x ∷ ls) at zero n words slots l g sh lt na fits holds = absurd (omega (arith, lt))
  parameter_begins (x ∷ ls) at (suc m) zero words slots l g sh lt na fits holds =
      let same : x ≡ l = same_Some x l g in
      let us = units_in p x.ty in
      let vs = parameter_units m ls in
      let front = fitted_front us vs words fits in
      let parted : words ≡ take (length us) words ++ drop (length us) words = sym (take-append-drop (length us) words) in
      subst (λ (r : LocalRow). Begins slots at (Some (if x.is_shared then [] else fitted_to (units_in p x.ty) words)) (units_in p r.ty)) same
      (record {
        value = fitted_to us words;
        is = ap (λ c. Some (if c then [] else fitted_to us words)) (ap (λ (r : LocalRow). r.is_shared) same ∙ sh);
        fits = fitted_twice us words;
        holds = subst (Holds slots at) (sym front) (holds_front (take (length us) words) (drop (length us) words) at slots (holds_is words (take (length us) words ++ drop (length us) words) at slots parted holds));
      })
  parameter_begins (x ∷ ls) at (suc m) (suc n) words slots l g sh lt na fits holds =
      let us = units_in p x.ty in
      let vs = parameter_units m ls in
      let count : words_in p x.ty ≡ length us = words_are p x.ty (na zero x refl (omega arith)) in
      let rest : AreOf vs (drop (words_in p x.ty) words) = subst (λ n. AreOf vs (drop n words)) (sym count) (drop_fits us vs words fits) in
      let parted : words ≡ take (length us) words ++ drop (length us) words = sym (take-append-drop (length us) words) in
      let long : length (take (length us) words) ≡ length us = length_of us (take (length us) words) (take_fits us vs words fits) in
      let back : Holds slots (at + length us) (drop (length us) words) = holds_at (drop (length us) words) (at + length (take (length us) words)) (at + length us) slots (ap (λ i. at + i) long) (holds_back (take (length us) words) (drop (length us) words) at slots (holds_is words (take (length us) words ++ drop (length us) words) at slots parted holds)) in
      parameter_begins ls (at + words_in p x.ty) m n (drop (words_in p x.ty) words) slots l g sh (omega (arith, lt)) (λ i r e lt2. na (suc i) r e (omega (arith, lt2))) rest (subst (λ n. Holds slots (at + n) (drop n words)) (sym count) back)

  -- one that is no parameter has zero
  pub zero_begins : (ls : List LocalRow) (m n : ℕ) (words : List ℕ) (l : LocalRow) → slice_get ls n ≡ Some l → l.is_shared ≡ false → m ≤ n → slice_get (begun_locals p m ls words) n ≡ Some (zero_words (words_in p l.ty))
  zero_begins [] m n words l g sh le = absurd (cc)
  zero_begins (x ∷ ls) zero zero words l g sh le =
      let same : x ≡ l = same_Some x l g in
      ap (λ (r : LocalRow). Some (if r.is_shared then [] else zero_words (words_in p r.ty))) same ∙ ap (λ c. Some (if c then [] else zero_words (words_in p l.ty))) sh
  zero_begins (x ∷ ls) zero (suc n) words l g sh le = zero_begins ls zero n [] l g sh (omega arith)
  zero_begins (x ∷ ls) (suc m) zero words l g sh le = absurd (omega (arith, le))
  zero_begins (x ∷ ls) (suc m) (suc n) words l g sh le = zero_begins ls m n (drop (words_in p x.ty) words) l g sh (omega (arith, le))

  -- the words of parameters end where the first other local begins
  pub parameters_end : (ls : List LocalRow) (at m : ℕ) → m ≤ length ls → NoArrays m ls → behind_locals p at m m ls ≡ at + length (parameter_units m ls)
  parameters_end ls at zero le na = omega arith
  parameters_end [] at (suc m) le na = absurd (omega (arith, le))
  parameters_end (x ∷ ls) at (suc m) le na =
      let count = words_are p x.ty (na zero x refl (omega arith)) in
      let rest = parameters_end ls (at + words_in p x.ty) m (omega (arith, le)) (λ i r e lt. na (suc i) r e (omega (arith, lt))) in
      omega (arith, count, rest, length-append (units_in p x.ty) (parameter_units m ls))

some_shared : (ls : List LocalRow) (i : ℕ) (l : LocalRow) → slice_get ls i ≡ Some l → l.is_shared ≡ true → 0 < length (shared_types ls)
some_shared [] i l g sh = absurd (cc)
some_shared (x ∷ ls) i l g sh = on (λ j g. some_shared ls j l g sh) x.is_shared refl i g
  where
    on : ((j : ℕ) → slice_get ls j ≡ Some l → 0 < length (shared_types ls)) → (c : Bool) → x.is_shared ≡ c → (i : ℕ) → slice_get (x ∷ ls) i ≡ Some l → 0 < length (local_types (if c then x ∷ filter (λ (r : LocalRow). r.is_shared) ls else filter (λ (r : LocalRow). r.is_shared) ls))
    on rest true e i g = omega arith
    on rest false e zero g = let same : x ≡ l = same_Some x l g in absurd (true_is_not l.is_shared sh (ap (λ (r : LocalRow). r.is_shared) (sym same) ∙ e))
    on rest false e (suc i) g = rest i g

-- where a shared local is, there is a block
pub shared_has_block : (ls : List LocalRow) (i : ℕ) (l : LocalRow) → slice_get ls i ≡ Some l → l.is_shared ≡ true → has_block ls ≡ true
shared_has_block ls i l g sh = let n = some_shared ls i l g sh in grind (arith, common_steps, n)
