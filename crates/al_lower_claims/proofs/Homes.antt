-- The homes of variables lie apart.
use Rattle.std.proofs.Common.{◌≡◌, ℕ, zero, suc, ◌+◌, ◌<◌, ◌≤◌, List, [], ◌∷◌, length, Some, refl, ap, ◌∙◌, ◌⊎◌, inl, inr, ⊎_elim, arith}
use Rattle.std.specs.Prelude.{false, ◌≢◌, if◌then◌else◌, slice_get}
use Rattle.std.proofs.lemmas.Option.{same_Some, slice_get_within}
use Rattle.al_typed.specs.declared.program.Local.{Local as LocalRow}
use Rattle.al_typed.specs.declared.program.Program.{Program}
use Rattle.al_typed.specs.Types.{is_array}
use Rattle.al_meaning.specs.Places.{function_at, locals_of, words_in}
use Rattle.al_meaning.specs.Evaluate.{round_of}
use Rattle.al_meaning.specs.Here.{units_in}
use Rattle.al_lower_code.specs.Homes.{local_slots, one_less, behind_locals, parameters_of, local_home, block_home}
use Rattle.al_lower_words.proofs.Integers.{words_are}

-- a private local of a function
pub record IsPrivateLocal (p : Program) (f n : ℕ) (l : LocalRow) : Type 0 where
  pub row : slice_get (locals_of (function_at p f)) n ≡ Some l
  pub private : l.is_shared ≡ false

-- the homes of private locals lie apart, behind the addresses of the blocks round the function and before that of its own
pub record Homes (p : Program) (f : ℕ) : Type 0 where
  pub fits : (n : ℕ) (l : LocalRow) → IsPrivateLocal p f n l → local_home p f n + length (units_in p l.ty) ≤ block_home p f
  pub apart : (n m : ℕ) (l k : LocalRow) → IsPrivateLocal p f n l → IsPrivateLocal p f m k → n ≢ m → (local_home p f n + length (units_in p l.ty) ≤ local_home p f m) ⊎ (local_home p f m + length (units_in p k.ty) ≤ local_home p f n)
  pub behind_around : (n : ℕ) → length (round_of (function_at p f)) ≤ local_home p f n

at_least : (p : Program) (ls : List LocalRow) (at m n : ℕ) → at ≤ behind_locals p at m n ls
at_least p ls at m zero = omega arith
at_least p [] at m (suc n) = omega arith
at_least p (l ∷ ls) at m (suc n) = let h = at_least p ls (at + local_slots p m l) (one_less m) n in omega (arith, h)

private_words : (p : Program) (m : ℕ) (l : LocalRow) → l.is_shared ≡ false → local_slots p m l ≡ words_in p l.ty
private_words p zero l h = ap (λ b. if b then 0 else words_in p l.ty) h
private_words p (suc m) l h = refl

below_later : (p : Program) (ls : List LocalRow) (at m n k : ℕ) (l : LocalRow) → slice_get ls n ≡ Some l → l.is_shared ≡ false → n < k → behind_locals p at m n ls + words_in p l.ty ≤ behind_locals p at m k ls
below_later p [] at m n k l g sh lt = absurd (cc)
below_later p (x ∷ ls) at m n zero l g sh lt = absurd (omega (arith, lt))
below_later p (x ∷ ls) at m zero (suc k) l g sh lt =
    let same : x ≡ l = same_Some x l g in
    let e = private_words p m x (ap (λ (r : LocalRow). r.is_shared) same ∙ sh) in
    let f : words_in p x.ty ≡ words_in p l.ty = ap (λ (r : LocalRow). words_in p r.ty) same in
    let h = at_least p ls (at + local_slots p m x) (one_less m) k in
    omega (arith, e, f, h)
below_later p (x ∷ ls) at m (suc n) (suc k) l g sh lt = below_later p ls (at + local_slots p m x) (one_less m) n k l g sh (omega (arith, lt))

pub less_or_more : (n m : ℕ) → n ≢ m → (n < m) ⊎ (m < n)
less_or_more zero zero h = absurd (h refl)
less_or_more zero (suc m) h = inl (omega arith)
less_or_more (suc n) zero h = inr (omega arith)
less_or_more (suc n) (suc m) h = ⊎_elim (λ e. inl (omega (arith, e))) (λ e. inr (omega (arith, e))) (less_or_more n m (λ e. h (ap suc e)))

module _ (p : Program) (f : ℕ) where
  -- no private local is an array
  abbrev pub HasNoArrays : Type 0
  HasNoArrays = (n : ℕ) (l : LocalRow) → IsPrivateLocal p f n l → is_array l.ty ≡ false

  before : (n k : ℕ) (l : LocalRow) → HasNoArrays → IsPrivateLocal p f n l → n < k → local_home p f n + length (units_in p l.ty) ≤ local_home p f k
  before n k l plain x lt =
      let w = words_are p l.ty (plain n l x) in
      let h = below_later p (locals_of (function_at p f)) (length (round_of (function_at p f))) (parameters_of (function_at p f)) n k l x.row x.private lt in
      omega (arith, w, h)

  pub homes : HasNoArrays → Homes p f
  homes plain = record {
    fits = λ n l x. before n (length (locals_of (function_at p f))) l plain x (slice_get_within (locals_of (function_at p f)) n l x.row);
    apart = λ n m l k x y ne. ⊎_elim (λ lt. inl (before n m l plain x lt)) (λ lt. inr (before m n k plain y lt)) (less_or_more n m ne);
    behind_around = λ n. at_least p (locals_of (function_at p f)) (length (round_of (function_at p f))) (parameters_of (function_at p f)) n;
  }
