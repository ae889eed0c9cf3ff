-- Words and records of the stack, read one after the other.
use Rattle.std.proofs.Common.{◌≡◌, ℕ, suc, ◌+◌, ◌-◌, ◌<◌, ◌≤◌, List, [], ◌∷◌, ◌++◌, Option, Some, None, refl, arith, append_assoc, append-nil, ap, ◌∙◌, sym}
use Rattle.rv_exec.specs.Windows.{words_from}
use Rattle.rv_exec.specs.Calls.{also, records_from}

one_less : (count k : ℕ) → k < count → count - k ≡ suc (count - (k + 1))
one_less count k h = omega arith

none_left : (count k : ℕ) → count ≤ k → count - k ≡ 0
none_left count k h = omega arith

-- the words so far and those that are left
pub words_next : (f : ℕ → ℕ) (first count k : ℕ) (words all : List ℕ) → k < count
    → words ++ words_from f (first + k) (count - k) ≡ all
    → (words ++ f (first + k) ∷ []) ++ words_from f (first + (k + 1)) (count - (k + 1)) ≡ all
words_next f first count k words all h e =
    let next : first + (k + 1) ≡ first + k + 1 = omega arith in
    rw (append_assoc words (f (first + k) ∷ []) _, next) (rw (one_less count k h) at e)

pub words_done : (f : ℕ → ℕ) (first count k : ℕ) (words all : List ℕ) → count ≤ k
    → words ++ words_from f (first + k) (count - k) ≡ all → words ≡ all
words_done f first count k words all h e = sym (append-nil words) ∙ (rw (none_left count k h) at e)

-- what was read, and what is left or is not there
abbrev pub with_rest : {X : Type 0} → List X → Option (List X) → Option (List X)
with_rest xs None = None
with_rest xs (Some ys) = Some (xs ++ ys)

with_rest_also : {X : Type 0} (xs : List X) (x : X) (rest : Option (List X)) → with_rest xs (also (Some x) rest) ≡ with_rest (xs ++ x ∷ []) rest
with_rest_also xs x None = refl
with_rest_also xs x (Some ys) = ap (λ zs. Some zs) (sym (append_assoc xs (x ∷ []) ys))

module _ {X : Type 0} (record_at : ℕ → Option X) (each from count k : ℕ) (xs : List X) (all : Option (List X))
    (e : with_rest xs (records_from record_at each from (count - k)) ≡ all) where
  pub record_next : (to : ℕ) (x : X) → k < count → to ≡ from + each → record_at from ≡ Some x
      → with_rest (xs ++ x ∷ []) (records_from record_at each to (count - (k + 1))) ≡ all
  record_next to x h next read =
      let first : with_rest xs (also (record_at from) (records_from record_at each (from + each) (count - (k + 1)))) ≡ all = rw (one_less count k h) at e in
      rw next (sym (with_rest_also xs x _) ∙ (rw read at first))

  pub record_missing : k < count → record_at from ≡ None → None ≡ all
  record_missing h read =
      let first : with_rest xs (also (record_at from) (records_from record_at each (from + each) (count - (k + 1)))) ≡ all = rw (one_less count k h) at e in
      rw read at first

  pub records_done : count ≤ k → Some xs ≡ all
  records_done h = ap (λ zs. Some zs) (sym (append-nil xs)) ∙ (rw (none_left count k h) at e)
