-- The numbers of labels and rescues.
use Rattle.std.proofs.Common.{◌≡◌, ℕ, zero, suc, ◌+◌, Bool, true, false, cond, List, [], ◌∷◌, ◌++◌, length, Option, Some, refl, sym, ap, ◌∙◌, subst, arith}
use Rattle.std.specs.Prelude.{Contains, slice_get}
use Rattle.std.specs.List.{position_from}
use Rattle.std.proofs.lemmas.Iterator.Adapters.{position_from-zero}
use Rattle.std.proofs.lemmas.List.Elements.{Contains-append_left, Contains-append_right}
use Rattle.al_flow.specs.declared.mark.Mark.{Mark}
use Rattle.al_flow.specs.declared.mark.Mark.TheVariants as mark
use Rattle.al_flow.specs.Marks.{is_label, is_rescue, label_named, rescue_named}
use Rattle.al_sound_flow.specs.Flow.{label_numbers, rescue_numbers}

some_is : {A : Type 0} {a b : A} → Some a ≡ Some b → a ≡ b
some_is e = cc

here_first : {A : Type 0} (x : A) (xs : List A) → Contains (x ∷ xs) x
here_first x xs = Contains-append_left (x ∷ []) xs x (0, omega arith, refl)

further : {A : Type 0} (x y : A) (xs : List A) → Contains xs y → Contains (x ∷ xs) y
further x y xs c = Contains-append_right (x ∷ []) xs y c

moved : (xs : List ℕ) (n m : ℕ) → n ≡ m → Contains xs n → Contains xs m
moved xs n m e c = subst (Contains xs) e c

-- ---- by what stands at a number

pub label_there : (from : ℕ) (ms : List Mark) (k name : ℕ) → slice_get ms k ≡ Some (mark.Label name) → Contains (label_numbers from ms) (from + k)
label_there from [] k name e = absurd (cc)
label_there from (mark.Label own ∷ ms) zero name e = moved (label_numbers from (mark.Label own ∷ ms)) from (from + 0) (omega arith) (here_first from (label_numbers (from + 1) ms))
label_there from (mark.Rescue own ∷ ms) zero name e = absurd (cc)
label_there from (mark.Label own ∷ ms) (suc k) name e =
    moved (label_numbers from (mark.Label own ∷ ms)) (from + 1 + k) (from + suc k) (omega arith) (further from (from + 1 + k) (label_numbers (from + 1) ms) (label_there (from + 1) ms k name e))
label_there from (mark.Rescue own ∷ ms) (suc k) name e = moved (label_numbers (from + 1) ms) (from + 1 + k) (from + suc k) (omega arith) (label_there (from + 1) ms k name e)

pub rescue_there : (from : ℕ) (ms : List Mark) (k : ℕ) (name : Option ℕ) → slice_get ms k ≡ Some (mark.Rescue name) → Contains (rescue_numbers from ms) (from + k)
rescue_there from [] k name e = absurd (cc)
rescue_there from (mark.Rescue own ∷ ms) zero name e = moved (rescue_numbers from (mark.Rescue own ∷ ms)) from (from + 0) (omega arith) (here_first from (rescue_numbers (from + 1) ms))
rescue_there from (mark.Label own ∷ ms) zero name e = absurd (cc)
rescue_there from (mark.Rescue own ∷ ms) (suc k) name e =
    moved (rescue_numbers from (mark.Rescue own ∷ ms)) (from + 1 + k) (from + suc k) (omega arith) (further from (from + 1 + k) (rescue_numbers (from + 1) ms) (rescue_there (from + 1) ms k name e))
rescue_there from (mark.Label own ∷ ms) (suc k) name e = moved (rescue_numbers (from + 1) ms) (from + 1 + k) (from + suc k) (omega arith) (rescue_there (from + 1) ms k name e)

-- what stands behind others
pub next_one : {A : Type 0} (xs ys : List A) (y : A) → slice_get (xs ++ y ∷ ys) (length xs) ≡ Some y
next_one [] ys y = refl
next_one (x ∷ xs) ys y = next_one xs ys y

-- ---- by name

-- the first label of that name, where those before have the numbers up to `from`
label_from : (ms : List Mark) (from name n : ℕ) → position_from (λ m. is_label m name) from ms ≡ Some n → Contains (label_numbers from ms) n
label_from [] from name n e = absurd (cc)
label_from (mark.Label own ∷ ms) from name n e = on (is_label (mark.Label own) name) e (λ q. label_from ms (from + 1) name n q)
  where
    on : (b : Bool) → cond b (Some from) (position_from (λ m. is_label m name) (from + 1) ms) ≡ Some n
        → (position_from (λ m. is_label m name) (from + 1) ms ≡ Some n → Contains (label_numbers (from + 1) ms) n) → Contains (label_numbers from (mark.Label own ∷ ms)) n
    on true e k = moved (label_numbers from (mark.Label own ∷ ms)) from n (some_is e) (here_first from (label_numbers (from + 1) ms))
    on false e k = further from n (label_numbers (from + 1) ms) (k e)
label_from (mark.Rescue own ∷ ms) from name n e = label_from ms (from + 1) name n e

rescue_from : (ms : List Mark) (from name n : ℕ) → position_from (λ m. is_rescue m name) from ms ≡ Some n → Contains (rescue_numbers from ms) n
rescue_from [] from name n e = absurd (cc)
rescue_from (mark.Rescue own ∷ ms) from name n e = on (is_rescue (mark.Rescue own) name) e (λ q. rescue_from ms (from + 1) name n q)
  where
    on : (b : Bool) → cond b (Some from) (position_from (λ m. is_rescue m name) (from + 1) ms) ≡ Some n
        → (position_from (λ m. is_rescue m name) (from + 1) ms ≡ Some n → Contains (rescue_numbers (from + 1) ms) n) → Contains (rescue_numbers from (mark.Rescue own ∷ ms)) n
    on true e k = moved (rescue_numbers from (mark.Rescue own ∷ ms)) from n (some_is e) (here_first from (rescue_numbers (from + 1) ms))
    on false e k = further from n (rescue_numbers (from + 1) ms) (k e)
rescue_from (mark.Label own ∷ ms) from name n e = rescue_from ms (from + 1) name n e

pub label_is : (ms : List Mark) (name n : ℕ) → label_named ms name ≡ Some n → Contains (label_numbers 0 ms) n
unfolding label_named
label_is ms name n e = label_from ms 0 name n (sym (position_from-zero (λ m. is_label m name) ms) ∙ e)

pub rescue_is : (ms : List Mark) (name n : ℕ) → rescue_named ms name ≡ Some n → Contains (rescue_numbers 0 ms) n
unfolding rescue_named
rescue_is ms name n e = rescue_from ms 0 name n (sym (position_from-zero (λ m. is_rescue m name) ms) ∙ e)

-- ---- of several lists

pub labels_split : (from : ℕ) (ms ns : List Mark) → label_numbers from (ms ++ ns) ≡ label_numbers from ms ++ label_numbers (from + length ms) ns
labels_split from [] ns = ap (λ n. label_numbers n ns) (omega arith)
labels_split from (mark.Label name ∷ ms) ns = ap (λ ks. from ∷ ks) (labels_split (from + 1) ms ns ∙ ap (λ n. label_numbers (from + 1) ms ++ label_numbers n ns) (omega arith))
labels_split from (mark.Rescue name ∷ ms) ns = labels_split (from + 1) ms ns ∙ ap (λ n. label_numbers (from + 1) ms ++ label_numbers n ns) (omega arith)

pub rescues_split : (from : ℕ) (ms ns : List Mark) → rescue_numbers from (ms ++ ns) ≡ rescue_numbers from ms ++ rescue_numbers (from + length ms) ns
rescues_split from [] ns = ap (λ n. rescue_numbers n ns) (omega arith)
rescues_split from (mark.Rescue name ∷ ms) ns = ap (λ ks. from ∷ ks) (rescues_split (from + 1) ms ns ∙ ap (λ n. rescue_numbers (from + 1) ms ++ rescue_numbers n ns) (omega arith))
rescues_split from (mark.Label name ∷ ms) ns = rescues_split (from + 1) ms ns ∙ ap (λ n. rescue_numbers (from + 1) ms ++ rescue_numbers n ns) (omega arith)
