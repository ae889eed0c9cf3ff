-- What an image begins with: words for main, and bytes for its globals.
use Rattle.std.proofs.Common.{◌≡◌, ◌≢◌, ℕ, zero, suc, ◌+◌, ◌/◌, ◌^◌, ◌<◌, List, [], ◌∷◌, ◌++◌, take, drop, length, Option, Some, None, refl, sym, ap, ◌∙◌, subst, true, false, Bool, cond, ◌==◌, ◌⊎◌, inl, inr, arith}
use Rattle.std.specs.Prelude.{slice_get, fold, replicate}
use Rattle.std.specs.List.{AllByRecursion}
use Rattle.std.proofs.lemmas.Bool.Decides.{eqb_tells}
use Rattle.std.proofs.lemmas.Nat.{mod_below}
use Rattle.al_event.specs.Store.{bytes_of, overwritten}
use Rattle.al_world.specs.Answers.{AreBytes}
use Rattle.al_world.proofs.Lists.{all_append, all_take}
use Rattle.rv_isa.specs.declared.image.Contents.{Contents}
use Rattle.rv_isa.specs.declared.image.Item.{Item}
use Rattle.rv_isa.specs.declared.image.Row.{Row}
use Rattle.std.proofs.lemmas.Bool.{and_parts}
use Rattle.rv_isa.specs.Image.{IsWithin, is_main, are_rows}
use Rattle.rv_exec.specs.Calls.{has_function}
use Rattle.al_core.specs.Opening.{with_item, globals_from, globals_of, zeros_for, main_of}
use Rattle.al_core.specs.Asks.{IsStart}

-- ---- bytes

all_drop : (P : ℕ → Type 0) (n : ℕ) (xs : List ℕ) → AllByRecursion P xs → AllByRecursion P (drop n xs)
all_drop P zero xs a = a
all_drop P (suc n) [] a = tt
all_drop P (suc n) (x ∷ xs) a = all_drop P n xs a.1

all_replicate : (P : ℕ → Type 0) (n x : ℕ) → P x → AllByRecursion P (replicate n x)
all_replicate P zero x p = tt
all_replicate P (suc n) x p = (p, all_replicate P n x p)

spelled : (n word : ℕ) → AreBytes (bytes_of n word)
spelled zero word = tt
spelled (suc n) word = (mod_below word 256 (omega arith), spelled n (word / 256))

over_bytes : (xs : List ℕ) (k : ℕ) (ys : List ℕ) → AreBytes xs → AreBytes ys → AreBytes (overwritten xs k ys)
over_bytes xs k ys a b =
    all_append (λ b. b < 256) (take k xs) (ys ++ drop (k + length ys) xs) (all_take (λ b. b < 256) k xs a) (all_append (λ b. b < 256) ys (drop (k + length ys) xs) b (all_drop (λ b. b < 256) (k + length ys) xs a))

item_bytes : (global : ℕ) (bytes : List ℕ) (item : Item) → AreBytes bytes → AreBytes (with_item global bytes item)
item_bytes global bytes item a = on (item.global == global)
  where
    on : (b : Bool) → AreBytes (cond b (overwritten bytes item.offset (bytes_of item.size item.value)) bytes)
    on true = over_bytes bytes item.offset (bytes_of item.size item.value) a (spelled item.size item.value)
    on false = a

items_bytes : (global : ℕ) (items : List Item) (bytes : List ℕ) → AreBytes bytes → AreBytes (fold (with_item global) bytes items)
items_bytes global [] bytes a = a
items_bytes global (i ∷ is) bytes a = items_bytes global is (with_item global bytes i) (item_bytes global bytes i a)

from_bytes : (items : List Item) (global : ℕ) (sizes : List ℕ) → AllByRecursion AreBytes (globals_from items global sizes)
from_bytes items global [] = tt
from_bytes items global (size ∷ sizes) =
    (items_bytes global items (replicate size 0) (all_replicate (λ b. b < 256) size 0 (omega arith)), from_bytes items (global + 1) sizes)

pub globals_bytes : (image : Contents) → AllByRecursion AreBytes (globals_of image)
globals_bytes image = from_bytes image.items 0 image.globals

-- ---- main

length_replicate : (n x : ℕ) → length (replicate n x) ≡ n
length_replicate zero x = refl
length_replicate (suc n) x = ap suc (length_replicate n x)

same_count : (n : ℕ) → (n == n) ≡ true
same_count n = on (eqb_tells n n)
  where
    on : ((n == n ≡ true) × (n ≡ n)) ⊎ ((n == n ≡ false) × (n ≢ n)) → (n == n) ≡ true
    on (inl e) = e.0
    on (inr e) = absurd (e.1 refl)

pub main_starts : (image : Contents) → is_main (slice_get image.functions image.main) ≡ true → IsStart image (main_of image)
main_starts image m = on (slice_get image.functions image.main) refl m
  where
    on : (o : Option Row) → slice_get image.functions image.main ≡ o → is_main o ≡ true → IsStart image (record { code = image.main; words = zeros_for (slice_get image.functions image.main) })
    on None e m = absurd (cc)
    on (Some row) e m =
        subst (λ (ws : List ℕ). IsStart image (record { code = image.main; words = ws })) (sym (ap zeros_for e))
        (record {
          known = rw (has_function, e) (ap (λ k. row.words == k) (length_replicate row.words 0) ∙ same_count row.words);
          words = all_replicate (λ w. w < 2 ^ 32) row.words 0 (omega arith);
        })

pub main_row : (c : Contents) → are_rows c ≡ true → is_main (slice_get c.functions c.main) ≡ true
main_row c h = (and_parts _ _ (and_parts _ _ (and_parts _ _ (and_parts _ _ (and_parts _ _ (and_parts _ _ h).0).0).0).0).0).1

-- an image starts main with as many words as it takes
pub main_is : (image : Contents) → IsWithin image → IsStart image (main_of image)
main_is image within = main_starts image (main_row image (and_parts _ _ within).1)
