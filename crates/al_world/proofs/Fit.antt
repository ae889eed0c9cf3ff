-- Each answer that a world gives is one that its action can have.
use Rattle.std.proofs.Common.{◌≡◌, ℕ, zero, suc, ◌+◌, ◌-◌, ◌*◌, ◌/◌, ◌%◌, ◌^◌, ◌<◌, ◌≤◌, List, [], ◌∷◌, Bool, true, false, cond, ◌==◌, ◌&&◌, not, length, filter, map, take, drop, replicate, Option, Some, None, Ok, Err, refl, subst, arith}
use Rattle.std.specs.Prelude.{slice_get, nat_lt, nat_le, find}
use Rattle.std.specs.List.{AllByRecursion, list_any}
use Rattle.std.proofs.lemmas.Option.{same_Some, slice_get_within}
use Rattle.std.proofs.lemmas.Bool.{leb-true, lt-ltb}
use Rattle.std.proofs.Math.Nat.{mod-eq_of_lt, mod-lt}
use Rattle.al_base.specs.declared.trap.Trap.TheVariants.{Fault, Align, Unalloc}
use Rattle.al_event.specs.Store.{Live, Span, region_base, number_of, bytes_of, overwritten, word_in, load, with_word, store_word, with_block, zeros, placed, alloc_block, overlaps, least_from, least, most_blocks, new_place, spans_of, span_of, lies_in, free_block, begins_at, is_nil_heap}
use Rattle.al_event.specs.declared.act.Block.{Block}
use Rattle.al_event.specs.declared.act.Branch.{Branch}
use Rattle.al_event.specs.declared.act.Act.TheVariants.{Talk}
use Rattle.al_world.specs.Control.{cut, fitted, received_by}
use Rattle.al_world.specs.Answers.{AreWords, AreBytes}
use Rattle.al_world.proofs.Lists.{same_ok, all_take, all_to, all_append, all_filter, all_map}

-- ---- words and bytes

pub cut_same : (n m : ℕ) (ws : List ℕ) → length ws ≡ n → AllByRecursion (λ w. w < m) ws → cut n m ws ≡ ws
cut_same zero m [] e h = refl
cut_same zero m (w ∷ ws) e h = absurd (omega arith)
cut_same (suc n) m [] e h = absurd (omega arith)
cut_same (suc n) m (w ∷ ws) e h = rw (mod-eq_of_lt h.0, cut_same n m ws (omega arith) h.1) refl

pos_pow : (n : ℕ) → 0 < 256 ^ n
pos_pow zero = omega arith
pos_pow (suc n) = let h = pos_pow n in let e : 256 ^ suc n ≡ 256 * 256 ^ n = omega arith in omega arith

pub number_below : (n : ℕ) (bytes : List ℕ) → AreBytes bytes → number_of (take n bytes) < 256 ^ n
number_below zero bytes h = omega arith
number_below (suc n) [] h = pos_pow (suc n)
number_below (suc n) (b ∷ bs) h =
    let x : number_of (take n bs) < 256 ^ n = number_below n bs h.1 in let y : b < 256 = h.0 in let e : 256 ^ suc n ≡ 256 * 256 ^ n = omega arith in omega arith

all_drop : {X : Type 0} (P : X → Type 0) (n : ℕ) (xs : List X) → AllByRecursion P xs → AllByRecursion P (drop n xs)
all_drop P zero xs h = h
all_drop P (suc n) [] h = tt
all_drop P (suc n) (x ∷ xs) h = all_drop P n xs h.1

bytes_of_bytes : (n word : ℕ) → AreBytes (bytes_of n word)
bytes_of_bytes zero word = tt
bytes_of_bytes (suc n) word = (mod-lt word (omega arith), bytes_of_bytes n (word / 256))

zeros_bytes : (n : ℕ) → AreBytes (replicate n 0)
zeros_bytes zero = tt
zeros_bytes (suc n) = (omega arith, zeros_bytes n)

-- ---- the store holds bytes

abbrev pub HoldsBytes : Live → Type 0
HoldsBytes b = AreBytes b.bytes

word_in_below : (at n : ℕ) (o : Option Live) (word : ℕ) → ((b : Live) → o ≡ Some b → HoldsBytes b) → word_in at n o ≡ Ok word → word < 256 ^ n
word_in_below at n None word h e = absurd (cc)
word_in_below at n (Some b) word h e =
    let same : number_of (take n (drop (at - b.at) b.bytes)) ≡ word = same_ok _ _ e in
    subst (λ w. w < 256 ^ n) same (number_below n _ (all_drop _ (at - b.at) b.bytes (h b refl)))

found_in : (test : Live → Bool) (xs : List Live) (b : Live) (P : Live → Type 0) → AllByRecursion P xs → find test xs ≡ Some b → P b
found_in test [] b P h e = absurd (cc)
found_in test (x ∷ xs) b P h e = on (test x) e (found_in test xs b P h.1)
  where
    on : (v : Bool) → cond v (Some x) (find test xs) ≡ Some b → (find test xs ≡ Some b → P b) → P b
    on true e later = subst P (same_Some x b e) h.0
    on false e later = later e

pub load_below : (store : List Live) (at n word : ℕ) → AllByRecursion HoldsBytes store → load store at n ≡ Ok word → word < 256 ^ n
load_below store at n word h e = on (at % n == 0) e
  where
    on : (v : Bool) → cond v (word_in at n (find (λ b. lies_in at n (span_of b)) store)) (Err Align) ≡ Ok word → word < 256 ^ n
    on true e = word_in_below at n _ word (λ b f. found_in _ store b HoldsBytes h f) e
    on false e = absurd (cc)

with_word_bytes : (at n word : ℕ) (b : Live) → HoldsBytes b → HoldsBytes (with_word at n word b)
with_word_bytes at n word b h =
    elim (lies_in at n (span_of b)) as (λ v. HoldsBytes (cond v (record b { bytes = overwritten b.bytes (at - b.at) (bytes_of n word) }) b)) [
      | true ↦ all_append _ _ _ (all_take _ (at - b.at) b.bytes h) (all_append _ _ _ (bytes_of_bytes n word) (all_drop _ _ b.bytes h))
      | false ↦ h
    ]

pub store_bytes : (store : List Live) (at n word : ℕ) (new : List Live) → AllByRecursion HoldsBytes store → store_word store at n word ≡ Ok new → AllByRecursion HoldsBytes new
store_bytes store at n word new h e = on (at % n == 0) (list_any (λ b. lies_in at n (span_of b)) store) e
  where
    on : (u v : Bool) → cond u (cond v (Ok (map (with_word at n word) store)) (Err Fault)) (Err Align) ≡ Ok new → AllByRecursion HoldsBytes new
    on true true e = subst (AllByRecursion HoldsBytes) (same_ok _ _ e) (all_map HoldsBytes (with_word at n word) store (all_to _ _ (with_word_bytes at n word) store h))
    on true false e = absurd (cc)
    on false v e = absurd (cc)

pub in_order_all : (P : Live → Type 0) (b : Live) (store : List Live) → P b → AllByRecursion P store → AllByRecursion P (with_block b store)
in_order_all P b [] x h = (x, tt)
in_order_all P b (c ∷ cs) x h =
    elim (nat_lt b.at c.at) as (λ v. AllByRecursion P (cond v (b ∷ c ∷ cs) (c ∷ with_block b cs))) [ true ↦ (x, h) | false ↦ (h.0, in_order_all P b cs x h.1) ]

-- a place lies below the region's end
place_below : (steps region : ℕ) (spans : List Span) (n at a : ℕ) → least_from steps region spans n at ≡ Some a → a ≤ region_base + region
place_below zero region spans n at a e = absurd (cc)
place_below (suc k) region spans n at a e =
    on (nat_le (at + n) (region_base + region)) (not (list_any (overlaps at n) spans)) refl e (place_below k region spans n (at + 8) a)
  where
    on : (u v : Bool) → nat_le (at + n) (region_base + region) ≡ u → elim (u && v) [ true ↦ Some at | false ↦ least_from k region spans n (at + 8) ] ≡ Some a → (least_from k region spans n (at + 8) ≡ Some a → a ≤ region_base + region) → a ≤ region_base + region
    on true true le e later = let same : at ≡ a = same_Some at a e in let x : at + n ≤ region_base + region = leb-true _ _ le in omega arith
    on true false le e later = later e
    on false v le e later = later e

new_place_below : (region : ℕ) (spans : List Span) (n a : ℕ) → new_place region spans n ≡ Some a → a ≤ region_base + region
new_place_below region spans n a e = on (nat_lt (length spans) most_blocks) e
  where
    on : (v : Bool) → cond v (least region spans n) None ≡ Some a → a ≤ region_base + region
    on true e = place_below (region / 8 + 1) region spans n region_base a e
    on false e = absurd (cc)

pub record Placed (region : ℕ) (r : ℕ × List Live) : Type 0 where
  pub below : r.0 ≤ region_base + region
  pub bytes : AllByRecursion HoldsBytes r.1

pub alloc_placed : (region : ℕ) (store : List Live) (n : ℕ) (kind : Block) (r : ℕ × List Live) → AllByRecursion HoldsBytes store → alloc_block region store n kind ≡ Ok r → Placed region r
alloc_placed region store n kind r h e = on (new_place region (spans_of store) n) refl e
  where
    on : (o : Option ℕ) → new_place region (spans_of store) n ≡ o → placed store n kind o ≡ Ok r → Placed region r
    on None f e = absurd (cc)
    on (Some at) f e = subst (Placed region) (same_ok _ _ e) (record { below = new_place_below region (spans_of store) n at f; bytes = in_order_all HoldsBytes (zeros at n kind) store (zeros_bytes n) h })

pub freed_bytes : (store : List Live) (at : ℕ) (kind : Block) (new : List Live) → AllByRecursion HoldsBytes store → free_block store at kind ≡ Ok new → AllByRecursion HoldsBytes new
freed_bytes store at kind new h e = on (is_nil_heap at kind) (list_any (λ b. begins_at at kind (span_of b)) store) e
  where
    on : (u v : Bool) → cond u (Ok store) (cond v (Ok (filter (λ b. not (begins_at at kind (span_of b))) store)) (Err Unalloc)) ≡ Ok new → AllByRecursion HoldsBytes new
    on true v e = subst (AllByRecursion HoldsBytes) (same_ok _ _ e) h
    on false true e = subst (AllByRecursion HoldsBytes) (same_ok _ _ e) (all_filter HoldsBytes _ store h)
    on false false e = absurd (cc)

-- ---- answers to talks

-- what a branch receives: nothing where it sends, else words as it says
abbrev pub Received : ℕ → Option (List ℕ) → List ℕ → Type 0
Received n (Some _) words = words ≡ []
Received n None words = AreWords n words

received_same : (b : Branch) (send : Option (List ℕ)) (words : List ℕ) → b.send ≡ send → Received b.words send words → cut (received_by (Some b)) (2 ^ 32) words ≡ words
received_same b None words e h = rw e (cut_same b.words (2 ^ 32) words h.count h.each)
received_same b (Some w) words e h = rw (e, h) refl

pub fit_talk : (branches : List Branch) (i : ℕ) (b : Branch) (words : List ℕ) → slice_get branches i ≡ Some b → Received b.words b.send words → fitted (Talk branches) (i ∷ words) ≡ i ∷ words
fit_talk branches i b words at h =
    let lt : i < length branches = slice_get_within branches i b at in
    rw (lt-ltb i (length branches) lt, at, received_same b b.send words refl h) refl
