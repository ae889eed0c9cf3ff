-- The blocks with their bytes, against where they lie and what the memory holds.
use Rattle.std.proofs.Common.{◌≡◌, ℕ, zero, suc, ◌+◌, ◌-◌, ◌/◌, ◌%◌, ◌<◌, ◌≤◌, ◌⊎◌, inl, inr, Bool, true, false, cond, not, eqb, ltb, List, [], ◌∷◌, ◌++◌, length, take, drop, map, filter, find, Option, Some, None, option_map, is_some, ◌||◌, Result, Ok, Err, rules, refl, sym, ap, ap₂, subst, ◌∙◌, arith}
use Rattle.std.specs.List.{list_any}
use Rattle.std.proofs.lemmas.List.{places}
use Rattle.std.proofs.lemmas.Bool.Decides.{nat_tests}
use Rattle.al_base.specs.declared.trap.Trap.{Trap}
use Rattle.al_base.specs.declared.trap.Trap.TheVariants.{Align}
use Rattle.al_event.specs.declared.act.Block.{Block}
use Rattle.al_event.specs.Store.{Span, Live, region_base, lies_in, hit, span_of, spans_of, number_of, bytes_of, overwritten, load, word_in, with_word, with_block, with_span, begins_at}
use Rattle.al_region.specs.Region.{IsLaid}
use Rattle.al_region.proofs.Laid.{IsClear, clear_before}
use Rattle.al_store.specs.Memory.{live_of, lives_of, AreHeld, access, lies_at}
use Rattle.al_store.proofs.Parts.{part-part, part-written, part-before, part-behind, part-longer}

-- a block that the memory holds has all its bytes
held_size : (m : List ℕ) (b : Span) → region_base ≤ b.at → b.at + b.size ≤ region_base + length m → length (take b.size (drop (b.at - region_base) m)) ≡ b.size
held_size m b from to = search (rules, places)

span-live : (m : List ℕ) (b : Span) → region_base ≤ b.at → b.at + b.size ≤ region_base + length m → span_of (live_of m b) ≡ b
span-live m b from to = ap (λ n. let s : Span = record { at = b.at; size = n; kind = b.kind } in s) (held_size m b from to)

pub spans_of-lives : (m : List ℕ) (bs : List Span) → AreHeld m bs → spans_of (lives_of m bs) ≡ bs
spans_of-lives m [] h = refl
spans_of-lives m (b ∷ bs) h = grind (arith, span-live m b h.0 h.1, spans_of-lives m bs h.2)

-- an access finds the same block
pub find-lives : (m : List ℕ) (bs : List Span) (at n : ℕ) → AreHeld m bs → find (λ b. lies_in at n (span_of b)) (lives_of m bs) ≡ option_map (live_of m) (find (lies_in at n) bs)
find-lives m [] at n h = refl
find-lives m (b ∷ bs) at n h = rw (held_size m b h.0 h.1) (on (lies_in at n b) (find-lives m bs at n h.2))
  where
    on : (t : Bool) → find (λ b. lies_in at n (span_of b)) (lives_of m bs) ≡ option_map (live_of m) (find (lies_in at n) bs) → cond t (Some (live_of m b)) (find (λ b. lies_in at n (span_of b)) (lives_of m bs)) ≡ option_map (live_of m) (cond t (Some b) (find (lies_in at n) bs))
    on true rest = refl
    on false rest = rest

pub any-lives : (m : List ℕ) (bs : List Span) (at n : ℕ) → AreHeld m bs → list_any (λ b. lies_in at n (span_of b)) (lives_of m bs) ≡ list_any (lies_in at n) bs
any-lives m [] at n h = refl
any-lives m (b ∷ bs) at n h = rw (held_size m b h.0 h.1, any-lives m bs at n h.2) refl

-- what was found is held, and the access lies in it
pub record IsFound (m : List ℕ) (at n : ℕ) (b : Span) : Type 0 where
  pub begins : region_base ≤ b.at
  pub ends : b.at + b.size ≤ region_base + length m
  pub lies : lies_in at n b ≡ true

pub found_held : (m : List ℕ) (bs : List Span) (at n : ℕ) (b : Span) → AreHeld m bs → find (lies_in at n) bs ≡ Some b → IsFound m at n b
found_held m [] at n b h is = absurd (cc)
found_held m (c ∷ bs) at n b h is = on (lies_in at n c) refl is (found_held m bs at n b h.2)
  where
    on : (t : Bool) → lies_in at n c ≡ t → cond t (Some c) (find (lies_in at n) bs) ≡ Some b → (find (lies_in at n) bs ≡ Some b → IsFound m at n b) → IsFound m at n b
    on true e is rest = let same : c ≡ b = cc in subst (IsFound m at n) same (record { begins = h.0; ends = h.1; lies = e })
    on false e is rest = rest is

-- the word of n bytes from where an access lies
abbrev pub word_at : List ℕ → ℕ → Result ℕ Trap → Result ℕ Trap
word_at m n (Ok p) = Ok (number_of (take n (drop p m)))
word_at m n (Err trap) = Err trap

-- a load reads the bytes of the memory from where the access lies
pub load-memory : (m : List ℕ) (bs : List Span) (at n : ℕ) → AreHeld m bs → load (lives_of m bs) at n ≡ word_at m n (access bs at n)
load-memory m bs at n h = rw (find-lives m bs at n h) (on (eqb (at % n) 0) (hit bs at n) refl)
  where
    read : (b : Span) → IsFound m at n b → number_of (take n (drop (at - b.at) (take b.size (drop (b.at - region_base) m)))) ≡ number_of (take n (drop (at - region_base) m))
    read b f =
        let from : b.at ≤ at = grind (arith, nat_tests, f.lies) in
        let to : at + n ≤ b.at + b.size = grind (arith, nat_tests, f.lies) in
        let begins : region_base ≤ b.at = f.begins in
        let ends : b.at + b.size ≤ region_base + length m = f.ends in
        let place : b.at - region_base + (at - b.at) ≡ at - region_base = omega arith in
        ap number_of (part-part m (b.at - region_base) b.size (at - b.at) n (omega arith) (omega arith) ∙ ap (λ p. take n (drop p m)) place)

    on : (t : Bool) (o : Option Span) → find (lies_in at n) bs ≡ o → cond t (word_in at n (option_map (live_of m) o)) (Err Align) ≡ word_at m n (cond t (lies_at at o) (Err Align))
    on false o is = refl
    on true None is = refl
    on true (Some b) is = ap Ok (read b (found_held m bs at n b h is))

-- an access has a place in the memory where it is aligned and lies in a block
pub record HasAccess (bs : List Span) (at n p : ℕ) : Type 0 where
  pub aligned : eqb (at % n) 0 ≡ true
  pub is : at - region_base ≡ p
  pub block : Span
  pub found : find (lies_in at n) bs ≡ Some block

pub has_access : (bs : List Span) (at n p : ℕ) → access bs at n ≡ Ok p → HasAccess bs at n p
has_access bs at n p h = on (eqb (at % n) 0) (hit bs at n) refl refl h
  where
    on : (t : Bool) (o : Option Span) → eqb (at % n) 0 ≡ t → find (lies_in at n) bs ≡ o → cond t (lies_at at o) (Err Align) ≡ Ok p → HasAccess bs at n p
    on false o e is h = absurd (cc)
    on true None e is h = absurd (cc)
    on true (Some b) e is h = record { aligned = e; is = cc; block = b; found = is }

pub any_found : (bs : List Span) (at n : ℕ) (o : Option Span) → find (lies_in at n) bs ≡ o → list_any (lies_in at n) bs ≡ is_some o
any_found [] at n o h = cc
any_found (b ∷ bs) at n o h = on (lies_in at n b) h (any_found bs at n o)
  where
    on : (t : Bool) → cond t (Some b) (find (lies_in at n) bs) ≡ o → (find (lies_in at n) bs ≡ o → list_any (lies_in at n) bs ≡ is_some o) → (t || list_any (lies_in at n) bs) ≡ is_some o
    on true h rest = subst (λ o. true ≡ is_some o) h refl
    on false h rest = rest h

-- the blocks are those in which the access lies, and those that it does not touch
abbrev pub IsSettled : ℕ → ℕ → List Span → Type 0
IsSettled n at [] = Unit {0}
IsSettled n at (b ∷ bs) = ((lies_in at n b ≡ true) ⊎ ((at + n ≤ b.at) ⊎ (b.at + b.size ≤ at))) × IsSettled n at bs

clear_settled : (bs : List Span) (n at : ℕ) → IsClear n at bs → IsSettled n at bs
clear_settled [] n at h = tt
clear_settled (b ∷ bs) n at h = (inr h.0, clear_settled bs n at h.1)

pub found_above : (bs : List Span) (from end n at : ℕ) (b : Span) → IsLaid from bs end → find (lies_in at n) bs ≡ Some b → from ≤ at
found_above [] from end n at b h is = absurd (cc)
found_above (c ∷ bs) from end n at b h is = on (lies_in at n c) refl is (found_above bs (c.at + c.size) end n at b h.3)
  where
    on : (t : Bool) → lies_in at n c ≡ t → cond t (Some c) (find (lies_in at n) bs) ≡ Some b → (find (lies_in at n) bs ≡ Some b → c.at + c.size ≤ at) → from ≤ at
    on true e is rest = grind (arith, nat_tests, h.0)
    on false e is rest = omega (arith, rest is, h.0)

pub settled : (bs : List Span) (from end n at : ℕ) (b : Span) → IsLaid from bs end → find (lies_in at n) bs ≡ Some b → IsSettled n at bs
settled [] from end n at b h is = tt
settled (c ∷ bs) from end n at b h is = on (lies_in at n c) refl is (settled bs (c.at + c.size) end n at b h.3) (found_above bs (c.at + c.size) end n at b h.3)
  where
    on : (t : Bool) → lies_in at n c ≡ t → cond t (Some c) (find (lies_in at n) bs) ≡ Some b → (find (lies_in at n) bs ≡ Some b → IsSettled n at bs) → (find (lies_in at n) bs ≡ Some b → c.at + c.size ≤ at) → IsSettled n at (c ∷ bs)
    on true e is rest above =
        let within : at + n ≤ c.at + c.size = grind (arith, nat_tests) in
        (inl e, clear_settled bs n at (clear_before bs (c.at + c.size) end n at h.3 within))
    on false e is rest above = (inr (inr (above is)), rest is)

pub length-bytes_of : (n word : ℕ) → length (bytes_of n word) ≡ n
length-bytes_of zero word = refl
length-bytes_of (suc n) word = ap suc (length-bytes_of n (word / 256))

-- a block with other bytes
abbrev with_bytes : Span → List ℕ → Live
with_bytes b bytes = record { at = b.at; kind = b.kind; bytes = bytes }

-- a store writes into the block in which it lies
live-inside : (m : List ℕ) (b : Span) (at n word : ℕ) → region_base ≤ b.at → b.at + b.size ≤ region_base + length m → lies_in at n b ≡ true → live_of (overwritten m (at - region_base) (bytes_of n word)) b ≡ with_word at n word (live_of m b)
live-inside m b at n word begins ends lies =
    let from : b.at ≤ at = grind (arith, nat_tests) in
    let to : at + n ≤ b.at + b.size = grind (arith, nat_tests) in
    let ys = bytes_of n word in
    let size = length-bytes_of n word in
    let place : at - region_base - (b.at - region_base) ≡ at - b.at = omega arith in
    let bytes = part-written m (b.at - region_base) b.size (at - region_base) ys (omega arith) (omega arith) (omega arith) ∙ ap (λ i. overwritten (take b.size (drop (b.at - region_base) m)) i ys) place in
    rw (held_size m b begins ends, lies) (ap (with_bytes b) bytes)

-- and leaves a block that it does not touch
live-outside : (m : List ℕ) (b : Span) (at : ℕ) (ys : List ℕ) → region_base ≤ at → region_base ≤ b.at → b.at + b.size ≤ region_base + length m → at + length ys ≤ region_base + length m → (at + length ys ≤ b.at) ⊎ (b.at + b.size ≤ at) → live_of (overwritten m (at - region_base) ys) b ≡ live_of m b
live-outside m b at ys from begins ends within (inl before) = ap (with_bytes b) (part-behind m (b.at - region_base) b.size (at - region_base) ys (omega arith) (omega arith))
live-outside m b at ys from begins ends within (inr past) = ap (with_bytes b) (part-before m (b.at - region_base) b.size (at - region_base) ys (omega arith) (omega arith))

same-outside : (m : List ℕ) (b : Span) (at n word : ℕ) → 0 < n → region_base ≤ b.at → b.at + b.size ≤ region_base + length m → (at + n ≤ b.at) ⊎ (b.at + b.size ≤ at) → with_word at n word (live_of m b) ≡ live_of m b
same-outside m b at n word some begins ends apart =
    let lies : lies_in at n b ≡ false = elim apart [ inl before ↦ grind (arith, nat_tests) | inr past ↦ grind (arith, nat_tests) ] in
    rw (held_size m b begins ends, lies) refl

-- a store changes the block in which it lies, and no other
pub lives-written : (m : List ℕ) (bs : List Span) (at n word : ℕ) → 0 < n → region_base ≤ at → at + n ≤ region_base + length m → AreHeld m bs → IsSettled n at bs → lives_of (overwritten m (at - region_base) (bytes_of n word)) bs ≡ map (with_word at n word) (lives_of m bs)
lives-written m [] at n word some from within h s = refl
lives-written m (b ∷ bs) at n word some from within h s = ap₂ (λ x xs. x ∷ xs) (on s.0) (lives-written m bs at n word some from within h.2 s.1)
  where
    on : (lies_in at n b ≡ true) ⊎ ((at + n ≤ b.at) ⊎ (b.at + b.size ≤ at)) → live_of (overwritten m (at - region_base) (bytes_of n word)) b ≡ with_word at n word (live_of m b)
    on (inl lies) = live-inside m b at n word h.0 h.1 lies
    on (inr apart) =
        let size = length-bytes_of n word in
        live-outside m b at (bytes_of n word) from h.0 h.1 (omega (arith, size)) (rw size apart) ∙ sym (same-outside m b at n word some h.0 h.1 apart)

pub held-same : (m k : List ℕ) (bs : List Span) → length m ≤ length k → AreHeld m bs → AreHeld k bs
held-same m k [] le h = tt
held-same m k (b ∷ bs) le h = (h.0, omega (arith, h.1), held-same m k bs le h.2)

-- a new block of bytes that were clear leaves the bytes of the others
pub lives-same : (m ys : List ℕ) (bs : List Span) (at : ℕ) → region_base ≤ at → at + length ys ≤ region_base + length m → AreHeld m bs → IsClear (length ys) at bs → lives_of (overwritten m (at - region_base) ys) bs ≡ lives_of m bs
lives-same m ys [] at from within h clear = refl
lives-same m ys (b ∷ bs) at from within h clear = ap₂ (λ x xs. x ∷ xs) (live-outside m b at ys from h.0 h.1 within clear.0) (lives-same m ys bs at from within h.2 clear.1)

pub lives-longer : (m zs : List ℕ) (bs : List Span) → AreHeld m bs → lives_of (m ++ zs) bs ≡ lives_of m bs
lives-longer m zs [] h = refl
lives-longer m zs (b ∷ bs) h = ap₂ (λ x xs. x ∷ xs) (ap (with_bytes b) (part-longer m zs (b.at - region_base) b.size (omega (arith, h.0, h.1)))) (lives-longer m zs bs h.2)

-- a new block stands at the same place in the order
pub lives-with_span : (m : List ℕ) (bs : List Span) (e : Span) → lives_of m (with_span e bs) ≡ with_block (live_of m e) (lives_of m bs)
lives-with_span m [] e = refl
lives-with_span m (b ∷ bs) e = on (ltb e.at b.at) (lives-with_span m bs e)
  where
    on : (t : Bool) → lives_of m (with_span e bs) ≡ with_block (live_of m e) (lives_of m bs) → lives_of m (cond t (e ∷ b ∷ bs) (b ∷ with_span e bs)) ≡ cond t (live_of m e ∷ lives_of m (b ∷ bs)) (live_of m b ∷ with_block (live_of m e) (lives_of m bs))
    on true rest = refl
    on false rest = ap (λ xs. live_of m b ∷ xs) rest

pub held-with_span : (m : List ℕ) (bs : List Span) (e : Span) → region_base ≤ e.at → e.at + e.size ≤ region_base + length m → AreHeld m bs → AreHeld m (with_span e bs)
held-with_span m [] e from to h = (from, to, tt)
held-with_span m (b ∷ bs) e from to h = on (ltb e.at b.at) (held-with_span m bs e from to h.2)
  where
    on : (t : Bool) → AreHeld m (with_span e bs) → AreHeld m (cond t (e ∷ b ∷ bs) (b ∷ with_span e bs))
    on true rest = (from, to, h)
    on false rest = (h.0, h.1, rest)

-- a block that is given back
pub lives-without : (m : List ℕ) (bs : List Span) (at : ℕ) (kind : Block) → lives_of m (filter (λ b. not (begins_at at kind b)) bs) ≡ filter (λ b. not (begins_at at kind (span_of b))) (lives_of m bs)
lives-without m [] at kind = refl
lives-without m (b ∷ bs) at kind = on (begins_at at kind b) (lives-without m bs at kind)
  where
    on : (t : Bool) → lives_of m (filter (λ b. not (begins_at at kind b)) bs) ≡ filter (λ b. not (begins_at at kind (span_of b))) (lives_of m bs) → lives_of m (cond (not t) (b ∷ filter (λ b. not (begins_at at kind b)) bs) (filter (λ b. not (begins_at at kind b)) bs)) ≡ cond (not t) (live_of m b ∷ filter (λ b. not (begins_at at kind (span_of b))) (lives_of m bs)) (filter (λ b. not (begins_at at kind (span_of b))) (lives_of m bs))
    on true rest = rest
    on false rest = ap (λ xs. live_of m b ∷ xs) rest

pub begins-lives : (m : List ℕ) (bs : List Span) (at : ℕ) (kind : Block) → list_any (λ b. begins_at at kind (span_of b)) (lives_of m bs) ≡ list_any (begins_at at kind) bs
begins-lives m [] at kind = refl
begins-lives m (b ∷ bs) at kind = rw (begins-lives m bs at kind) refl

pub held-without : (m : List ℕ) (bs : List Span) (at : ℕ) (kind : Block) → AreHeld m bs → AreHeld m (filter (λ b. not (begins_at at kind b)) bs)
held-without m [] at kind h = tt
held-without m (b ∷ bs) at kind h = on (begins_at at kind b) (held-without m bs at kind h.2)
  where
    on : (t : Bool) → AreHeld m (filter (λ b. not (begins_at at kind b)) bs) → AreHeld m (cond (not t) (b ∷ filter (λ b. not (begins_at at kind b)) bs) (filter (λ b. not (begins_at at kind b)) bs))
    on true rest = rest
    on false rest = (h.0, h.1, rest)
