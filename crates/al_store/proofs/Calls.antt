-- What each call makes of the blocks with their bytes.
use Rattle.std.proofs.Common.{◌≡◌, ℕ, ◌+◌, ◌-◌, ◌%◌, ◌<◌, ◌≤◌, inl, inr, Bool, true, false, cond, eqb, nat_lt, List, ◌++◌, length, replicate, map, find, Option, Some, None, option_map, Ok, Err, refl, sym, ap, ap₂, ◌∙◌, rules, arith}
use Rattle.std.specs.List.{list_any}
use Rattle.std.proofs.lemmas.List.{places}
use Rattle.std.proofs.lemmas.Bool.Decides.{nat_tests}
use Rattle.al_base.specs.declared.trap.Trap.{Trap}
use Rattle.al_base.specs.declared.trap.Trap.TheVariants.{Fault, Align, Memory, Unalloc}
use Rattle.al_event.specs.declared.act.Block.{Block}
use Rattle.al_event.specs.Store.{Span, Live, region_base, most_blocks, lies_in, hit, bytes_of, overwritten, with_word, store_word, with_block, with_span, alloc_block, new_place, least, begins_at, without_span, is_nil_heap, free_block}
use Rattle.al_event.proofs.Least.{least_is}
use Rattle.al_region.specs.Region.{Area, IsSound}
use Rattle.al_region.proofs.Gaps.{Fits, place_fits}
use Rattle.al_store.specs.Memory.{live_of, lives_of, AreHeld, access, lies_at, cleared, IsWidth}
use Rattle.al_store.proofs.Parts.{part-here, length-overwritten}
use Rattle.al_store.proofs.Lives.{spans_of-lives, any-lives, found_held, has_access, any_found, found_above, settled, length-bytes_of, lives-written, held-same, lives-same, lives-longer, lives-with_span, held-with_span, lives-without, begins-lives}

pub width_some : (n : ℕ) → IsWidth n → 0 < n
width_some n h = elim h [ inl one ↦ omega arith | inr more ↦ elim more [ inl two ↦ omega arith | inr four ↦ omega arith ] ]

-- an access that lies in a block lies in the region
pub hit_above : (r : Area) (at n place : ℕ) → IsSound r → option_map (λ (b : Span). b.at) (hit r.blocks at n) ≡ Some place → region_base ≤ at
hit_above r at n place sound h = on (hit r.blocks at n) refl h
  where
    on : (o : Option Span) → hit r.blocks at n ≡ o → option_map (λ (b : Span). b.at) o ≡ Some place → region_base ≤ at
    on None is h = absurd (cc)
    on (Some b) is h = found_above r.blocks _ _ n at b sound.laid is

module _ (r : Area) (m : List ℕ) (sound : IsSound r) (held : AreHeld m r.blocks) where
  -- an access that has a place lies in the memory
  pub access_within : (at n p : ℕ) → access r.blocks at n ≡ Ok p → (region_base ≤ at) × (p ≡ at - region_base) × (p + n ≤ length m)
  access_within at n p h =
      let a = has_access r.blocks at n p h in
      let f = found_held m r.blocks at n a.block held a.found in
      let from : a.block.at ≤ at = grind (arith, nat_tests, f.lies) in
      let to : at + n ≤ a.block.at + a.block.size = grind (arith, nat_tests, f.lies) in
      (omega (arith, f.begins), sym a.is, omega (arith, f.begins, f.ends, a.is))

  pub store_is : (at n word p : ℕ) → 0 < n → access r.blocks at n ≡ Ok p → store_word (lives_of m r.blocks) at n word ≡ Ok (lives_of (overwritten m p (bytes_of n word)) r.blocks)
  store_is at n word p some h =
      let a = has_access r.blocks at n p h in
      let w = access_within at n p h in
      let any = any-lives m r.blocks at n held ∙ any_found r.blocks at n (Some a.block) a.found in
      let written = lives-written m r.blocks at n word some w.0 (omega (arith, w.1, w.2)) held (settled r.blocks _ _ n at a.block sound.laid a.found) in
      rw (a.aligned, any, w.1) (ap Ok (sym written))

  pub store_size : (at n word p : ℕ) → access r.blocks at n ≡ Ok p → length (overwritten m p (bytes_of n word)) ≡ length m
  store_size at n word p h = let w = access_within at n p h in length-overwritten m (bytes_of n word) p (rw length-bytes_of w.2)

  pub store_held : (at n word p : ℕ) → access r.blocks at n ≡ Ok p → AreHeld (overwritten m p (bytes_of n word)) r.blocks
  store_held at n word p h = held-same m (overwritten m p (bytes_of n word)) r.blocks (omega (arith, store_size at n word p h)) held

  pub store_trap : (at n word : ℕ) (trap : Trap) → access r.blocks at n ≡ Err trap → store_word (lives_of m r.blocks) at n word ≡ Err trap
  store_trap at n word trap h = rw (any-lives m r.blocks at n held) (on (eqb (at % n) 0) (hit r.blocks at n) refl h)
    where
      on : (t : Bool) (o : Option Span) → find (lies_in at n) r.blocks ≡ o → cond t (lies_at at o) (Err Align) ≡ Err trap → cond t (cond (list_any (lies_in at n) r.blocks) (Ok (map (with_word at n word) (lives_of m r.blocks))) (Err Fault)) (Err Align) ≡ Err trap
      on false o is h = cc
      on true None is h = rw (any_found r.blocks at n None is) (cc)
      on true (Some b) is h = absurd (cc)

  pub alloc_none : (n : ℕ) (kind : Block) → new_place r.bytes r.blocks n ≡ None → alloc_block r.bytes (lives_of m r.blocks) n kind ≡ Err Memory
  alloc_none n kind h = rw (spans_of-lives m r.blocks held, h) refl

  pub free_is : (at : ℕ) (kind : Block) → is_nil_heap at kind ≡ false → list_any (begins_at at kind) r.blocks ≡ true → free_block (lives_of m r.blocks) at kind ≡ Ok (lives_of m (without_span at kind r.blocks))
  free_is at kind nil there = rw (nil, begins-lives m r.blocks at kind, there) (ap Ok (sym (lives-without m r.blocks at kind)))

  pub free_trap : (at : ℕ) (kind : Block) → is_nil_heap at kind ≡ false → list_any (begins_at at kind) r.blocks ≡ false → free_block (lives_of m r.blocks) at kind ≡ Err Unalloc
  free_trap at kind nil there = rw (nil, begins-lives m r.blocks at kind, there) refl

module _ (r : Area) (m : List ℕ) (sound : IsSound r) (held : AreHeld m r.blocks) (at n : ℕ) (kind : Block) (place : new_place r.bytes r.blocks n ≡ Some at) where
  new_least : (t : Bool) → cond t (least r.bytes r.blocks n) None ≡ Some at → least r.bytes r.blocks n ≡ Some at
  new_least true h = h
  new_least false h = absurd (cc)

  new_fits : Fits region_base r.blocks (region_base + r.bytes) n at
  new_fits = place_fits r n at ((least_is r.bytes r.blocks n at).0 (new_least (nat_lt (length r.blocks) most_blocks) place)).place

  pub new_within : (region_base ≤ at) × (at + n ≤ region_base + r.bytes)
  new_within = (new_fits.begins, new_fits.ends)

  -- the memory as far as the new block needs it
  abbrev grown : List ℕ
  grown = m ++ replicate (at - region_base + n - length m) 0

  length-grown : length grown ≡ length m + (at - region_base + n - length m)
  length-grown = search (rules, places)

  grown_reaches : at - region_base + n ≤ length grown
  grown_reaches = omega (arith, length-grown)

  held_grown : AreHeld grown r.blocks
  held_grown = held-same m grown r.blocks (omega (arith, length-grown)) held

  -- where so many bytes are put into it
  module _ (bytes : List ℕ) (size : length bytes ≡ n) where
    abbrev put : List ℕ
    put = overwritten grown (at - region_base) bytes

    put_live : live_of put (record { at = at; size = n; kind = kind }) ≡ record { at = at; kind = kind; bytes = bytes }
    put_live = ap (λ found. let b : Live = record { at = at; kind = kind; bytes = found } in b) (part-here grown bytes (at - region_base) n (sym size) grown_reaches)

    put_others : lives_of put r.blocks ≡ lives_of m r.blocks
    put_others =
        lives-same grown bytes r.blocks at new_fits.begins (omega (arith, size, grown_reaches, new_fits.begins)) held_grown (rw size new_fits.clear)
        ∙ lives-longer m _ r.blocks held

    pub put_is : lives_of put (with_span (record { at = at; size = n; kind = kind }) r.blocks) ≡ with_block (record { at = at; kind = kind; bytes = bytes }) (lives_of m r.blocks)
    put_is =
        let e : Span = record { at = at; size = n; kind = kind } in
        lives-with_span put r.blocks e ∙ ap₂ with_block put_live put_others

    pub put_held : AreHeld put (with_span (record { at = at; size = n; kind = kind }) r.blocks)
    put_held =
        let long = length-overwritten grown bytes (at - region_base) (omega (arith, size, grown_reaches)) in
        held-with_span put r.blocks (record { at = at; size = n; kind = kind }) new_fits.begins (omega (arith, long, grown_reaches, new_fits.begins)) (held-same grown put r.blocks (omega (arith, long)) held_grown)

  abbrev blank : List ℕ
  blank = replicate n 0

  zeros_size : length blank ≡ n
  zeros_size = search (rules, places)

  pub alloc_is : alloc_block r.bytes (lives_of m r.blocks) n kind ≡ Ok (at, lives_of (cleared m (at - region_base) n) (with_span (record { at = at; size = n; kind = kind }) r.blocks))
  alloc_is = rw (spans_of-lives m r.blocks held, place, put_is blank zeros_size) refl

  pub alloc_held : AreHeld (cleared m (at - region_base) n) (with_span (record { at = at; size = n; kind = kind }) r.blocks)
  alloc_held = put_held blank zeros_size
