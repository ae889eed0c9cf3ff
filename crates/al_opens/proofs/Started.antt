-- What a global starts with.
use Rattle.std.proofs.Common.{◌≡◌, ℕ, ◌+◌, ◌-◌, ◌≤◌, inl, inr, List, [], ◌∷◌, ◌++◌, length, take, drop, refl, ap, sym, ◌∙◌, subst, rules, arith}
use Rattle.std.specs.Prelude.{fold, replicate}
use Rattle.std.specs.List.{AllByRecursion}
use Rattle.std.proofs.lemmas.List.{drop-replicate, length-replicate, places, same_lists, take-replicate}
use Rattle.std.proofs.lemmas.List.Elements.{All-weaker, recursion_from_All}
use Rattle.std.proofs.lemmas.List.Sums.{fold-append}
use Rattle.al_event.specs.Store.{bytes_of, overwritten}
use Rattle.al_typed.specs.declared.program.Global.{Global}
use Rattle.al_typed.specs.declared.program.StartValue.{StartValue}
use Rattle.al_typed.specs.declared.program.Program.{Program}
use Rattle.al_typed.specs.Layout.{size_of}
use Rattle.al_typed.specs.Sound.{IsSoundGlobal}
use Rattle.al_typed.specs.WellTyped.{Starts}
use Rattle.al_meaning.specs.Places.{start_number, with_start}
use Rattle.al_fits.proofs.Opened.{length-bytes, length-global, length-started, start_within}
use Rattle.al_opens.specs.Standing.{IsElsewhere, IsStarted}

-- ---- what a write leaves of a part

part_before : (m : List ℕ) (j k p : ℕ) (ys : List ℕ) → j + k ≤ p → p + length ys ≤ length m → take k (drop j (overwritten m p ys)) ≡ take k (drop j m)
part_before m j k p ys le within = same_lists _ _ (search (rules, places)) (λ q d h. grind (arith, places))

part_behind : (m : List ℕ) (j k p : ℕ) (ys : List ℕ) → p + length ys ≤ j → j + k ≤ length m → take k (drop j (overwritten m p ys)) ≡ take k (drop j m)
part_behind m j k p ys le within = same_lists _ _ (search (rules, places)) (λ q d h. grind (arith, places))

part_here : (m ys : List ℕ) (p n : ℕ) → n ≡ length ys → p + n ≤ length m → take n (drop p (overwritten m p ys)) ≡ ys
part_here m ys p n is within = same_lists _ _ (search (rules, places)) (λ q d h. grind (arith, places))

-- ---- start values one after the other

module _ (p : Program) (size : ℕ) where
  abbrev Inside : StartValue → Type 0
  Inside v = v.at + v.size ≤ size

  parts_inside : (before after : List StartValue) (v : StartValue) → AllByRecursion Inside (before ++ v ∷ after) → AllByRecursion Inside before × (Inside v × AllByRecursion Inside after)
  parts_inside [] after v h = (tt, h)
  parts_inside (u ∷ before) after v h = let rest = parts_inside before after v h.1 in ((h.0, rest.0), rest.1)

  -- one elsewhere leaves the n bytes from there on
  left_by : (bytes : List ℕ) (v : StartValue) (at n : ℕ) → length bytes ≡ size → Inside v → at + n ≤ size → IsElsewhere at n v → take n (drop at (with_start p bytes v)) ≡ take n (drop at bytes)
  left_by bytes v at n is inside within (inl before) =
      let count = length-bytes v.size (start_number p v.word) in
      part_behind bytes at n v.at (bytes_of v.size (start_number p v.word)) (omega (arith, count, before)) (omega (arith, is, within))
  left_by bytes v at n is inside within (inr behind) =
      let count = length-bytes v.size (start_number p v.word) in
      part_before bytes at n v.at (bytes_of v.size (start_number p v.word)) behind (omega (arith, count, is, inside))

  left : (starts : List StartValue) (bytes : List ℕ) (at n : ℕ) → length bytes ≡ size → AllByRecursion Inside starts → at + n ≤ size → AllByRecursion (IsElsewhere at n) starts
      → take n (drop at (fold (with_start p) bytes starts)) ≡ take n (drop at bytes)
  left [] bytes at n is inside within elsewhere = refl
  left (v ∷ starts) bytes at n is inside within elsewhere =
      left starts (with_start p bytes v) at n (length-started p size (v ∷ []) bytes is (inside.0, tt)) inside.1 within elsewhere.1
      ∙ left_by bytes v at n is inside.0 within elsewhere.0

  written : (before after : List StartValue) (v : StartValue) (bytes : List ℕ) → length bytes ≡ size → AllByRecursion Inside (before ++ v ∷ after) → AllByRecursion (IsElsewhere v.at v.size) after
      → take v.size (drop v.at (fold (with_start p) bytes (before ++ v ∷ after))) ≡ bytes_of v.size (start_number p v.word)
  written before after v bytes is inside elsewhere =
      let parts = parts_inside before after v inside in
      let first = fold (with_start p) bytes before in
      let long : length first ≡ size = length-started p size before bytes is parts.0 in
      ap (λ b. take v.size (drop v.at b)) (fold-append (with_start p) bytes before (v ∷ after))
      ∙ (left after (with_start p first v) v.at v.size (length-started p size (v ∷ []) first long (parts.1.0, tt)) parts.1.1 parts.1.0 elsewhere
      ∙ part_here first (bytes_of v.size (start_number p v.word)) v.at v.size (sym (length-bytes v.size (start_number p v.word))) (omega (arith, long, parts.1.0)))

pub is_started : (p : Program) (g : Global) → IsSoundGlobal p g → IsStarted p g
is_started p g h =
    let size = size_of p.aggregates g.ty in
    let inside : AllByRecursion (Inside p size) g.start =
    recursion_from_All (Inside p size) g.start (All-weaker (Starts p g) (Inside p size) (start_within p g) g.start h.starts) in
    record {
      size = length-global p g h;
      values = λ before after v is elsewhere.
          ap (λ starts. take v.size (drop v.at (fold (with_start p) (replicate size 0) starts))) is
          ∙ written p size before after v (replicate size 0) (length-replicate size 0) (subst (AllByRecursion (Inside p size)) is inside) elsewhere;
      zeros = λ at n within elsewhere.
          left p size g.start (replicate size 0) at n (length-replicate size 0) inside within elsewhere
          ∙ (ap (take n) (drop-replicate at size 0) ∙ take-replicate n (size - at) 0 (omega arith));
    }
