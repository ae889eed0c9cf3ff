-- Numbers that are capped, and layouts that are kept by such numbers.
use Rattle.std.proofs.Common.{◌≡◌, ℕ, ◌+◌, ◌*◌, ◌^◌, ◌≤◌, max, List, [], ◌∷◌, length, length-append, arith, ap, sym, ◌∙◌, inl, inr, subst, zero, suc, mul_comm}
use Rattle.std.proofs.lemmas.Bool.{cases_lt}
use Rattle.std.proofs.lemmas.Grind.{div_ceil_times}
use Rattle.std.proofs.lemmas.List.{length-map}
use Rattle.std.proofs.Math.Nat.{le-mul_of_pos_right}
use Rattle.al_typed.specs.Capped.{capped}
use Rattle.al_typed.specs.declared.layout.Unit.{Unit}
use Rattle.al_typed.specs.declared.layout.Room.{Room}
use Rattle.al_typed.specs.declared.layout.PlacedSoFar.{PlacedSoFar}
use Rattle.al_typed.specs.Layout.{Layout, Run, Measured, RunsTo, rounded, followed, repeated, moved}
use Rattle.std.specs.List.{flat_map, range_with_len}
use Rattle.std.proofs.lemmas.List.FromFn.{length-range_with_len}

pub capped-add : (a b : ℕ) → capped (capped a + capped b) ≡ capped (a + b)
capped-add a b = omega arith

pub capped_same : (a : ℕ) → capped (capped a) ≡ capped a
capped_same a = omega arith

pub rounded_above : (a n : ℕ) → 1 ≤ n → a ≤ rounded a n
unfolding rounded
rounded_above a n h = (div_ceil_times a n (omega arith)).0

pub capped-rounded : (a n : ℕ) → 1 ≤ n → capped (rounded (capped a) n) ≡ capped (rounded a n)
capped-rounded a n h =
    let low = rounded_above (capped a) n h in
    let high = rounded_above a n h in
    elim (cases_lt a (2 ^ 64)) [
      | inl small ↦ ap (λ x. capped (rounded x n)) (omega arith)
      | inr large ↦ omega arith
    ]

pub capped-mul : (n a : ℕ) → capped (n * capped a) ≡ capped (n * a)
capped-mul zero a = omega arith
capped-mul (suc n) a =
    let low = le-mul_of_pos_right {m = suc n} (capped a) (omega arith) in
    let high = le-mul_of_pos_right {m = suc n} a (omega arith) in
    let low1 : capped a ≤ suc n * capped a = subst (λ x. capped a ≤ x) (mul_comm (capped a) (suc n)) low in
    let high1 : a ≤ suc n * a = subst (λ x. a ≤ x) (mul_comm a (suc n)) high in
    elim (cases_lt a (2 ^ 64)) [
      | inl small ↦ ap (λ x. capped (suc n * x)) (omega arith)
      | inr large ↦ omega arith
    ]

pub length-moved : (by : ℕ) (units : List Unit) → length (moved by units) ≡ length units
length-moved by units = simp length-map

pub followed_kept :
    (code new : PlacedSoFar) (run : Run) (room : Room) (l : Layout)
    → RunsTo code run → Measured room l → 1 ≤ room.align
    → new.at ≡ capped (capped (rounded code.at room.align) + room.size) → new.align ≡ max code.align room.align → new.units ≡ capped (code.units + room.units)
    → RunsTo new (followed run l)
unfolding followed
followed_kept code new run room l k m pos at align units = record {
  at =
      at
      ∙ ap (λ x. capped (capped (rounded x room.align) + room.size)) k.at
      ∙ ap (λ x. capped (x + room.size)) (capped-rounded run.at room.align pos)
      ∙ ap (λ x. capped (capped (rounded run.at room.align) + x)) m.size
      ∙ capped-add (rounded run.at room.align) l.size
      ∙ ap (λ x. capped (rounded run.at x + l.size)) m.align;
  align = align ∙ ap (λ x. max x room.align) k.align ∙ ap (λ x. max run.align x) m.align;
  units =
      units
      ∙ ap (λ x. capped (x + room.units)) k.units
      ∙ ap (λ x. capped (capped (length run.units) + x)) m.units
      ∙ capped-add (length run.units) (length l.units)
      ∙ ap (λ x. capped (length run.units + x)) (sym (length-moved (rounded run.at l.align) l.units))
      ∙ ap capped (sym (length-append run.units (moved (rounded run.at l.align) l.units)));
}

length-many : (n : ℕ) (f : ℕ → List Unit) (xs : List ℕ) → ((i : ℕ) → length (f i) ≡ n) → length (flat_map f xs) ≡ length xs * n
length-many n f [] h = omega arith
length-many n f (x ∷ xs) h =
    length-append (f x) (flat_map f xs) ∙ ap (λ k. k + length (flat_map f xs)) (h x) ∙ ap (λ k. n + k) (length-many n f xs h) ∙ sym (add_mul n (length xs))
  where
    add_mul : (n k : ℕ) → suc k * n ≡ n + k * n
    add_mul n k = grind arith

pub units-repeated : (count : ℕ) (l : Layout) → length (repeated count l).units ≡ count * length l.units
unfolding repeated
units-repeated count l =
    length-many (length l.units) (λ i. moved (i * l.size) l.units) (range_with_len 0 count) (λ i. length-moved (i * l.size) l.units)
    ∙ ap (λ x. x * length l.units) (length-range_with_len 0 count)

pub repeated_kept :
    (count : ℕ) (room new : Room) (l : Layout) → Measured room l
    → new.size ≡ capped (count * room.size) → new.align ≡ room.align → new.units ≡ capped (count * room.units)
    → Measured new (repeated count l)
unfolding repeated
repeated_kept count room new l m size align units = record {
  size = size ∙ ap (λ x. capped (count * x)) m.size ∙ capped-mul count l.size;
  align = align ∙ m.align;
  units =
      units ∙ ap (λ x. capped (count * x)) m.units ∙ capped-mul count (length l.units)
      ∙ ap capped (sym (units-repeated count l));
}
