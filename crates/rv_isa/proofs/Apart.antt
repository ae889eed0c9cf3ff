-- No word is in two rows of the table.
use Rattle.std.proofs.Common.{◌≡◌, ℕ, ◌+◌, ◌/◌, ◌%◌, ◌-◌, ◌^◌, ◌≤◌, ◌==◌, nat_le, Bool, true, false, not, ◌&&◌, ◌||◌, List, [], ◌∷◌, refl, sym, ◌∙◌, ap, arith, count_by, cond}
use Rattle.std.specs.List.{list_all, list_any}
use Rattle.std.proofs.lemmas.Bool.{eqb-true, and_parts}
use Rattle.std.proofs.lemmas.Bool.Decides.{nat_tests}
use Rattle.std.proofs.lemmas.List.Sums.{sum_by-cons}
use Rattle.std.proofs.lemmas.Nat.{shr-shr, field_of, mod-pow-add, mod_low, mod_below, pow_pos}
use Rattle.rv_isa.specs.Fields.{bits}
use Rattle.rv_isa.specs.Table.{Row, Fixed, has, table, HasOneRowAtMost}

mod_mod : (n j k : ℕ) → n % 2 ^ (j + k) % 2 ^ k ≡ n % 2 ^ k
mod_mod n j k = rw (mod-pow-add n j k) (mod_low (n / 2 ^ k % 2 ^ j) k (n % 2 ^ k) (mod_below n (2 ^ k) (pow_pos k)))

-- the bits of a field are bits of the word
pub bits-bits : (word high low upper lower : ℕ) → upper ≤ high → low ≤ lower → lower ≤ upper
    → bits (upper - low) (lower - low) (bits high low word) ≡ bits upper lower word
bits-bits word high low upper lower a b c =
    let k = lower - low in
    let m = upper + 1 - lower in
    let j = high - upper in
    let all : high + 1 - low ≡ (j + m) + k = omega arith in
    let within : upper - low + 1 - k ≡ m = omega arith in
    let from : low + k ≡ lower = omega arith in
    let field : word / 2 ^ low % 2 ^ ((j + m) + k) / 2 ^ k % 2 ^ m ≡ word / 2 ^ lower % 2 ^ m =
    ap (λ x. x % 2 ^ m) (field_of (word / 2 ^ low) (j + m) k)
    ∙ mod_mod (word / 2 ^ low / 2 ^ k) j m
    ∙ ap (λ x. x % 2 ^ m) (shr-shr word low k)
    ∙ ap (λ x. word / 2 ^ x % 2 ^ m) from in
    ap (λ x. word / 2 ^ low % 2 ^ x / 2 ^ k % 2 ^ (upper - low + 1 - k)) all
    ∙ ap (λ x. word / 2 ^ low % 2 ^ ((j + m) + k) / 2 ^ k % 2 ^ x) within
    ∙ field

-- f fixes bits of g's to another value
abbrev conflict : Fixed → Fixed → Bool
conflict f g =
    (nat_le g.high f.high && (nat_le f.low g.low && nat_le g.low g.high))
    && not (bits (g.high - f.low) (g.low - f.low) f.value == g.value)

abbrev holds : ℕ → Fixed → Bool
holds word f = bits f.high f.low word == f.value

false_not : (b : Bool) → not b ≡ true → b ≡ false
false_not true h = absurd (cc)
false_not false h = refl

conflict_false : (word : ℕ) (f g : Fixed) → conflict f g ≡ true → holds word f ≡ true → holds word g ≡ false
conflict_false word f g h held =
    let parts = and_parts (nat_le g.high f.high && (nat_le f.low g.low && nat_le g.low g.high)) (not (bits (g.high - f.low) (g.low - f.low) f.value == g.value)) h in
    let high = and_parts (nat_le g.high f.high) (nat_le f.low g.low && nat_le g.low g.high) parts.0 in
    let low = and_parts (nat_le f.low g.low) (nat_le g.low g.high) high.1 in
    let a : g.high ≤ f.high = grind (arith, nat_tests, high.0) in
    let b : f.low ≤ g.low = grind (arith, nat_tests, low.0) in
    let c : g.low ≤ g.high = grind (arith, nat_tests, low.1) in
    let value : bits f.high f.low word ≡ f.value = eqb-true _ _ held in
    let same : bits (g.high - f.low) (g.low - f.low) f.value ≡ bits g.high g.low word =
    ap (bits (g.high - f.low) (g.low - f.low)) (sym value) ∙ bits-bits word f.high f.low g.high g.low a b c in
    ap (λ x. x == g.value) (sym same) ∙ false_not _ parts.1

abbrev either : Fixed → Fixed → Bool
either f g = conflict f g || conflict g f

-- g does not hold where f does
either_false : (word : ℕ) (f g : Fixed) → either f g ≡ true → holds word f ≡ true → holds word g ≡ false
either_false word f g h held = on (conflict f g) refl h (holds word g) refl where
  on : (b : Bool) → conflict f g ≡ b → (b || conflict g f) ≡ true → (v : Bool) → holds word g ≡ v → holds word g ≡ false
  on true e h v w = conflict_false word f g e held
  on false e h true w = absurd (let other = conflict_false word g f h w in cc)
  on false e h false w = w

and_false : (b c : Bool) → c ≡ false → (b && c) ≡ false
and_false true c h = h
and_false false c h = refl

abbrev against : Fixed → List Fixed → Bool
against f gs = list_any (either f) gs

against_false : (word : ℕ) (f : Fixed) (gs : List Fixed) → against f gs ≡ true → holds word f ≡ true → list_all (holds word) gs ≡ false
against_false word f [] h held = absurd (cc)
against_false word f (g ∷ gs) h held = on (either f g) refl h (against_false word f gs) where
  on : (b : Bool) → either f g ≡ b → (b || against f gs) ≡ true
      → (against f gs ≡ true → holds word f ≡ true → list_all (holds word) gs ≡ false) → list_all (holds word) (g ∷ gs) ≡ false
  on true e h rest = rw (either_false word f g e held) refl
  on false e h rest = and_false (holds word g) (list_all (holds word) gs) (rest h held)

abbrev apart : List Fixed → List Fixed → Bool
apart fs gs = list_any (λ f. against f gs) fs

apart_false : (word : ℕ) (fs gs : List Fixed) → apart fs gs ≡ true → list_all (holds word) fs ≡ true → list_all (holds word) gs ≡ false
apart_false word [] gs h held = absurd (cc)
apart_false word (f ∷ fs) gs h held = on (against f gs) refl h (apart_false word fs gs) where
  both : (holds word f ≡ true) × (list_all (holds word) fs ≡ true)
  both = and_parts (holds word f) (list_all (holds word) fs) held

  on : (b : Bool) → against f gs ≡ b → (b || apart fs gs) ≡ true
      → (apart fs gs ≡ true → list_all (holds word) fs ≡ true → list_all (holds word) gs ≡ false) → list_all (holds word) gs ≡ false
  on true e h rest = against_false word f gs e both.0
  on false e h rest = rest h both.1

abbrev all_apart : List Row → Bool
all_apart [] = true
all_apart (row ∷ rows) = list_all (λ (other : Row). apart row.fixed other.fixed) rows && all_apart rows

abbrev rows_with : ℕ → List Row → ℕ
rows_with word rows = count_by (λ (row : Row). has row word) rows

none_else : (word : ℕ) (row : Row) (rows : List Row) → list_all (λ (other : Row). apart row.fixed other.fixed) rows ≡ true
    → has row word ≡ true → rows_with word rows ≡ 0
none_else word row [] h held = refl
none_else word row (other ∷ rows) h held =
    let both = and_parts (apart row.fixed other.fixed) (list_all (λ (o : Row). apart row.fixed o.fixed) rows) h in
    let not_here : has other word ≡ false = apart_false word row.fixed other.fixed both.0 held in
    rw not_here (omega (arith, none_else word row rows both.1 held))

one_at_most : (word : ℕ) (rows : List Row) → all_apart rows ≡ true → rows_with word rows ≤ 1
one_at_most word [] h = omega arith
one_at_most word (row ∷ rows) h = on (has row word) refl (one_at_most word rows) where
  both : (list_all (λ (other : Row). apart row.fixed other.fixed) rows ≡ true) × (all_apart rows ≡ true)
  both = and_parts (list_all (λ (other : Row). apart row.fixed other.fixed) rows) (all_apart rows) h

  on : (b : Bool) → has row word ≡ b → (all_apart rows ≡ true → rows_with word rows ≤ 1) → rows_with word (row ∷ rows) ≤ 1
  on true e rest = rw (sum_by-cons (λ (x : Row). cond (has x word) 1 0) row rows, e, none_else word row rows both.0 e) (omega arith)
  on false e rest = rw e (omega (arith, rest both.1))

pub one_row : HasOneRowAtMost
one_row word = one_at_most word table refl
