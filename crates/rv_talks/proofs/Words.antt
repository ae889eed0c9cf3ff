-- Words of the stack that slots have, as a runtime call reads them.
use Rattle.std.proofs.Common.{◌≡◌, ℕ, zero, suc, ◌+◌, ◌-◌, ◌*◌, ◌/◌, ◌%◌, ◌^◌, ◌<◌, ◌≤◌, ◌==◌, ◌&&◌, Bool, true, false, nat_le, if◌then◌else◌, List, ◌∷◌, Option, Some, None, refl, sym, ap, ap₂, ◌∙◌, arith}
use Rattle.std.specs.Prelude.{option_map, option_and_then}
use Rattle.std.proofs.lemmas.Bool.Decides.{nat_tests}
use Rattle.rv_isa.specs.declared.addresses.TheConstants.{STACK_START, STACK_END}
use Rattle.rv_exec.specs.Hart.{Hart}
use Rattle.rv_exec.specs.Windows.{words_from, stack_place, stack_words}
use Rattle.al_ir.specs.Control.{Slots, words_at}

-- the place of words in the stack, of which there is one at least
pub place_is : (first c : ℕ) → first + suc c ≤ 2 ^ 20 → stack_place (STACK_START + 4 * first) (suc c) ≡ Some first
place_is first c room =
    let a : (suc c == 0) ≡ false = grind (arith, nat_tests) in
    let b : nat_le STACK_START (STACK_START + 4 * first) ≡ true = grind (arith, nat_tests) in
    let d : nat_le (STACK_START + 4 * first + 4 * suc c) STACK_END ≡ true = grind (arith, nat_tests, room) in
    let e : ((STACK_START + 4 * first) % 4 == 0) ≡ true = grind (arith, nat_tests) in
    let f : (STACK_START + 4 * first - STACK_START) / 4 ≡ first = omega arith in
    on _ _ _ _ _ a b d e f where
      on : (a b d e : Bool) (n : ℕ) → a ≡ false → b ≡ true → d ≡ true → e ≡ true → n ≡ first → (if a then Some 0 else (if b && (d && e) then Some n else None)) ≡ Some first
      on a b d e n p q r s t = rw (p, q, r, s, t) refl

-- some place or other
pub some_place : (first count : ℕ) → first + count ≤ 2 ^ 20 → (n : ℕ) × (stack_place (STACK_START + 4 * first) count ≡ Some n)
some_place first zero room = (0, refl)
some_place first (suc c) room = (first, place_is first c room)

pub stack_words_are : (h : Hart) (first count : ℕ) → first + count ≤ 2 ^ 20 → stack_words h (STACK_START + 4 * first) count ≡ Some (words_from h.stack first count)
stack_words_are h first zero room = refl
stack_words_are h first (suc c) room = ap (λ (o : Option ℕ). option_map (λ n. words_from h.stack n (suc c)) o) (place_is first c room)

-- slots whose words stand there
pub words_are : (n : ℕ) (slots : Slots) (t first : ℕ) (stack : ℕ → ℕ) (ws : List ℕ) → words_at slots t n ≡ Some ws → ((i w : ℕ) → i < n → slots (t + i) ≡ Some w → stack (first + i) ≡ w) → words_from stack first n ≡ ws
words_are zero slots t first stack ws e each = cc
words_are (suc n) slots t first stack ws e each =
    on (slots t) refl (words_at slots (t + 1) n) refl e (λ rest f. words_are n slots (t + 1) (first + 1) stack rest f (λ i w less q. ap stack (shift first i) ∙ each (i + 1) w (omega (arith, less)) (ap slots (sym (shift t i)) ∙ q))) where
      shift : (a i : ℕ) → a + 1 + i ≡ a + (i + 1)
      shift a i = omega arith

      on : (o : Option ℕ) → slots t ≡ o → (q : Option (List ℕ)) → words_at slots (t + 1) n ≡ q → option_and_then (λ w. option_map (λ (rest : List ℕ). w ∷ rest) q) o ≡ Some ws
          → ((rest : List ℕ) → words_at slots (t + 1) n ≡ Some rest → words_from stack (first + 1) n ≡ rest) → stack first ∷ words_from stack (first + 1) n ≡ ws
      on (Some w) f (Some rest) g k more =
          let here : stack first ≡ w = (let e0 : first ≡ first + 0 = omega arith in let e1 : t + 0 ≡ t = omega arith in ap stack e0 ∙ each 0 w (omega arith) (ap slots e1 ∙ f)) in
          let all : w ∷ rest ≡ ws = cc in
          ap₂ (λ (a : ℕ) (b : List ℕ). a ∷ b) here (more rest g) ∙ all
      on (Some w) f None g k more = absurd (cc)
      on None f q g k more = absurd (cc)
