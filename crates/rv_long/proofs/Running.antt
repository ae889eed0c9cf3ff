-- Steps on the machine: what they leave in the registers.
use Rattle.std.proofs.Common.{◌≡◌, ℕ, zero, suc, ◌+◌, ◌-◌, ◌*◌, ◌/◌, ◌%◌, ◌==◌, Bool, true, false, ◌&&◌, nat_le, if◌then◌else◌, List, [], ◌∷◌, ◌++◌, length, map, slice_get, Option, Some, None, refl, sym, ap, ap₂, ◌∙◌, arith, append_assoc, length-append, ◌≢◌}
use Rattle.std.specs.List.{list_all}
use Rattle.std.proofs.lemmas.Bool.{and_parts}
use Rattle.std.proofs.lemmas.Bool.Decides.{nat_tests}
use Rattle.rv_isa.specs.declared.addresses.TheConstants.{CODE_START}
use Rattle.rv_isa.specs.declared.image.Contents.{Contents}
use Rattle.rv_isa.specs.declared.instr.Instr.{Instr}
use Rattle.rv_isa.specs.Table.{instruction_of}
use Rattle.rv_exec.specs.Hart.{Hart, put, register, moved, with_register}
use Rattle.rv_exec.specs.Words.{word, computed, computed_immediate, shifted}
use Rattle.rv_exec.specs.Calls.{Privates, Move, Goes, Asks}
use Rattle.rv_exec.specs.Step.{step, performed, performed_if_any, executed, executed_if_any, word_at}
use Rattle.rv_long.specs.declared.step.Step.{Step}
use Rattle.rv_long.specs.declared.step.Step.TheVariants.{Of, By, With}
use Rattle.rv_long.specs.Code.{instr_of}
use Rattle.rv_long.specs.Long.{steps}

-- ---- on registers alone

abbrev pub read : (ℕ → ℕ) → ℕ → ℕ
read r zero = 0
read r (suc n) = r (suc n)

abbrev pub target_of : Step → ℕ
target_of (Of op rd rs1 rs2) = rd
target_of (By op rd rs1 amount) = rd
target_of (With op rd rs1 imm) = rd

abbrev pub value_of : Step → (ℕ → ℕ) → ℕ
value_of (Of op rd rs1 rs2) r = computed op (read r rs1) (read r rs2)
value_of (By op rd rs1 amount) r = shifted op (read r rs1) amount
value_of (With op rd rs1 imm) r = computed_immediate op (read r rs1) (word imm)

-- the registers after steps
abbrev pub after : List Step → (ℕ → ℕ) → (ℕ → ℕ)
after [] r = r
after (s ∷ ss) r = after ss (put r (target_of s) (value_of s r))

pub after-append : (ss ts : List Step) (r : ℕ → ℕ) → after (ss ++ ts) r ≡ after ts (after ss r)
after-append [] ts r = refl
after-append (s ∷ ss) ts r = after-append ss ts (put r (target_of s) (value_of s r))

-- ---- on the machine

same_read : (h : Hart) (n : ℕ) → register h n ≡ read h.registers n
same_read h zero = refl
same_read h (suc n) = refl

-- a hart after steps
abbrev pub gone : (count : ℕ) (registers : ℕ → ℕ) → Hart → Hart
gone count registers h = record h { pc = h.pc + 4 * count; registers = registers; work = h.work + count }

one : (s : Step) (image : Contents) (h : Hart) (p : Privates)
    → executed (instr_of s) image h p ≡ Goes (moved (with_register (target_of s) (value_of s h.registers) h)) p
one (Of op rd rs1 rs2) image h p = ap₂ (λ (x y : ℕ). Goes (moved (with_register rd (computed op x y) h)) p) (same_read h rs1) (same_read h rs2)
one (By op rd rs1 amount) image h p = ap (λ (x : ℕ). Goes (moved (with_register rd (shifted op x amount) h)) p) (same_read h rs1)
one (With op rd rs1 imm) image h p = ap (λ (x : ℕ). Goes (moved (with_register rd (computed_immediate op x (word imm)) h)) p) (same_read h rs1)

perform_one : (s : Step) (w : ℕ) (image : Contents) (h : Hart) (p : Privates) → instruction_of w ≡ Some (instr_of s)
    → performed w image h p ≡ Goes (gone 1 (put h.registers (target_of s) (value_of s h.registers)) h) p
unfolding performed
perform_one s w image h p is =
    ap (λ (i : Option Instr). executed_if_any i image (record h { work = h.work + 1 }) p) is ∙ one s image (record h { work = h.work + 1 }) p

get_at : (before : List ℕ) (w : ℕ) (rest : List ℕ) → slice_get (before ++ w ∷ rest) (length before) ≡ Some w
get_at [] w rest = refl
get_at (b ∷ before) w rest = get_at before w rest

word_there : (code before : List ℕ) (w : ℕ) (rest : List ℕ) (pc : ℕ) → code ≡ before ++ w ∷ rest → pc ≡ CODE_START + 4 * length before
    → word_at code pc ≡ Some w
word_there code before w rest pc is at =
    let start : nat_le CODE_START pc ≡ true = grind (arith, nat_tests, at) in
    let even : (pc % 4 == 0) ≡ true = grind (arith, nat_tests, at) in
    let number : (pc - CODE_START) / 4 ≡ length before = omega (arith, at) in
    on (nat_le CODE_START pc) (pc % 4 == 0) ((pc - CODE_START) / 4) start even number where
      on : (b c : Bool) (n : ℕ) → b ≡ true → c ≡ true → n ≡ length before → (if b && c then slice_get code n else None) ≡ Some w
      on b c n p q e = rw (p, q, e, is) (get_at before w rest)

step_one : (s : Step) (w : ℕ) (image : Contents) (before rest : List ℕ) (h : Hart) (p : Privates) → image.code ≡ before ++ w ∷ rest
    → h.pc ≡ CODE_START + 4 * length before → instruction_of w ≡ Some (instr_of s)
    → step image h p ≡ Goes (gone 1 (put h.registers (target_of s) (value_of s h.registers)) h) p
step_one s w image before rest h p is at reads =
    ap (λ (o : Option ℕ). performed_if_any o image h p) (word_there image.code before w rest h.pc is at) ∙ perform_one s w image h p reads

-- one step and then others
and_then : (image : Contents) (n : ℕ) (h next : Hart) (p : Privates) (m : Move) → step image h p ≡ Goes next p → steps image n next p ≡ m → steps image (suc n) h p ≡ m
and_then image n h next p m first others =
    ap (λ (x : Move). elim x [ Goes next q ↦ steps image n next q | Asks act waiting q ↦ Asks act waiting q ]) first ∙ others

gone_more : (n : ℕ) (r s : ℕ → ℕ) (h : Hart) → gone n s (gone 1 r h) ≡ gone (suc n) s h
gone_more n r s h =
    let pc : h.pc + 4 * 1 + 4 * n ≡ h.pc + 4 * suc n = omega arith in
    let work : h.work + 1 + n ≡ h.work + suc n = omega arith in
    ap₂ (λ (x y : ℕ). record h { pc = x; registers = s; work = y }) pc work

none_gone : (h : Hart) → h ≡ gone 0 h.registers h
none_gone h =
    let pc : h.pc ≡ h.pc + 4 * 0 = omega arith in
    let work : h.work ≡ h.work + 0 = omega arith in
    ap₂ (λ (x y : ℕ). record h { pc = x; registers = h.registers; work = y }) pc work

-- lists of which each element gives the same
heads : {X : Type 0} (f : ℕ → X) (g : Step → X) (w : ℕ) (words : List ℕ) (s : Step) (ss : List Step) → map f (w ∷ words) ≡ map g (s ∷ ss)
    → (f w ≡ g s) × (map f words ≡ map g ss)
heads f g w words s ss e = (cc, cc)

none_left : {X : Type 0} (f : ℕ → X) (g : Step → X) (w : ℕ) (words : List ℕ) → map f (w ∷ words) ≡ map g [] → ⊥
none_left f g w words e = absurd (cc)

none_read : {X : Type 0} (f : ℕ → X) (g : Step → X) (s : Step) (ss : List Step) → map f [] ≡ map g (s ∷ ss) → ⊥
none_read f g s ss e = absurd (cc)

-- words that are the instructions of steps
pub runs : (ss : List Step) (image : Contents) (before words rest : List ℕ) (h : Hart) (p : Privates)
    → image.code ≡ before ++ (words ++ rest) → map instruction_of words ≡ map (λ s. Some (instr_of s)) ss
    → h.pc ≡ CODE_START + 4 * length before → steps image (length words) h p ≡ Goes (gone (length words) (after ss h.registers) h) p
runs [] image before [] rest h p is reads at = ap (λ (x : Hart). Goes x p) (none_gone h)
runs [] image before (w ∷ words) rest h p is reads at = absurd (none_left instruction_of (λ s. Some (instr_of s)) w words reads)
runs (s ∷ ss) image before [] rest h p is reads at = absurd (none_read instruction_of (λ s. Some (instr_of s)) s ss reads)
runs (s ∷ ss) image before (w ∷ words) rest h p is reads at =
    let both = heads instruction_of (λ s. Some (instr_of s)) w words s ss reads in
    let r : ℕ → ℕ = put h.registers (target_of s) (value_of s h.registers) in
    let near : h.pc + 4 * 1 ≡ CODE_START + 4 * length (before ++ w ∷ []) = omega (arith, at, length-append before (w ∷ [])) in
    and_then image (length words) h (gone 1 r h) p _ (step_one s w image before (words ++ rest) h p is at both.0)
    (runs ss image (before ++ w ∷ []) words rest (gone 1 r h) p (is ∙ sym (append_assoc before (w ∷ []) (words ++ rest))) both.1 near
    ∙ ap (λ (x : Hart). Goes x p) (gone_more (length words) r (after ss r) h))

-- ---- registers that steps leave alone

abbrev pub writes_only : (ℕ → Bool) → List Step → Bool
writes_only may ss = list_all (λ (s : Step). may (target_of s)) ss

put_other : (r : ℕ → ℕ) (t v n : ℕ) → n ≢ t → put r t v n ≡ r n
put_other r t v n other = on (n == t) refl where
  on : (b : Bool) → (n == t) ≡ b → (if b then v else r n) ≡ r n
  on true e = absurd (other (grind (arith, nat_tests, e)))
  on false e = refl

pub after_keeps : (may : ℕ → Bool) (ss : List Step) (r : ℕ → ℕ) (n : ℕ) → writes_only may ss ≡ true → may n ≡ false → after ss r n ≡ r n
after_keeps may [] r n only not = refl
after_keeps may (s ∷ ss) r n only not =
    let both = and_parts (may (target_of s)) (writes_only may ss) only in
    let other : n ≢ target_of s = λ (e : n ≡ target_of s). let same : may n ≡ may (target_of s) = ap may e in absurd (cc) in
    after_keeps may ss (put r (target_of s) (value_of s r)) n both.1 not ∙ put_other r (target_of s) (value_of s r) n other
