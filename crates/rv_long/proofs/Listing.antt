-- The lines and the instructions of steps.
use Rattle.std.proofs.Common.{◌≡◌, ℕ, zero, suc, ◌+◌, ◌*◌, Bool, true, List, [], ◌∷◌, ◌++◌, length, map, Option, Some, refl, sym, ap, ◌∙◌, arith, append_assoc, append-nil, add-one, length-append}
use Rattle.std.specs.List.{list_all}
use Rattle.std.proofs.lemmas.Bool.{and_parts}
use Rattle.std.proofs.lemmas.List.{map-append}
use Rattle.rv_isa.specs.declared.instr.Instr.{Instr}
use Rattle.rv_asm.specs.Asm.{instructions_of, instructions_from}
use Rattle.rv_asm.specs.declared.line.AsmLine.{AsmLine}
use Rattle.rv_long.specs.declared.step.Step.{Step}
use Rattle.rv_long.specs.Code.{instr_of, line_of, lines_of, repeated}

pub lines-append : (ss ts : List Step) → lines_of ss ++ lines_of ts ≡ lines_of (ss ++ ts)
lines-append ss ts = sym (map-append line_of ss ts)

pub not_yet : (lines : List AsmLine) (steps : List Step) → lines ≡ lines ++ lines_of (repeated 0 steps)
unfolding repeated
not_yet lines steps = sym (append-nil lines)

pub once_more : (steps : List Step) (n : ℕ) (start lines more : List AsmLine) → lines ≡ start ++ lines_of (repeated n steps)
    → more ≡ lines ++ lines_of steps → more ≡ start ++ lines_of (repeated (n + 1) steps)
unfolding repeated
once_more steps n start lines more e f =
    rw (add-one n) (f ∙ ap (λ (ls : List AsmLine). ls ++ lines_of steps) e ∙ append_assoc start (lines_of (repeated n steps)) (lines_of steps)
    ∙ ap (λ (ls : List AsmLine). start ++ ls) (lines-append (repeated n steps) steps))

instructions_from_steps : (text : List AsmLine) (here : ℕ) (ss : List Step) → instructions_from text here (lines_of ss) ≡ map instr_of ss
instructions_from_steps text here [] = refl
instructions_from_steps text here (s ∷ ss) = ap (λ (is : List Instr). instr_of s ∷ is) (instructions_from_steps text (here + 1) ss)

pub instructions : (ss : List Step) → instructions_of (lines_of ss) ≡ map instr_of ss
instructions ss = instructions_from_steps (lines_of ss) 0 ss

some_of : (ss : List Step) → map (λ (i : Instr). Some i) (map instr_of ss) ≡ map (λ (s : Step). Some (instr_of s)) ss
some_of [] = refl
some_of (s ∷ ss) = ap (λ (is : List (Option Instr)). Some (instr_of s) ∷ is) (some_of ss)

pub some_instructions : (ss : List Step) → map Some (instructions_of (lines_of ss)) ≡ map (λ (s : Step). Some (instr_of s)) ss
some_instructions ss = ap (λ (is : List Instr). map Some is) (instructions ss) ∙ some_of ss

pub length-repeated : (n : ℕ) (steps : List Step) → length (repeated n steps) ≡ n * length steps
unfolding repeated
length-repeated zero steps = omega arith
length-repeated (suc n) steps = omega (arith, length-append (repeated n steps) steps, length-repeated n steps)

pub all-append : (p : Step → Bool) (ss ts : List Step) → list_all p ss ≡ true → list_all p ts ≡ true → list_all p (ss ++ ts) ≡ true
all-append p [] ts a b = b
all-append p (s ∷ ss) ts a b =
    let both = and_parts (p s) (list_all p ss) a in
    rw both.0 (all-append p ss ts both.1 b)

pub all-repeated : (p : Step → Bool) (n : ℕ) (steps : List Step) → list_all p steps ≡ true → list_all p (repeated n steps) ≡ true
unfolding repeated
all-repeated p zero steps e = refl
all-repeated p (suc n) steps e = all-append p (repeated n steps) steps (all-repeated p n steps e) e
