-- What the contract of a routine says, for each operation.
use Rattle.std.proofs.Common.{◌≡◌, ℕ, ◌+◌, ◌*◌, ◌<◌, ◌≤◌, Bool, true, false, ◌&&◌, nat_lt, List, ◌++◌, length, refl, sym, ap, subst, ◌∙◌, arith, ℤ, pos, negsuc, append_assoc, length-append}
use Rattle.std.specs.Prelude.{All}
use Rattle.std.specs.List.{list_all}
use Rattle.std.proofs.lemmas.Bool.{and_parts}
use Rattle.std.proofs.lemmas.Bool.Decides.{nat_tests}
use Rattle.std.proofs.lemmas.Int.{ints}
use Rattle.std.proofs.lemmas.List.{length-map}
use Rattle.std.proofs.lemmas.List.Elements.{All-map}
use Rattle.std.proofs.lemmas.List.Sums.{AllPass-from_list_all}
use Rattle.rv_isa.specs.Table.{InRange, IsSigned}
use Rattle.rv_isa.specs.declared.instr.Instr.{Instr}
use Rattle.rv_asm.specs.Asm.{instructions_of}
use Rattle.rv_asm.specs.declared.line.AsmLine.{AsmLine}
use Rattle.rv_long.specs.declared.step.Step.{Step}
use Rattle.rv_long.specs.declared.step.Step.TheVariants.{Of, By, With}
use Rattle.rv_long.specs.declared.op.LongOp.{LongOp}
use Rattle.rv_long.specs.declared.op.LongOp.TheVariants.{Mul, Div, DivU, Rem, RemU, Sll, Srl, Sra}
use Rattle.rv_long.specs.declared.blocks.TheConstants.{MULTIPLY, POWER, SHIFT_RIGHT, SIGN, COMPLEMENT, ADD_SIGN, SIGN_OF_QUOTIENT, CLEAR, DIVIDE, REMAINDER}
use Rattle.rv_long.specs.Code.{instr_of, line_of, lines_of, repeated, code_of}
use Rattle.rv_long.specs.Long.{Computes, IsArithmetic, may_change}
use Rattle.rv_long.proofs.Listing.{lines-append, instructions, length-repeated, all-append, all-repeated}
use Rattle.rv_long.proofs.Running.{writes_only, target_of}
use Rattle.rv_long.proofs.Wholes.{Does, computes, mul_does, sll_does, srl_does, sra_does}
use Rattle.rv_long.proofs.Quotients.{absolutes, divu_does, remu_does, div_does, rem_does}

-- ---- the steps of an operation

-- steps before and after the bits of a division
abbrev dividing : (before behind : List Step) → List Step
dividing before behind = before ++ repeated 64 DIVIDE ++ behind

abbrev pub steps_of : LongOp → List Step
steps_of Mul = MULTIPLY
steps_of Sll = POWER ++ MULTIPLY
steps_of Srl = SHIFT_RIGHT
steps_of Sra = SIGN ++ COMPLEMENT ++ SHIFT_RIGHT ++ COMPLEMENT
steps_of DivU = CLEAR ++ repeated 64 DIVIDE
steps_of RemU = dividing CLEAR REMAINDER
steps_of Div = dividing (absolutes ++ SIGN_OF_QUOTIENT ++ CLEAR) (COMPLEMENT ++ ADD_SIGN)
steps_of Rem = dividing (absolutes ++ CLEAR) (REMAINDER ++ COMPLEMENT ++ ADD_SIGN)

does : (op : LongOp) → Does op (steps_of op)
does Mul = mul_does
does Sll = sll_does
does Srl = srl_does
does Sra = sra_does
does DivU = divu_does
does RemU = remu_does
does Div = div_does
does Rem = rem_does

-- ---- their lines

both_lines : (before behind : List Step) → lines_of before ++ lines_of (repeated 64 DIVIDE) ++ lines_of behind ≡ lines_of (dividing before behind)
both_lines before behind =
    ap (λ (ls : List AsmLine). ls ++ lines_of behind) (lines-append before (repeated 64 DIVIDE)) ∙ lines-append (before ++ repeated 64 DIVIDE) behind

pub code_is : (op : LongOp) → code_of op ≡ lines_of (steps_of op)
code_is Mul = refl
code_is Sll = refl
code_is Srl = refl
code_is Sra = refl
code_is DivU = lines-append CLEAR (repeated 64 DIVIDE)
code_is RemU = both_lines CLEAR REMAINDER
code_is Div =
    append_assoc (lines_of (absolutes ++ SIGN_OF_QUOTIENT ++ CLEAR) ++ lines_of (repeated 64 DIVIDE)) (lines_of COMPLEMENT) (lines_of ADD_SIGN)
    ∙ both_lines (absolutes ++ SIGN_OF_QUOTIENT ++ CLEAR) (COMPLEMENT ++ ADD_SIGN)
code_is Rem =
    ap (λ (ls : List AsmLine). ls ++ lines_of ADD_SIGN) (append_assoc (lines_of (absolutes ++ CLEAR) ++ lines_of (repeated 64 DIVIDE)) (lines_of REMAINDER) (lines_of COMPLEMENT))
    ∙ append_assoc (lines_of (absolutes ++ CLEAR) ++ lines_of (repeated 64 DIVIDE)) (lines_of (REMAINDER ++ COMPLEMENT)) (lines_of ADD_SIGN)
    ∙ both_lines (absolutes ++ CLEAR) (REMAINDER ++ COMPLEMENT ++ ADD_SIGN)

-- ---- what holds of each step

module _ (p : Step → Bool) (divides : list_all p DIVIDE ≡ true) where
  pub holds_dividing : (before behind : List Step) → list_all p before ≡ true → list_all p behind ≡ true → list_all p (dividing before behind) ≡ true
  holds_dividing before behind a b =
      all-append p (before ++ repeated 64 DIVIDE) behind (all-append p before (repeated 64 DIVIDE) a (all-repeated p 64 DIVIDE divides)) b

only : (op : LongOp) → writes_only may_change (steps_of op) ≡ true
only Mul = refl
only Sll = refl
only Srl = refl
only Sra = refl
only DivU = all-append (λ (s : Step). may_change (target_of s)) CLEAR (repeated 64 DIVIDE) refl (all-repeated (λ (s : Step). may_change (target_of s)) 64 DIVIDE refl)
only RemU = holds_dividing (λ (s : Step). may_change (target_of s)) refl CLEAR REMAINDER refl refl
only Div = holds_dividing (λ (s : Step). may_change (target_of s)) refl (absolutes ++ SIGN_OF_QUOTIENT ++ CLEAR) (COMPLEMENT ++ ADD_SIGN) refl refl
only Rem = holds_dividing (λ (s : Step). may_change (target_of s)) refl (absolutes ++ CLEAR) (REMAINDER ++ COMPLEMENT ++ ADD_SIGN) refl refl

-- its operands fit
abbrev is_small : ℤ → Bool
is_small (pos n) = nat_lt n 2048
is_small (negsuc n) = false

abbrev fits : Step → Bool
fits (Of op rd rs1 rs2) = nat_lt rd 32 && (nat_lt rs1 32 && nat_lt rs2 32)
fits (By op rd rs1 amount) = nat_lt rd 32 && (nat_lt rs1 32 && nat_lt amount 32)
fits (With op rd rs1 imm) = nat_lt rd 32 && (nat_lt rs1 32 && is_small imm)

all_fit : (op : LongOp) → list_all fits (steps_of op) ≡ true
all_fit Mul = refl
all_fit Sll = refl
all_fit Srl = refl
all_fit Sra = refl
all_fit DivU = all-append fits CLEAR (repeated 64 DIVIDE) refl (all-repeated fits 64 DIVIDE refl)
all_fit RemU = holds_dividing fits refl CLEAR REMAINDER refl refl
all_fit Div = holds_dividing fits refl (absolutes ++ SIGN_OF_QUOTIENT ++ CLEAR) (COMPLEMENT ++ ADD_SIGN) refl refl
all_fit Rem = holds_dividing fits refl (absolutes ++ CLEAR) (REMAINDER ++ COMPLEMENT ++ ADD_SIGN) refl refl

below : (n m : ℕ) → nat_lt n m ≡ true → n < m
below n m e = grind (arith, nat_tests, e)

three : (a b c : Bool) → (a && (b && c)) ≡ true → (a ≡ true) × (b ≡ true) × (c ≡ true)
three a b c e =
    let first = and_parts a (b && c) e in
    let rest = and_parts b c first.1 in
    (first.0, rest.0, rest.1)

small_is_signed : (imm : ℤ) → is_small imm ≡ true → IsSigned 12 imm
small_is_signed (pos n) e = let less : n < 2048 = below n 2048 e in (omega (arith, ints), omega (arith, ints))
small_is_signed (negsuc n) e = absurd (cc)

sound : (s : Step) → fits s ≡ true → InRange (instr_of s)
sound (Of op rd rs1 rs2) e = let all = three _ _ _ e in (below rd 32 all.0, below rs1 32 all.1, below rs2 32 all.2)
sound (By op rd rs1 amount) e = let all = three _ _ _ e in (below rd 32 all.0, below rs1 32 all.1, below amount 32 all.2)
sound (With op rd rs1 imm) e = let all = three _ _ _ e in (below rd 32 all.0, below rs1 32 all.1, small_is_signed imm all.2)

arithmetic : (s : Step) → IsArithmetic (line_of s)
arithmetic (Of op rd rs1 rs2) = tt
arithmetic (By op rd rs1 amount) = tt
arithmetic (With op rd rs1 imm) = tt

length_dividing : (before behind : List Step) → length (dividing before behind) ≡ length before + 64 * 26 + length behind
length_dividing before behind =
    omega (arith, length-append (before ++ repeated 64 DIVIDE) behind, length-append before (repeated 64 DIVIDE), length-repeated 64 DIVIDE)

short : (op : LongOp) → length (steps_of op) ≤ 2048
short Mul = omega arith
short Sll = omega arith
short Srl = omega arith
short Sra = omega arith
short DivU = omega (arith, length-append CLEAR (repeated 64 DIVIDE), length-repeated 64 DIVIDE)
short RemU = omega (arith, length_dividing CLEAR REMAINDER)
short Div = omega (arith, length_dividing (absolutes ++ SIGN_OF_QUOTIENT ++ CLEAR) (COMPLEMENT ++ ADD_SIGN))
short Rem = omega (arith, length_dividing (absolutes ++ CLEAR) (REMAINDER ++ COMPLEMENT ++ ADD_SIGN))

-- ---- the clauses

module _ (op : LongOp) (lines : List AsmLine) (are : lines ≡ code_of op) where
  is : lines ≡ lines_of (steps_of op)
  is = are ∙ code_is op

  pub all_computes : Computes op lines
  all_computes = subst (λ (ls : List AsmLine). Computes op ls) (sym is) (computes op (steps_of op) (does op) (only op))

  pub all_straight : All IsArithmetic lines
  all_straight = subst (λ (ls : List AsmLine). All IsArithmetic ls) (sym is) (All-map IsArithmetic line_of (steps_of op) (λ k d less. arithmetic _))

  pub all_in_range : All InRange (instructions_of lines)
  all_in_range =
      subst (λ (is : List Instr). All InRange is) (sym (ap (λ (ls : List AsmLine). instructions_of ls) is ∙ instructions (steps_of op)))
      (All-map InRange instr_of (steps_of op) (λ k d less. sound _ (AllPass-from_list_all fits (steps_of op) (all_fit op) k d less)))

  pub few : length lines ≤ 2048
  few = omega (arith, short op, length-map (steps_of op) line_of, ap (λ (ls : List AsmLine). length ls) is)
