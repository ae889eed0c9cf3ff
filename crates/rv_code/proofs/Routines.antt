-- A routine of 64 bits that stands in the code is run, as its contract says.
use Rattle.std.proofs.Common.{◌≡◌, ℕ, zero, suc, ◌+◌, ◌*◌, ◌^◌, ◌≤◌, List, [], ◌∷◌, ◌++◌, length, map, slice_get, Option, Some, refl, ap, ap₂, ◌∙◌, arith, subst}
use Rattle.rv_isa.specs.declared.addresses.TheConstants.{CODE_START}
use Rattle.rv_isa.specs.declared.image.Contents.{Contents}
use Rattle.rv_isa.specs.declared.instr.Instr.{Instr}
use Rattle.rv_isa.specs.Table.{instruction_of}
use Rattle.rv_asm.specs.Asm.{instructions_of}
use Rattle.rv_asm.specs.declared.line.AsmLine.{AsmLine}
use Rattle.rv_exec.specs.Hart.{Hart}
use Rattle.rv_exec.specs.Calls.{Privates, Move, Goes, Asks}
use Rattle.rv_exec.specs.Step.{step}
use Rattle.rv_long.specs.Long.{steps, HasOperands, Ends, Computes, result_of, two_words}
use Rattle.rv_long.specs.declared.op.LongOp.{LongOp}
use Rattle.rv_code.specs.Jumps.{place}
use Rattle.rv_code.specs.Runs.{At, Stands, Leads}
use Rattle.rv_code.proofs.Leading.{stays, then_leads, goes_leads}

-- steps that the contract counts
module _ (image : Contents) (small : length image.code ≤ 2 ^ 23) where
  abbrev LeadsTo : Hart → Privates → Move → Type 0
  LeadsTo h p (Goes i r) = Leads image h p i r
  LeadsTo h p (Asks a w r) = ⊥

  pub steps_lead : (n : ℕ) (h next : Hart) (p q : Privates) → steps image n h p ≡ Goes next q → Leads image h p next q
  steps_lead zero h next p q e = subst (λ (m : Move). LeadsTo h p m) e (stays image {h = h} {p = p})
  steps_lead (suc n) h next p q e = on (λ i r f. steps_lead n i next r q f) (step image h p) refl e where
    on : ((i : Hart) (r : Privates) → steps image n i r ≡ Goes next q → Leads image i r next q)
        → (m : Move) → step image h p ≡ m → (elim m as (λ x. Move) [ Goes i r ↦ steps image n i r | Asks act waiting r ↦ Asks act waiting r ]) ≡ Goes next q → Leads image h p next q
    on again (Goes i r) s f = then_leads image (goes_leads image small s) (again i r f)
    on again (Asks a w r) s f = absurd (cc)

-- ---- the words of code that stands somewhere

stands_behind : (c : ℕ) (code : List ℕ) (at : ℕ) (is : List Instr) → Stands (c ∷ code) (suc at) is → Stands code at is
stands_behind c code at [] h = tt
stands_behind c code at (i ∷ is) h =
    let e : suc at + 1 ≡ suc (at + 1) = omega arith in
    (h.0, stands_behind c code (at + 1) is (subst (λ n. Stands (c ∷ code) n is) e h.1))

pub record Cut (code : List ℕ) (at : ℕ) (is : List Instr) : Type 0 where
  pub before : List ℕ
  pub words : List ℕ
  pub rest : List ℕ
  pub whole : code ≡ before ++ (words ++ rest)
  pub reads : map instruction_of words ≡ map Some is
  pub behind : length before ≡ at
  pub count : length words ≡ length is

cut_front : (code : List ℕ) (is : List Instr) → Stands code 0 is → Cut code 0 is
cut_front code [] h = record { before = []; words = []; rest = code; whole = refl; reads = refl; behind = refl; count = refl }
cut_front [] (i ∷ is) h = absurd (none h.0.1) where
  none : {w : ℕ} → slice_get [] 0 ≡ Some w → ⊥
  none e = absurd (cc)
cut_front (c ∷ code) (i ∷ is) h =
    let e : 0 + 1 ≡ suc 0 = omega arith in
    let more = cut_front code is (stands_behind c code 0 is (subst (λ n. Stands (c ∷ code) n is) e h.1)) in
    let empty : more.before ≡ [] = nothing more.before more.behind in
    record {
      before = [];
      words = c ∷ more.words;
      rest = more.rest;
      whole = ap (λ (cs : List ℕ). c ∷ cs) (more.whole ∙ ap (λ (b : List ℕ). b ++ (more.words ++ more.rest)) empty);
      reads = ap₂ (λ (a : Option Instr) (more : List (Option Instr)). a ∷ more) (first h.0) more.reads;
      behind = refl;
      count = ap suc more.count;
    } where
      nothing : (b : List ℕ) → length b ≡ 0 → b ≡ []
      nothing [] e = refl
      nothing (x ∷ xs) e = absurd (omega (arith, e))

      first : At (c ∷ code) 0 i → instruction_of c ≡ Some i
      first a = ap instruction_of (same a.1) ∙ a.2 where
        same : {w : ℕ} → slice_get (c ∷ code) 0 ≡ Some w → c ≡ w
        same e = cc

pub cut_out : (code : List ℕ) (at : ℕ) (is : List Instr) → at ≤ length code → Stands code at is → Cut code at is
cut_out code zero is less h = cut_front code is h
cut_out [] (suc at) is less h = absurd (omega (arith, less))
cut_out (c ∷ code) (suc at) is less h =
    let more = cut_out code at is (omega (arith, less)) (stands_behind c code at is h) in
    record {
      before = c ∷ more.before;
      words = more.words;
      rest = more.rest;
      whole = ap (λ (cs : List ℕ). c ∷ cs) more.whole;
      reads = more.reads;
      behind = ap suc more.behind;
      count = more.count;
    }

-- the routine of an operation, from its first word to the word behind it
module _ (image : Contents) (small : length image.code ≤ 2 ^ 23) where
  pub routine_runs : (op : LongOp) (lines : List AsmLine) (at : ℕ) (h : Hart) (p : Privates) (value : ℕ) → Computes op lines → Stands image.code at (instructions_of lines)
      → at ≤ length image.code → h.pc ≡ place at → HasOperands h.registers
      → result_of op (two_words (h.registers 10) (h.registers 11)) (two_words (h.registers 12) (h.registers 13)) ≡ Some value
      → (e : Ends image (length (instructions_of lines)) value h p)
      × Leads image h p (record h { pc = h.pc + 4 * length (instructions_of lines); registers = e.registers; work = h.work + length (instructions_of lines) }) p
  routine_runs op lines at h p value computes has less here operands result =
      let c = cut_out image.code at (instructions_of lines) less has in
      let start : h.pc ≡ CODE_START + 4 * length c.before = omega (arith, here, c.behind) in
      let e : Ends image (length (instructions_of lines)) value h p =
      subst (λ n. Ends image n value h p) c.count (computes.runs image c.before c.words c.rest h p value c.whole c.reads start operands result) in
      (e, steps_lead image small (length (instructions_of lines)) h _ p p e.goes)
