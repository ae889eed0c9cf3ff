-- Words come to records in the frame, one behind the other.
use Rattle.std.proofs.Common.{◌≡◌, ◌≢◌, ℕ, ◌+◌, ◌*◌, ◌^◌, ◌<◌, ◌≤◌, List, [], ◌∷◌, ◌++◌, length, refl, sym, ap, ◌∙◌, arith, subst, length-append, ◌⊎◌, inl, inr}
use Rattle.rv_isa.specs.declared.addresses.TheConstants.{STACK_START}
use Rattle.rv_isa.specs.declared.image.Contents.{Contents}
use Rattle.rv_isa.specs.declared.instr.Instr.{Instr}
use Rattle.rv_exec.specs.Hart.{Hart, put}
use Rattle.rv_exec.specs.Calls.{Privates}
use Rattle.rv_code.specs.declared.home.Home.{Home}
use Rattle.rv_code.specs.Homes.{value_at, IsHome, frame_store, get_code, get_register}
use Rattle.rv_code.specs.Jumps.{place}
use Rattle.rv_code.specs.Pieces.{number_code}
use Rattle.rv_code.specs.Runs.{Stands, Fine, Leads}
use Rattle.rv_code.proofs.Leading.{stands_front, stands_back, stays, then_leads}
use Rattle.rv_code.proofs.Numbers.{numbers}
use Rattle.rv_code.proofs.Operands.{IsOperand, operand_some, got_at, gets}
use Rattle.rv_code.proofs.Slots.{put_same, put_other, Got, frame_stores}
use Rattle.rv_form.specs.Acts.{store_number, store_address}
use Rattle.rv_form.specs.Flow.{pass_word}
use Rattle.rv_form.specs.Units.{frame_address}
use Rattle.rv_units.proofs.Addresses.{addresses}

-- ---- words of the stack

abbrev pub with_words : (ℕ → ℕ) → (first : ℕ) → List ℕ → (ℕ → ℕ)
with_words stack first [] = stack
with_words stack first (w ∷ ws) = with_words (put stack first w) (first + 1) ws

-- these words stand there
abbrev pub AreAt : (ℕ → ℕ) → (first : ℕ) → List ℕ → Type 0
AreAt stack first [] = Unit {0}
AreAt stack first (w ∷ ws) = (stack first ≡ w) × AreAt stack (first + 1) ws

pub with_outside : (ws : List ℕ) (stack : ℕ → ℕ) (first j : ℕ) → (j < first) ⊎ (first + length ws ≤ j) → with_words stack first ws j ≡ stack j
with_outside [] stack first j out = refl
with_outside (w ∷ ws) stack first j out = with_outside ws (put stack first w) (first + 1) j (further out) ∙ put_other stack first w j (other out) where
  further : (j < first) ⊎ (first + length (w ∷ ws) ≤ j) → (j < first + 1) ⊎ (first + 1 + length ws ≤ j)
  further (inl a) = inl (omega (arith, a))
  further (inr a) = inr (omega (arith, a))

  other : (j < first) ⊎ (first + length (w ∷ ws) ≤ j) → j ≢ first
  other (inl a) e = absurd (omega (arith, a, e))
  other (inr a) e = absurd (omega (arith, a, e))

pub with_inside : (ws : List ℕ) (stack : ℕ → ℕ) (first : ℕ) → AreAt (with_words stack first ws) first ws
with_inside [] stack first = tt
with_inside (w ∷ ws) stack first = (with_outside ws (put stack first w) (first + 1) first (inl (omega arith)) ∙ put_same stack first w, with_inside ws (put stack first w) (first + 1))

pub with_append : (a b : List ℕ) (stack : ℕ → ℕ) (first : ℕ) → with_words stack first (a ++ b) ≡ with_words (with_words stack first a) (first + length a) b
with_append [] b stack first = let e : first ≡ first + 0 = omega arith in ap (λ n. with_words stack n b) e
with_append (w ∷ a) b stack first =
    let e : first + 1 + length a ≡ first + length (w ∷ a) = omega arith in
    with_append a b (put stack first w) (first + 1) ∙ ap (λ n. with_words (with_words (put stack first w) (first + 1) a) n b) e

-- ---- instructions that put them there

module _ (image : Contents) (small : length image.code ≤ 2 ^ 23) where
  -- at word number `end`, with this stack; only registers 8 and 10 have changed
  pub record Stored (h : Hart) (p : Privates) (end : ℕ) (stack1 : ℕ → ℕ) : Type 0 where
    pub pc : ℕ
    pub registers : ℕ → ℕ
    pub work : ℕ
    pub leads : Leads image h p (record h { pc = pc; registers = registers; stack = stack1; work = work }) p
    pub there : pc ≡ place end
    pub kept : (n : ℕ) → n ≢ 8 → n ≢ 10 → registers n ≡ h.registers n

  pub none_stored : (h : Hart) (p : Privates) (at : ℕ) → h.pc ≡ place at → Stored h p (at + 0) h.stack
  none_stored h p at here = record { pc = h.pc; registers = h.registers; work = h.work; leads = stays image; there = here ∙ ap place (omega arith); kept = λ n a b. refl }

  abbrev pub behind_it : (h : Hart) (p : Privates) (end : ℕ) (stack1 : ℕ → ℕ) → Stored h p end stack1 → Hart
  behind_it h p end stack1 s = record h { pc = s.pc; registers = s.registers; stack = stack1; work = s.work }

  pub then_stored : (h : Hart) (p : Privates) (e1 e2 : ℕ) (s1 s2 : ℕ → ℕ) (a : Stored h p e1 s1) → Stored (behind_it h p e1 s1 a) p e2 s2 → Stored h p e2 s2
  then_stored h p e1 e2 s1 s2 a b = record {
    pc = b.pc;
    registers = b.registers;
    work = b.work;
    leads = then_leads image {i = behind_it h p e1 s1 a} {j = record h { pc = b.pc; registers = b.registers; stack = s2; work = b.work }} a.leads b.leads;
    there = b.there;
    kept = λ n x y. b.kept n x y ∙ a.kept n x y;
  }

  pub stored_at : (h : Hart) (p : Privates) (e1 e2 : ℕ) (s1 s2 : ℕ → ℕ) → e1 ≡ e2 → s1 ≡ s2 → Stored h p e1 s1 → Stored h p e2 s2
  stored_at h p e1 e2 s1 s2 e f a = subst (λ n. Stored h p n s2) e (subst (λ (s : ℕ → ℕ). Stored h p e1 s) f a)

  -- a word that came into a register goes to a word of the frame
  puts_it : (h : Hart) (p : Privates) (at sp k cell rs value : ℕ) (code : List Instr) → Fine h p → h.registers 2 ≡ STACK_START + 4 * sp → sp + k < 2 ^ 20 → cell ≡ sp + k → rs ≢ 0 → rs ≢ 8 → (g : Got image small h p (at + length code) rs value 10)
      → Stands image.code at (code ++ frame_store rs k) → Stored h p (at + length (code ++ frame_store rs k)) (put h.stack cell value)
  puts_it h p at sp k cell rs value code fine pointer inside is some other g has =
      let h1 : Hart = record h { pc = g.pc; registers = g.registers; work = g.work } in
      let s = frame_stores image small h1 p (g.leads.fine fine) (at + length code) sp k g.there (record { pointer = g.kept 2 (omega arith) (omega arith) ∙ pointer; inside = inside }) rs some other (stands_back image.code at code (frame_store rs k) has) in
      record {
        pc = s.pc;
        registers = s.registers;
        work = s.work;
        leads = subst (λ (n : ℕ). Leads image h p (record h { pc = s.pc; registers = s.registers; stack = put h.stack n value; work = s.work }) p) (sym is)
            (subst (λ (v : ℕ). Leads image h p (record h { pc = s.pc; registers = s.registers; stack = put h.stack (sp + k) v; work = s.work }) p) g.holds
            (then_leads image {i = h1} {j = record h { pc = s.pc; registers = s.registers; stack = put h.stack (sp + k) (g.registers rs); work = s.work }} g.leads s.leads));
        there = s.there ∙ ap place (omega (arith, length-append code (frame_store rs k)));
        kept = λ n a b. s.kept n a ∙ g.kept n b a;
      }

  module _ (h : Hart) (p : Privates) (fine : Fine h p) (at sp k cell : ℕ) (here : h.pc ≡ place at) (pointer : h.registers 2 ≡ STACK_START + 4 * sp) (inside : sp + k < 2 ^ 20) (is : cell ≡ sp + k) where
    pub stores_number : (n : ℕ) → n < 2 ^ 32 → Stands image.code at (store_number n k) → Stored h p (at + length (store_number n k)) (put h.stack cell n)
    stores_number n few has =
        puts_it h p at sp k cell 10 n (number_code 10 n) fine pointer inside is (omega arith) (omega arith)
        (numbers image small h p at 10 n here (omega arith) few (stands_front image.code at (number_code 10 n) (frame_store 10 k) has)) has

    pub stores_address : (t : ℕ) → sp + t ≤ 2 ^ 21 → Stands image.code at (store_address t k) → Stored h p (at + length (store_address t k)) (put h.stack cell (STACK_START + 4 * (sp + t)))
    stores_address t room has =
        puts_it h p at sp k cell 10 (STACK_START + 4 * (sp + t)) (frame_address 10 t) fine pointer inside is (omega arith) (omega arith)
        (addresses image small h p at sp t 10 here pointer room (omega arith) (omega arith) (stands_front image.code at (frame_address 10 t) (frame_store 10 k) has)) has

    pub stores_slot : (home : Home) → IsHome sp home → Stands image.code at (pass_word home k) → Stored h p (at + length (pass_word home k)) (put h.stack cell (value_at home sp h.registers h.stack))
    stores_slot home is_home has =
        let good = got_at sp home 10 is_home in
        puts_it h p at sp k cell (get_register home 10) (value_at home sp h.registers h.stack) (get_code home 10) fine pointer inside is (operand_some 10 (get_register home 10) (omega arith) good) (not_eight (get_register home 10) good)
        (gets image small h p at sp home 10 fine here pointer is_home (stands_front image.code at (get_code home 10) (frame_store (get_register home 10) k) has)) has where
          not_eight : (r : ℕ) → IsOperand 10 r → r ≢ 8
          not_eight r (inl q) e = absurd (omega (arith, q, e))
          not_eight r (inr q) e = absurd (omega (arith, q.0, e))
