-- Harts follow operations that move words: constants, copies, results, and words of the private globals.
use Rattle.std.proofs.Common.{◌≡◌, ◌≢◌, ℕ, ◌+◌, ◌*◌, ◌^◌, ◌<◌, ◌≤◌, List, ◌++◌, length, slice_index, refl, sym, ap, ◌∙◌, arith, length-append, ◌⊎◌, inl, inr}
use Rattle.std.specs.Prelude.{slice_set}
use Rattle.std.proofs.lemmas.Bool.{cases_eq}
use Rattle.std.proofs.lemmas.List.{get_or-set_same, get_or-set_other, length-set}
use Rattle.rv_isa.specs.declared.addresses.TheConstants.{STACK_START}
use Rattle.rv_isa.specs.declared.image.Contents.{Contents}
use Rattle.rv_isa.specs.declared.instr.Instr.{Instr}
use Rattle.rv_exec.specs.Hart.{Hart, put}
use Rattle.rv_exec.specs.Calls.{Privates}
use Rattle.al_ir.specs.declared.ir.Ir.{Ir}
use Rattle.al_ir.specs.Control.{Slots, Frame as IrFrame, Control}
use Rattle.al_ir.specs.Step.{step_op, sets}
use Rattle.al_ir.specs.declared.op.Op.TheVariants as op
use Rattle.rv_code.specs.declared.home.Home.{Home}
use Rattle.rv_code.specs.declared.home.Home.TheVariants.{Frame, Saved}
use Rattle.rv_code.specs.Homes.{value_at, IsHome, Apart, frame_load, frame_store, get_code, get_register, put_code, put_register}
use Rattle.rv_code.specs.Pieces.{number_code, private_load, private_store}
use Rattle.rv_code.specs.Jumps.{place}
use Rattle.rv_code.specs.Runs.{Stands, Fine}
use Rattle.rv_code.proofs.Leading.{stands_front, stands_back, then_leads}
use Rattle.rv_code.proofs.Slots.{put_same, put_other, Got, frame_loads, frame_stores}
use Rattle.rv_code.proofs.Pairs.{brings}
use Rattle.rv_code.proofs.Operands.{IsKept, IsOperand, not_eight, not_kept, operand_some, got_at, put_at, gets, puts, Wrote}
use Rattle.rv_code.proofs.Numbers.{numbers}
use Rattle.rv_code.proofs.Globals.{private_loads, private_stores}
use Rattle.rv_form.specs.Words.{constant_code, copy_code}
use Rattle.rv_match.specs.Match.{Private, InFrame}
use Rattle.rv_match.specs.Places.{Places, Homes, Writes, Passes, under}
use Rattle.rv_match.proofs.Counting.{jumps_grow}
use Rattle.rv_match.proofs.Keeping.{at_home, goes_to}
use Rattle.rv_match.proofs.Steps.{Does, here, known_does, slot_does, sets_does, held}

module _ (ir : Ir) (image : Contents) (l : Places) (live : (f pc unit t : ℕ) → Type 0) (Midway : (f pc unit : ℕ) → Slots → (sp : ℕ) → Hart → Type 0)
    (left : ℕ) (fr : IrFrame) (below : List IrFrame) (c : Control) (line : ℕ) (u : List ℕ) (h : Hart) (p : Privates)
    (homes : Homes l) (small : length image.code ≤ 2 ^ 23) (m : InFrame ir image l live Midway left fr below 0 c.text c.last h) (same : Private ir u p) (fine : Fine h p)
    (to : ℕ) (lt : to < l.slots fr.function) (apart : Writes l live fr.function fr.pc to) where
  abbrev at0 : ℕ
  at0 = l.at fr.function fr.pc

  abbrev to_home : Home
  to_home = l.home fr.function to

  abbrev rd : ℕ
  rd = put_register to_home 10

  is_home : IsHome (under l below) to_home
  is_home = at_home ir image l live Midway m homes to lt

  rd_is : IsOperand 10 rd
  rd_is = put_at (under l below) to_home 10 is_home

  -- a word that came into the register of the slot is stored
  got_does : (code : List Instr) (value v : ℕ) → Got image small h p (at0 + length code) rd value rd → value ≡ v → Stands image.code at0 (code ++ put_code to_home 10)
      → at0 + length (code ++ put_code to_home 10) ≡ l.at fr.function (fr.pc + 1)
      → Does ir image l live Midway left h p (sets to v (here ir image l live Midway left fr below c line u h p))
  got_does code value v g e has next =
      sets_does ir image l live Midway left fr below c line u h p homes small m same fine to v value (at0 + length code + length (put_code to_home 10)) lt e
      (omega (arith, next, length-append code (put_code to_home 10))) apart
      (puts image small h p (at0 + length code) (under l below) to_home value g.pc g.registers g.work fine g.leads g.there m.pointer is_home g.holds
      (λ n k other. g.kept n other (not_eight n k)) (stands_back image.code at0 code (put_code to_home 10) has))

  pub constant_does : (word : ℕ) → word < 2 ^ 32 → Stands image.code at0 (constant_code to_home word) → at0 + length (constant_code to_home word) ≡ l.at fr.function (fr.pc + 1)
      → Does ir image l live Midway left h p (step_op (op.Constant to word) (here ir image l live Midway left fr below c line u h p))
  constant_does word fits has next =
      got_does (number_code rd word) word word
      (numbers image small h p at0 rd word m.here (operand_some 10 rd (omega arith) rd_is) fits (stands_front image.code at0 (number_code rd word) (put_code to_home 10) has)) refl has next

  pub result_does : (word : ℕ) → Stands image.code at0 (frame_load rd (l.stack fr.function + word) ++ put_code to_home 10)
      → at0 + length (frame_load rd (l.stack fr.function + word) ++ put_code to_home 10) ≡ l.at fr.function (fr.pc + 1)
      → Does ir image l live Midway left h p (step_op (op.Result to word) (here ir image l live Midway left fr below c line u h p))
  result_does word has next =
      known_does ir image l live Midway left fr below c line u h p (c.last word) _ (λ w e.
      let old = m.above word w e in
      got_does (frame_load rd (l.stack fr.function + word)) (h.stack (under l below + (l.stack fr.function + word))) w
      (frame_loads image small h p fine at0 (under l below) (l.stack fr.function + word) m.here (record { pointer = m.pointer; inside = omega (arith, old.0) }) rd
      (stands_front image.code at0 (frame_load rd (l.stack fr.function + word)) (put_code to_home 10) has))
      (ap h.stack (omega arith) ∙ old.1) has next)

  pub get_private_does : (j : ℕ) → j < ir.privates → ir.privates ≤ 16384 → image.privates ≡ 4 * ir.privates
      → Stands image.code at0 (private_load rd j ++ put_code to_home 10) → at0 + length (private_load rd j ++ put_code to_home 10) ≡ l.at fr.function (fr.pc + 1)
      → Does ir image l live Midway left h p (step_op (op.GetPrivate to j) (here ir image l live Midway left fr below c line u h p))
  get_private_does j less few bytes has next =
      got_does (private_load rd j) (p j) (slice_index u j)
      (private_loads image small h p fine at0 j m.here m.globals (omega (arith, bytes, few)) (omega (arith, bytes, less)) rd (not_four rd rd_is)
      (stands_front image.code at0 (private_load rd j) (put_code to_home 10) has))
      (same.1 j less) has next where
        not_four : (n : ℕ) → IsOperand 10 n → n ≢ 4
        not_four n (inl e) f = absurd (omega (arith, e, f))
        not_four n (inr s) f = absurd (omega (arith, s.0, f))

-- ---- copies

module _ (image : Contents) (small : length image.code ≤ 2 ^ 23) (h : Hart) (p : Privates) (fine : Fine h p) (at sp : ℕ) (here : h.pc ≡ place at) (pointer : h.registers 2 ≡ STACK_START + 4 * sp) where
  -- a slot's word comes to the home of another
  pub copies : (to a : Home) → IsHome sp to → IsHome sp a → Stands image.code at (copy_code to a)
      → Wrote image small h p sp (at + length (copy_code to a)) to (value_at a sp h.registers h.stack)
  copies (Saved r) a t l has =
      let g = brings image small h p at sp a r fine here pointer l has in
      record {
        is = record {
          pc = g.pc;
          registers = g.registers;
          stack = h.stack;
          work = g.work;
          there = g.there;
          holds = g.holds;
          fixed = λ n f. g.kept n (λ e. absurd (omega (arith, f.1, t.0, e))) (λ e. absurd (omega (arith, f.1, e)));
          others = other g.registers g.kept;
          below = λ j q. refl;
        };
        leads = g.leads;
      } where
        other : (rs : ℕ → ℕ) → ((n : ℕ) → n ≢ r → n ≢ 8 → rs n ≡ h.registers n) → (home : Home) → IsHome sp home → Apart (Saved r) home
            → value_at home sp rs h.stack ≡ value_at home sp h.registers h.stack
        other rs kept (Frame k) q away = refl
        other rs kept (Saved s) q away = kept s (λ e. away (sym e)) (λ e. absurd (omega (arith, q.0, e)))
  copies (Frame k) a t l has =
      let store = frame_store (get_register a 10) k in
      let g = gets image small h p at sp a 10 fine here pointer l (stands_front image.code at (get_code a 10) store has) in
      let h1 : Hart = record h { pc = g.pc; registers = g.registers; work = g.work } in
      let good = got_at sp a 10 l in
      let s = frame_stores image small h1 p (g.leads.fine fine) (at + length (get_code a 10)) sp k g.there (record { pointer = g.kept 2 (omega arith) (omega arith) ∙ pointer; inside = t })
      (get_register a 10) (operand_some 10 (get_register a 10) (omega arith) good) (not_base (get_register a 10) good) (stands_back image.code at (get_code a 10) store has) in
      let all : (n : ℕ) → IsKept n → s.registers n ≡ h.registers n = λ n q. s.kept n (not_eight n q) ∙ g.kept n (not_kept 10 n (omega arith, omega arith) q) (not_eight n q) in
      record {
        is = record {
          pc = s.pc;
          registers = s.registers;
          stack = put h.stack (sp + k) (g.registers (get_register a 10));
          work = s.work;
          there = s.there ∙ ap place (omega (arith, length-append (get_code a 10) store));
          holds = put_same h.stack (sp + k) (g.registers (get_register a 10)) ∙ g.holds;
          fixed = λ n f. all n (inl f);
          others = other s.registers all (g.registers (get_register a 10));
          below = λ j q. put_other h.stack (sp + k) (g.registers (get_register a 10)) j (λ e. absurd (omega (arith, q, e)));
        };
        leads = then_leads image {i = h1} {j = record h { pc = s.pc; registers = s.registers; stack = put h.stack (sp + k) (g.registers (get_register a 10)); work = s.work }} g.leads s.leads;
      } where
        not_base : (n : ℕ) → IsOperand 10 n → n ≢ 8
        not_base n (inl e) f = absurd (omega (arith, e, f))
        not_base n (inr q) f = absurd (omega (arith, q.0, f))

        other : (rs : ℕ → ℕ) → ((n : ℕ) → IsKept n → rs n ≡ h.registers n) → (v : ℕ) → (home : Home) → IsHome sp home → Apart (Frame k) home
            → value_at home sp rs (put h.stack (sp + k) v) ≡ value_at home sp h.registers h.stack
        other rs same v (Frame j) q away = put_other h.stack (sp + k) v (sp + j) (λ e. away (omega (arith, e)))
        other rs same v (Saved r) q away = same r (inr q)

module _ (ir : Ir) (image : Contents) (l : Places) (live : (f pc unit t : ℕ) → Type 0) (Midway : (f pc unit : ℕ) → Slots → (sp : ℕ) → Hart → Type 0)
    (left : ℕ) (fr : IrFrame) (below : List IrFrame) (c : Control) (line : ℕ) (u : List ℕ) (h : Hart) (p : Privates)
    (homes : Homes l) (small : length image.code ≤ 2 ^ 23) (m : InFrame ir image l live Midway left fr below 0 c.text c.last h) (same : Private ir u p) (fine : Fine h p) where
  pub copy_does : (to a : ℕ) → live fr.function fr.pc 0 a → to < l.slots fr.function → Writes l live fr.function fr.pc to
      → Stands image.code (l.at fr.function fr.pc) (copy_code (l.home fr.function to) (l.home fr.function a))
      → l.at fr.function fr.pc + length (copy_code (l.home fr.function to) (l.home fr.function a)) ≡ l.at fr.function (fr.pc + 1)
      → Does ir image l live Midway left h p (step_op (op.Copy to a) (here ir image l live Midway left fr below c line u h p))
  copy_does to a la lt apart has next =
      slot_does ir image l live Midway left fr below c line u h p a _ (λ w e.
      let px = held ir image l live Midway left fr below c line u h p homes small m same fine a w la e in
      sets_does ir image l live Midway left fr below c line u h p homes small m same fine to w (value_at (l.home fr.function a) (under l below) h.registers h.stack)
      (l.at fr.function fr.pc + length (copy_code (l.home fr.function to) (l.home fr.function a))) lt px.stands next apart
      (copies image small h p fine (l.at fr.function fr.pc) (under l below) m.here m.pointer (l.home fr.function to) (l.home fr.function a)
      (at_home ir image l live Midway m homes to lt) (at_home ir image l live Midway m homes a px.is_slot) has))

  -- a word of the private globals has another value
  private_set : (j w v : ℕ) → j < ir.privates → w ≡ v → Private ir (slice_set u j v) (put p j w)
  private_set j w v less e = (length-set u j v ∙ same.0, λ i in_range. each i in_range (cases_eq i j)) where
    each : (i : ℕ) → i < ir.privates → (i ≡ j) ⊎ (i ≢ j) → put p j w i ≡ slice_index (slice_set u j v) i
    each i in_range (inl f) = ap (put p j w) f ∙ put_same p j w ∙ e ∙ sym (get_or-set_same u j v 0 (omega (arith, less, same.0))) ∙ ap (slice_index (slice_set u j v)) (sym f)
    each i in_range (inr other) = put_other p j w i other ∙ same.1 i in_range ∙ sym (get_or-set_other u j i v 0 other)

  pub put_private_does : (j a : ℕ) → live fr.function fr.pc 0 a → j < ir.privates → ir.privates ≤ 16384 → image.privates ≡ 4 * ir.privates → Passes live fr.function fr.pc (fr.pc + 1)
      → Stands image.code (l.at fr.function fr.pc) (get_code (l.home fr.function a) 10 ++ private_store (get_register (l.home fr.function a) 10) j)
      → l.at fr.function fr.pc + length (get_code (l.home fr.function a) 10 ++ private_store (get_register (l.home fr.function a) 10) j) ≡ l.at fr.function (fr.pc + 1)
      → Does ir image l live Midway left h p (step_op (op.PutPrivate j a) (here ir image l live Midway left fr below c line u h p))
  put_private_does j a la less few bytes passes has next =
      slot_does ir image l live Midway left fr below c line u h p a _ (λ w e.
      let home = l.home fr.function a in
      let at0 = l.at fr.function fr.pc in
      let px = held ir image l live Midway left fr below c line u h p homes small m same fine a w la e in
      let is = at_home ir image l live Midway m homes a px.is_slot in
      let store = private_store (get_register home 10) j in
      let g = gets image small h p at0 (under l below) home 10 fine m.here m.pointer is (stands_front image.code at0 (get_code home 10) store has) in
      let h1 : Hart = record h { pc = g.pc; registers = g.registers; work = g.work } in
      let good = got_at (under l below) home 10 is in
      let s = private_stores image small h1 p (g.leads.fine fine) (at0 + length (get_code home 10)) j g.there (g.kept 4 (omega arith) (omega arith) ∙ m.globals) (omega (arith, bytes, few)) (omega (arith, bytes, less))
      (get_register home 10) (operand_some 10 (get_register home 10) (omega arith) good) (not_four (get_register home 10) good) (stands_back image.code at0 (get_code home 10) store has) in
      let h2 : Hart = record h { pc = s.pc; registers = s.registers; work = s.work } in
      record {
        next = h2;
        privates = put p j (g.registers (get_register home 10));
        leads = then_leads image {i = h1} {j = h2} g.leads s.leads;
        match = inl (goes_to ir image l live Midway m (fr.pc + 1) left c.text h2 (s.there ∙ ap place (omega (arith, next, length-append (get_code home 10) store)))
            (λ n k other. s.kept n ∙ g.kept n (not_kept 10 n (omega arith, omega arith) k) (not_eight n k)) (s.kept 3 ∙ g.kept 3 (omega arith) (omega arith) ∙ m.turns) (λ i. refl) m.text_is m.waits
            (omega (arith, m.counted, jumps_grow ir fr.function fr.pc (fr.pc + 1) (omega arith))) m.some m.few passes homes);
        same = private_set j (g.registers (get_register home 10)) w less (g.holds ∙ px.stands);
      }) where
        not_four : (n : ℕ) → IsOperand 10 n → n ≢ 4
        not_four n (inl e) f = absurd (omega (arith, e, f))
        not_four n (inr q) f = absurd (omega (arith, q.0, f))
