-- Harts follow the test of a pair of words.
use Rattle.std.proofs.Common.{◌≡◌, ◌≢◌, ℕ, ◌+◌, ◌*◌, ◌^◌, ◌<◌, ◌≤◌, ◌==◌, true, false, nat_lt, List, [], ◌∷◌, length, sym, ap, ap₂, ◌∙◌, arith, ◌⊎◌, inl, inr}
use Rattle.std.specs.Prelude.{bit_or}
use Rattle.std.proofs.lemmas.Nat.{le_or_l, le_or_r}
use Rattle.std.proofs.lemmas.Bool.{cases_eq}
use Rattle.std.proofs.lemmas.Bool.Decides.{nat_tests}
use Rattle.rv_isa.specs.declared.image.Contents.{Contents}
use Rattle.rv_isa.specs.declared.instr.Instr.TheVariants.{Register}
use Rattle.rv_isa.specs.declared.instr.RegisterOp.TheVariants.{Or, Sltu}
use Rattle.rv_exec.specs.Hart.{Hart, put}
use Rattle.rv_exec.specs.Words.{flag}
use Rattle.rv_exec.specs.Calls.{Privates}
use Rattle.al_ir.specs.declared.ir.Ir.{Ir}
use Rattle.al_ir.specs.Control.{Slots, Frame as IrFrame, Control}
use Rattle.al_ir.specs.Step.{step_op, pair, zero_if}
use Rattle.al_ir.specs.declared.op.Op.TheVariants as op
use Rattle.rv_code.specs.declared.home.Home.{Home}
use Rattle.rv_code.specs.Homes.{value_at}
use Rattle.rv_code.specs.Runs.{Stands, Fine}
use Rattle.rv_code.proofs.Operands.{not_kept}
use Rattle.rv_code.proofs.Slots.{put_same}
use Rattle.rv_form.specs.Longs.{is_long_set_code}
use Rattle.rv_match.specs.Match.{Private, InFrame}
use Rattle.rv_match.specs.Places.{Places, Homes, Writes, under}
use Rattle.rv_match.proofs.Keeping.{at_home}
use Rattle.rv_match.proofs.Steps.{Does, here, slot_does, sets_does, held}
use Rattle.rv_words.proofs.Computing.{ComputesTwo, computes_two}
use Rattle.rv_words.proofs.Straight.{reg}

-- a bit is set in one of two words
pub sets_bits : ComputesTwo (λ x y. flag (nat_lt 0 (bit_or x y))) (λ d a b. Register Or 10 a b ∷ Register Sltu d 0 10 ∷ [])
sets_bits = record {
  straight = λ d a b. (tt, (tt, tt));
  gives = λ d a b r id ia ib sa sb. put_same (put r 10 (bit_or (reg r a) (reg r b))) d _;
  spares = λ d a b n other k. (not_kept 10 n (omega arith, omega arith) k, (other, tt));
}

-- a pair is 0 where both words are
pub pair_is_set : (x y : ℕ) → flag (nat_lt 0 (bit_or x y)) ≡ zero_if (pair x y == 0)
pair_is_set x y = on (cases_eq (bit_or x y) 0) where
  off : (n : ℕ) → n ≢ 0 → (n == 0) ≡ false
  off n other = grind (arith, nat_tests, other)

  above : (n : ℕ) → n ≢ 0 → nat_lt 0 n ≡ true
  above n other = grind (arith, nat_tests, other)

  parts : (x + 2 ^ 32 * y ≡ 0) → bit_or x y ≡ 0
  parts e =
      let none_x : x ≡ 0 = omega (arith, e) in
      let none_y : y ≡ 0 = omega (arith, e) in
      ap₂ bit_or none_x none_y

  on : (bit_or x y ≡ 0) ⊎ (bit_or x y ≢ 0) → flag (nat_lt 0 (bit_or x y)) ≡ zero_if (x + 2 ^ 32 * y == 0)
  on (inl e) =
      let none : x + 2 ^ 32 * y ≡ 0 = omega (arith, e, le_or_l x y, le_or_r x y) in
      ap (λ n. flag (nat_lt 0 n)) e ∙ sym (ap (λ n. zero_if (n == 0)) none)
  on (inr other) = ap flag (above (bit_or x y) other) ∙ sym (ap zero_if (off (x + 2 ^ 32 * y) (λ e. other (parts e))))

module _ (ir : Ir) (image : Contents) (l : Places) (live : (f pc unit t : ℕ) → Type 0) (Midway : (f pc unit : ℕ) → Slots → (sp : ℕ) → Hart → Type 0)
    (left : ℕ) (fr : IrFrame) (below : List IrFrame) (c : Control) (line : ℕ) (u : List ℕ) (h : Hart) (p : Privates)
    (homes : Homes l) (small : length image.code ≤ 2 ^ 23) (m : InFrame ir image l live Midway left fr below 0 c.text c.last h) (same : Private ir u p) (fine : Fine h p)
    (to a : ℕ) (la : live fr.function fr.pc 0 a) (lb : live fr.function fr.pc 0 (a + 1)) (lt : to < l.slots fr.function) (apart : Writes l live fr.function fr.pc to) where
  abbrev at0 : ℕ
  at0 = l.at fr.function fr.pc

  abbrev home : ℕ → Home
  home t = l.home fr.function t

  pub is_long_set_does : Stands image.code at0 (is_long_set_code (home to) (home a) (home (a + 1))) → at0 + length (is_long_set_code (home to) (home a) (home (a + 1))) ≡ l.at fr.function (fr.pc + 1)
      → Does ir image l live Midway left h p (step_op (op.IsLongSet to a) (here ir image l live Midway left fr below c line u h p))
  is_long_set_does has next =
      slot_does ir image l live Midway left fr below c line u h p a _ (λ x ex.
      slot_does ir image l live Midway left fr below c line u h p (a + 1) _ (λ y ey.
      let px = held ir image l live Midway left fr below c line u h p homes small m same fine a x la ex in
      let py = held ir image l live Midway left fr below c line u h p homes small m same fine (a + 1) y lb ey in
      sets_does ir image l live Midway left fr below c line u h p homes small m same fine to (zero_if (pair x y == 0))
      (flag (nat_lt 0 (bit_or (value_at (home a) (under l below) h.registers h.stack) (value_at (home (a + 1)) (under l below) h.registers h.stack))))
      (at0 + length (is_long_set_code (home to) (home a) (home (a + 1)))) lt
      (ap₂ (λ (i j : ℕ). flag (nat_lt 0 (bit_or i j))) px.stands py.stands ∙ pair_is_set x y) next apart
      (computes_two image small h p fine at0 (under l below) m.here m.pointer sets_bits (home to) (home a) (home (a + 1))
      (at_home ir image l live Midway m homes to lt) (at_home ir image l live Midway m homes a px.is_slot) (at_home ir image l live Midway m homes (a + 1) py.is_slot) has)))
