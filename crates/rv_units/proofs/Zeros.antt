-- Harts follow operations that zero slots.
use Rattle.std.proofs.Common.{◌≡◌, ◌≢◌, ℕ, zero, suc, ◌+◌, ◌/◌, ◌^◌, ◌<◌, ◌≤◌, Bool, true, false, nat_le, if◌then◌else◌, List, length, Some, refl, ap, ◌∙◌, arith, subst, ◌⊎◌, inl, inr, ⊎_elim}
use Rattle.std.specs.Prelude.{replicate}
use Rattle.std.proofs.lemmas.Bool.{cases_lt}
use Rattle.std.proofs.lemmas.Bool.Decides.{nat_tests}
use Rattle.rv_isa.specs.declared.image.Contents.{Contents}
use Rattle.rv_exec.specs.Hart.{Hart}
use Rattle.rv_exec.specs.Calls.{Privates}
use Rattle.al_ir.specs.Bounds.{most_jumps}
use Rattle.al_ir.specs.declared.ir.Ir.{Ir}
use Rattle.al_ir.specs.declared.op.Op.TheVariants as op
use Rattle.al_ir.specs.Control.{Slots, put as put_slot, put_all, Frame as IrFrame, Control}
use Rattle.al_ir.specs.Step.{step_op}
use Rattle.rv_code.specs.declared.home.Home.{Home}
use Rattle.rv_code.specs.declared.home.Home.TheVariants.{Frame}
use Rattle.rv_code.specs.Homes.{value_at}
use Rattle.rv_code.specs.Jumps.{place}
use Rattle.rv_code.specs.Runs.{Stands, Fine}
use Rattle.rv_form.specs.Units.{zero_each, zero_loop, zero_code}
use Rattle.rv_match.specs.Match.{Private, InFrame}
use Rattle.rv_match.specs.Places.{Places, Homes, under, jumps_before}
use Rattle.rv_match.proofs.Keeping.{slot_cases, not_slot, at_home}
use Rattle.rv_match.proofs.Steps.{Does, here}
use Rattle.rv_pairs.specs.Several.{WritesEach}
use Rattle.rv_pairs.proofs.Settling.{Settled, settled_does}
use Rattle.rv_units.proofs.Zeroing.{Cleared, clears_each, clears_loop}

-- a slot behind it is 0, or is none of those
zero_cases : (n to : ℕ) (slots : Slots) (t w : ℕ) → put_all to (replicate n 0) slots t ≡ Some w
    → ((i : ℕ) × (i < n) × (t ≡ to + i) × (0 ≡ w)) ⊎ (((t < to) ⊎ (to + n ≤ t)) × (slots t ≡ Some w))
zero_cases zero to slots t w e = inr (⊎_elim (λ less. inl less) (λ more. inr (omega (arith, more))) (cases_lt t to), e)
zero_cases (suc n) to slots t w e =
    ⊎_elim
    (λ now. inl (now.0 + 1, omega (arith, now.1), omega (arith, now.2), now.3))
    (λ older. ⊎_elim
    (λ first. inl (0, omega arith, omega (arith, first.0), first.1))
    (λ other. inr (outside other.0 older.0, other.1))
    (slot_cases slots to 0 t w older.1))
    (zero_cases n (to + 1) (put_slot to 0 slots) t w e) where
      outside : t ≢ to → (t < to + 1) ⊎ (to + 1 + n ≤ t) → (t < to) ⊎ (to + suc n ≤ t)
      outside other (inl less) = inl (omega (arith, other, less))
      outside other (inr more) = inr (omega (arith, more))

module _ (ir : Ir) (image : Contents) (l : Places) (live : (f pc unit t : ℕ) → Type 0) (Midway : (f pc unit : ℕ) → Slots → (sp : ℕ) → Hart → Type 0)
    (left : ℕ) (fr : IrFrame) (below : List IrFrame) (c : Control) (line : ℕ) (u : List ℕ) (h : Hart) (p : Privates)
    (homes : Homes l) (small : length image.code ≤ 2 ^ 23) (m : InFrame ir image l live Midway left fr below 0 c.text c.last h) (same : Private ir u p) (fine : Fine h p)
    (to count : ℕ) (lt : to + count ≤ l.slots fr.function) (writes : WritesEach l live fr.function fr.pc to count) where
  abbrev at0 : ℕ
  at0 = l.at fr.function fr.pc

  abbrev home : ℕ → Home
  home t = l.home fr.function t

  settles : (end made : ℕ) → end ≡ l.at fr.function (fr.pc + 1) → jumps_before ir fr.function fr.pc + made ≤ jumps_before ir fr.function (fr.pc + 1)
      → Cleared image small h p (under l below) end home to count made
      → Settled ir image l live Midway left fr below c line u h p homes small m same fine to (replicate count 0)
  settles end made next room k = record {
    pc = k.pc;
    registers = k.registers;
    stack = k.stack;
    jumps = k.jumps;
    work = k.work;
    leads = k.leads;
    there = k.there ∙ ap place next;
    fixed = λ n f. k.low n (omega (arith, f.1)) (λ e. absurd (omega (arith, f.1, e))) (λ e. absurd (omega (arith, f.1, e)));
    below_it = k.below;
    beyond = λ n more inside. k.others (Frame n) inside (λ i less. not_slot l homes fr.function (to + i) n (omega (arith, less, lt)) more);
    holds = λ t w a q. ⊎_elim
        (λ now. (
          omega (arith, now.1, now.2, lt),
          ap (λ n. value_at (home n) (under l below) k.registers k.stack) now.2
              ∙ k.holds now.0 now.1 (λ j less other. writes.apart j (to + now.0) less (subst (λ n. live fr.function (fr.pc + 1) 0 n) now.2 a) (λ e. other (omega (arith, e))))
              ∙ now.3,
        ))
        (λ older. let was = m.holds t w (writes.lives t a older.0) older.1 in (
          was.0,
          k.others (home t) (at_home ir image l live Midway m homes t was.0) (λ i less. writes.apart i t less a (apart_from t i less older.0)) ∙ was.1,
        ))
        (zero_cases count to fr.slots t w q);
    counted = omega (arith, k.counted, room);
  } where
    apart_from : (t i : ℕ) → i < count → (t < to) ⊎ (to + count ≤ t) → t ≢ to + i
    apart_from t i less (inl q) e = absurd (omega (arith, q, e))
    apart_from t i less (inr q) e = absurd (omega (arith, q, less, e))

  -- more than eight slots live in the frame
  pub zero_does : Stands image.code at0 (zero_code home to count) → at0 + length (zero_code home to count) ≡ l.at fr.function (fr.pc + 1) → l.at fr.function (fr.pc + 1) < 2 ^ 23
      → ((i : ℕ) → 8 < count → i < count → home (to + i) ≡ Frame (to + i))
      → jumps_before ir fr.function fr.pc + count / 8 ≤ jumps_before ir fr.function (fr.pc + 1) → jumps_before ir fr.function (fr.pc + 1) ≤ most_jumps
      → Does ir image l live Midway left h p (step_op (op.Zero to count) (here ir image l live Midway left fr below c line u h p))
  zero_does has next low in_frame room few =
      settled_does ir image l live Midway left fr below c line u h p homes small m same fine to (replicate count 0) (on (nat_le count 8) refl has next) where
        on : (b : Bool) → nat_le count 8 ≡ b → Stands image.code at0 (if b then zero_each home to count else zero_loop to count) → at0 + length (if b then zero_each home to count else zero_loop to count) ≡ l.at fr.function (fr.pc + 1)
            → Settled ir image l live Midway left fr below c line u h p homes small m same fine to (replicate count 0)
        on true e code behind =
            settles (at0 + length (zero_each home to count)) 0 behind (omega (arith, room))
            (clears_each image small home (under l below) count to at0 h p m.here m.pointer (λ i less. at_home ir image l live Midway m homes (to + i) (omega (arith, less, lt))) code)
        on false e code behind =
            let many : 8 < count = grind (arith, nat_tests, e) in
            settles (at0 + length (zero_loop to count)) (count / 8) behind room
            (clears_loop image small home (under l below) to count at0 many (λ i less. in_frame i many less) (omega (arith, lt, m.room, m.inside)) (omega (arith, behind, low)) h p m.here m.pointer
            (omega (arith, m.counted, m.some, room, few)) code)
