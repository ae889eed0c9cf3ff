-- A task begins its function, and asks its end when its frames are gone.
use Rattle.std.proofs.Common.{◌≡◌, ℕ, zero, suc, ◌+◌, ◌-◌, ◌^◌, ◌<◌, ◌≤◌, Bool, true, false, ◌&&◌, nat_le, nat_lt, if◌then◌else◌, pos, List, [], ◌∷◌, length, slice_index, slice_get, Some, None, refl, ap, ◌∙◌, arith, inl}
use Rattle.std.proofs.lemmas.Bool.Decides.{nat_tests}
use Rattle.al_event.specs.declared.act.Start.{Start}
use Rattle.rv_isa.specs.declared.image.Contents.{Contents}
use Rattle.rv_exec.specs.Hart.{Hart, put}
use Rattle.rv_exec.specs.Calls.{Privates}
use Rattle.rv_exec.specs.Machine.{line_of, entry_of, started}
use Rattle.rv_exec.specs.Windows.{put_words}
use Rattle.rv_exec.specs.declared.state.Waits.TheVariants.{Done}
use Rattle.al_ir.specs.declared.ir.Ir.{Ir}
use Rattle.al_ir.specs.Control.{Slots, Control, given, first_slots, function_at, arguments_of}
use Rattle.al_ir.specs.Meaning.{resume, start}
use Rattle.al_ir.specs.Step.{step_frames}
use Rattle.rv_code.specs.Homes.{value_at}
use Rattle.rv_code.specs.Jumps.{place}
use Rattle.rv_code.specs.Pieces.{call_code}
use Rattle.rv_code.specs.Runs.{Stands}
use Rattle.rv_code.proofs.Leading.{then_comes, one, last}
use Rattle.rv_isa.specs.declared.instr.Instr.TheVariants.{Immediate, Ecall}
use Rattle.rv_isa.specs.declared.instr.ImmediateOp.TheVariants.{Addi}
use Rattle.rv_match.specs.Following.{Going, Follows}
use Rattle.rv_match.specs.Match.{Private, Ended, Match}
use Rattle.rv_match.specs.Places.{Places, Homes, full}
use Rattle.rv_flow.specs.Functions.{Begins}
use Rattle.rv_flow.proofs.Entering.{opens}

-- the words of a start, where there are none 0
started_word : (words : List ℕ) (t : ℕ) → put_words (λ n. 0) 0 words (0 + t) ≡ slice_index words t
started_word words t = on (nat_le 0 (0 + t)) (nat_lt (0 + t) (0 + length words)) refl refl where
  past : (ws : List ℕ) (i : ℕ) → length ws ≤ i → 0 ≡ slice_index ws i
  past [] i le = refl
  past (w ∷ ws) zero le = absurd (omega (arith, le))
  past (w ∷ ws) (suc i) le = past ws i (omega (arith, le))

  same : 0 + t - 0 ≡ t
  same = omega arith

  on : (b d : Bool) → nat_le 0 (0 + t) ≡ b → nat_lt (0 + t) (0 + length words) ≡ d → (if b && d then slice_index words (0 + t - 0) else 0) ≡ slice_index words t
  on true true p q = ap (slice_index words) same
  on true false p q = past words t (grind (arith, nat_tests, q))
  on false d p q = absurd (grind (arith, nat_tests, p))

module _ (ir : Ir) (image : Contents) (l : Places) (live : (f pc unit t : ℕ) → Type 0) (Midway : (f pc unit : ℕ) → Slots → (sp : ℕ) → Hart → Type 0)
    (small : length image.code ≤ 2 ^ 23) where
  -- the image has the function's first word in its row
  pub starts_does : (homes : Homes l) (s : Start) (entry : ℕ) → Begins ir image l live s.code entry → entry_of (slice_get image.functions s.code) ≡ entry
      → Going image resume (Private ir) (Match ir image l live Midway) full (start ir s) (started image s.code s.words)
  starts_does homes s entry b row = record {
    near = omega (arith, row, b.low);
    jumps = refl;
    work = refl;
    comes = λ p fine.
        let h : Hart = started image s.code s.words in
        let o = opens ir image l live small homes s.code entry 0 b h p fine (ap place row) refl (omega (arith, b.stack)) in
        record {
          there = record h { pc = o.pc; registers = o.registers; stack = o.stack; work = o.work };
          leads = o.leads;
          match = inl (record {
            here = o.there;
            pointer = o.fixed 2 (omega arith) (omega arith);
            turns = o.fixed 3 (omega arith) (omega arith);
            globals = o.fixed 4 (omega arith) (omega arith);
            inside = omega (arith, b.stack);
            room = b.slots;
            holds = λ t w need e. begun_holds o.registers o.stack (λ i less need1. o.arguments i less need1 ∙ started_word s.words i) t w need e;
            waiting = o.way;
            above = λ t w e. absurd (cc);
            text_is = (refl, omega arith);
            waits = refl;
            counted = omega arith;
            some = omega arith;
            few = omega arith;
          });
        };
  } where
    begun_holds : (rs stack : ℕ → ℕ) → ((t : ℕ) → t < arguments_of (function_at ir s.code) → live s.code 0 0 t → value_at (l.home s.code t) 0 rs stack ≡ slice_index s.words t)
        → (t w : ℕ) → live s.code 0 0 t → first_slots (arguments_of (function_at ir s.code)) (given s.words) t ≡ Some w → (t < l.slots s.code) × (value_at (l.home s.code t) 0 rs stack ≡ w)
    begun_holds rs stack came t w need e = on (nat_lt t (arguments_of (function_at ir s.code))) refl e where
      on : (d : Bool) → nat_lt t (arguments_of (function_at ir s.code)) ≡ d → (if d then Some (slice_index s.words t) else None) ≡ Some w → (t < l.slots s.code) × (value_at (l.home s.code t) 0 rs stack ≡ w)
      on true q f =
          let less : t < arguments_of (function_at ir s.code) = grind (arith, nat_tests, q) in
          let is : slice_index s.words t ≡ w = cc in
          (omega (arith, less, b.arguments), came t less need ∙ is)
      on false q f = absurd (cc)

  -- word 0 of the code asks the end, in no line
  pub end_does : Stands image.code 0 (call_code 1) → line_of image (place 1) ≡ 0 → (left : ℕ) (c : Control) (u : List ℕ) (h : Hart) (p : Privates) → Ended ir image l live Midway left h → Private ir u p
      → Follows image resume (Private ir) (Match ir image l live Midway) full left h p (step_frames ir c [] u)
  end_does has no_line left c u h p m same = λ real.
      let h1 : Hart = record h { pc = h.pc + 4; registers = put h.registers 17 1; work = h.work + 1 } in
      let w : Hart = record h { pc = h.pc + 4; registers = put h.registers 17 1; waits = Done; work = h.work + 1 + 1 } in
      let at_call : h.pc + 4 ≡ place 1 = omega (arith, m.here) in
      record {
        waiting = w;
        privates = p;
        comes = then_comes image {i = h1} (one image {h = h} {next = h1} {p = p} {q = p} small (Immediate Addi 17 0 (pos 1)) 0 has.0 m.here refl)
            (last image {h = h1} {waiting = w} {p = p} {q = p} Ecall 1 has.1.0 at_call refl);
        line_is = ap (line_of image) at_call ∙ no_line;
        waits = λ going words. absurd (cc);
        same = same;
      }
