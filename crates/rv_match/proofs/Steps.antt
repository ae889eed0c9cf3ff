-- What the steps of operations have in common: words that slots have, and what is said of a hart that wrote a slot.
use Rattle.std.proofs.Common.{◌≡◌, ℕ, ◌+◌, ◌^◌, ◌<◌, ◌≤◌, List, length, Option, Some, None, refl, arith, subst, inl}
use Rattle.al_base.specs.declared.trap.Trap.{Trap}
use Rattle.al_event.specs.declared.act.Act.TheVariants as act
use Rattle.rv_isa.specs.declared.image.Contents.{Contents}
use Rattle.rv_exec.specs.Hart.{Hart}
use Rattle.rv_exec.specs.Calls.{Privates}
use Rattle.rv_exec.specs.Machine.{asked, line_of}
use Rattle.al_ir.specs.declared.ir.Ir.{Ir}
use Rattle.al_ir.specs.Control.{Slots, Frame as IrFrame, Control, words_at}
use Rattle.al_ir.specs.Meaning.{resume}
use Rattle.al_ir.specs.Step.{Here, Next, here_at, known, with_slot, with_words, sets, traps}
use Rattle.rv_code.specs.declared.home.Home.{Home}
use Rattle.rv_code.specs.declared.home.Home.TheVariants.{Frame, Saved}
use Rattle.rv_code.specs.Homes.{value_at}
use Rattle.rv_code.specs.Runs.{Fine, Comes}
use Rattle.rv_code.proofs.Operands.{Wrote}
use Rattle.rv_match.specs.Following.{Follows}
use Rattle.rv_match.specs.Match.{Private, InFrame, Match}
use Rattle.rv_match.specs.Places.{Places, Homes, Writes, under, full}
use Rattle.rv_match.proofs.Counting.{jumps_grow}
use Rattle.rv_match.proofs.Keeping.{wrote}

-- a word at a home is below 2^32
pub home_below : (home : Home) (sp : ℕ) (h : Hart) (p : Privates) → Fine h p → value_at home sp h.registers h.stack < 2 ^ 32
home_below (Frame k) sp h p fine = fine.hart.stack (sp + k)
home_below (Saved r) sp h p fine = fine.hart.registers r

module _ (ir : Ir) (image : Contents) (l : Places) (live : (f pc unit t : ℕ) → Type 0) (Midway : (f pc unit : ℕ) → Slots → (sp : ℕ) → Hart → Type 0) where
  -- what the hart does where this step is made
  abbrev pub Does : (left : ℕ) → Hart → Privates → Next → Type 0
  Does left h p m = Follows image resume (Private ir) (Match ir image l live Midway) full left h p m

  module _ (left : ℕ) (fr : IrFrame) (below : List IrFrame) (c : Control) (line : ℕ) (u : List ℕ) (h : Hart) (p : Privates) where
    -- the operation at hand
    abbrev pub here : Here
    here = here_at ir c fr below line u

    -- where words are missing, nothing is claimed
    pub known_does : {A : Type 0} (o : Option A) (k : A → Next) → ((a : A) → o ≡ Some a → Does left h p (k a)) → Does left h p (known here o k)
    known_does (Some a) k each = each a refl
    known_does None k each = λ real. absurd (real refl)

    pub slot_does : (t : ℕ) (k : ℕ → Next) → ((w : ℕ) → fr.slots t ≡ Some w → Does left h p (k w)) → Does left h p (with_slot here t k)
    slot_does t k each = known_does (fr.slots t) k each

    pub words_do : (t n : ℕ) (k : List ℕ → Next) → ((ws : List ℕ) → words_at fr.slots t n ≡ Some ws → Does left h p (k ws)) → Does left h p (with_words here t n k)
    words_do t n k each = known_does (words_at fr.slots t n) k each

    -- a trap that an instruction of the operation asks
    pub trap_does : (t : Trap) (waiting : Hart) → Comes image h p (asked image (act.Trap t) waiting p) → line_of image waiting.pc ≡ line → Private ir u p
        → Does left h p (traps t here)
    trap_does t waiting comes line_is same = λ real. record {
      waiting = waiting;
      privates = p;
      comes = comes;
      line_is = line_is;
      waits = λ going words. absurd (cc);
      same = same;
    }

    module _ (homes : Homes l) (small : length image.code ≤ 2 ^ 23) (m : InFrame ir image l live Midway left fr below 0 c.text c.last h) (same : Private ir u p) (fine : Fine h p) where
      -- the word of a slot that is live: it stands at its home
      pub record Held (t w : ℕ) : Type 0 where
        pub is_slot : t < l.slots fr.function
        pub stands : value_at (l.home fr.function t) (under l below) h.registers h.stack ≡ w
        pub word : w < 2 ^ 32

      pub held : (t w : ℕ) → live fr.function fr.pc 0 t → fr.slots t ≡ Some w → Held t w
      held t w a e =
          let q = m.holds t w a e in
          record { is_slot = q.0; stands = q.1; word = subst (λ n. n < 2 ^ 32) q.1 (home_below (l.home fr.function t) (under l below) h p fine) }

      -- the operation's word came to the home of its slot, and the next operation follows
      pub sets_does : (to v value end : ℕ) → to < l.slots fr.function → value ≡ v → end ≡ l.at fr.function (fr.pc + 1) → Writes l live fr.function fr.pc to
          → Wrote image small h p (under l below) end (l.home fr.function to) value → Does left h p (sets to v here)
      sets_does to v value end less e next apart w = record {
        next = record h { pc = w.is.pc; registers = w.is.registers; stack = w.is.stack; work = w.is.work };
        privates = p;
        leads = w.leads;
        match = inl (wrote ir image l live Midway m homes to v value end w.is.work less e next apart (jumps_grow ir fr.function fr.pc (fr.pc + 1) (omega arith)) w.is);
        same = same;
      }
