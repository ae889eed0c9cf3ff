-- Harts follow operations on a word and a constant.
use Rattle.std.proofs.Common.{◌≡◌, ◌≢◌, ℕ, ◌+◌, ◌^◌, ◌<◌, ◌≤◌, Bool, true, List, length, Option, Some, None, refl}
use Rattle.al_base.specs.Arith.{applied, divides}
use Rattle.al_base.specs.declared.arith.Op.{Op as Arith}
use Rattle.rv_isa.specs.declared.image.Contents.{Contents}
use Rattle.rv_exec.specs.Hart.{Hart}
use Rattle.rv_exec.specs.Calls.{Privates}
use Rattle.al_ir.specs.Bounds.{IsShort}
use Rattle.al_ir.specs.declared.ir.Ir.{Ir}
use Rattle.al_ir.specs.Control.{Slots, Frame as IrFrame, Control}
use Rattle.al_ir.specs.Step.{step_op, or_divides, sets, word_kind}
use Rattle.al_ir.specs.declared.op.Op.TheVariants as op
use Rattle.rv_code.specs.Runs.{Stands, Fine}
use Rattle.rv_form.specs.Words.{word_by_code}
use Rattle.rv_match.specs.Match.{Private, InFrame}
use Rattle.rv_match.specs.Places.{Places, Homes, Writes}
use Rattle.rv_match.proofs.Steps.{Does, here, slot_does, held}
use Rattle.rv_words.proofs.Constants.{by_computes, short_is_word}
use Rattle.rv_words.proofs.Singles.{single_does}
use Rattle.rv_words.proofs.Values.{word_is, none_divides}

module _ (ir : Ir) (image : Contents) (l : Places) (live : (f pc unit t : ℕ) → Type 0) (Midway : (f pc unit : ℕ) → Slots → (sp : ℕ) → Hart → Type 0)
    (left : ℕ) (fr : IrFrame) (below : List IrFrame) (c : Control) (line : ℕ) (u : List ℕ) (h : Hart) (p : Privates)
    (homes : Homes l) (small : length image.code ≤ 2 ^ 23) (m : InFrame ir image l live Midway left fr below 0 c.text c.last h) (same : Private ir u p) (fine : Fine h p) where
  -- the constant is not 0 where it divides
  pub word_by_does : (o : Arith) (signed : Bool) (to a n : ℕ) → IsShort n → (divides o ≡ true → n ≢ 0) → live fr.function fr.pc 0 a → to < l.slots fr.function → Writes l live fr.function fr.pc to
      → Stands image.code (l.at fr.function fr.pc) (word_by_code o signed (l.home fr.function to) (l.home fr.function a) n)
      → l.at fr.function fr.pc + length (word_by_code o signed (l.home fr.function to) (l.home fr.function a) n) ≡ l.at fr.function (fr.pc + 1)
      → Does ir image l live Midway left h p (step_op (op.WordBy o signed to a n) (here ir image l live Midway left fr below c line u h p))
  word_by_does o signed to a n short some la lt apart has next =
      slot_does ir image l live Midway left fr below c line u h p a _ (λ x e. on x e (applied o (word_kind signed) x n) refl) where
        on : (x : ℕ) → fr.slots a ≡ Some x → (q : Option ℕ) → applied o (word_kind signed) x n ≡ q
            → Does ir image l live Midway left h p (or_divides (here ir image l live Midway left fr below c line u h p) q (λ z. sets to z (here ir image l live Midway left fr below c line u h p)))
        on x e (Some z) f =
            let px = held ir image l live Midway left fr below c line u h p homes small m same fine a x la e in
            single_does ir image l live Midway left fr below c line u h p homes small m same fine to a la lt apart (by_computes n short o signed) has next x z e
            (word_is o signed x n z px.word (short_is_word n short) f)
        on x e None f = let q = none_divides o signed x n (short_is_word n short) f in absurd (some q.0 q.1)
