-- Harts follow operations on words of 64 bits, conversions, and operations that zero slots, in a program whose image is laid out.
use Rattle.std.proofs.Common.{◌≡◌, ℕ, ◌+◌, ◌<◌, Bool, true, nat_lt, if◌then◌else◌, List, [], ◌∷◌, length, Some, refl, sym, arith, subst}
use Rattle.std.proofs.lemmas.Bool.Decides.{nat_tests}
use Rattle.al_base.specs.declared.arith.Op.{Op as Arith}
use Rattle.al_base.specs.declared.arith.Kind.{Kind}
use Rattle.al_base.specs.declared.arith.Kind.TheVariants as kind
use Rattle.rv_regs.specs.Uses.{IsIn}
use Rattle.rv_pairs.proofs.Converting.{narrowing_does}
use Rattle.rv_longs.proofs.Longs.{long_does}
use Rattle.rv_longs.proofs.Conversions.{widening_does}
use Rattle.rv_units.proofs.Zeros.{zero_does}
use Rattle.al_ir.specs.declared.ir.Ir.{Ir}
use Rattle.al_ir.specs.declared.ir.Operation.{Operation}
use Rattle.al_ir.specs.declared.op.Op.{Op}
use Rattle.al_ir.specs.declared.op.Op.TheVariants as op
use Rattle.al_ir.specs.Control.{Frame as IrFrame, Control, operation_at}
use Rattle.al_ir.specs.Step.{step_op, kind_words, long_words}
use Rattle.rv_isa.specs.declared.image.Contents.{Contents}
use Rattle.rv_exec.specs.Hart.{Hart}
use Rattle.rv_exec.specs.Calls.{Privates}
use Rattle.rv_code.specs.Runs.{Fine}
use Rattle.rv_form.specs.Layout.{Layout}
use Rattle.rv_match.specs.Match.{Private, InFrame}
use Rattle.rv_match.proofs.Steps.{Does, here}
use Rattle.rv_alike.specs.Within.{places, live_in, midway_in}
use Rattle.rv_alike.specs.LaidOut.{IsLaidOut}
use Rattle.rv_alike.proofs.Ranges.{only_one, range, in_first, in_rest}
use Rattle.rv_alike.proofs.Facts.{homes_are, slots_are, line_is, code, behind, form_fits, form_jumps, lives, framed, writes_one, writes_each, slot_in}

-- more than eight slots live in the frame
in_many : (to n i : ℕ) → 8 < n → i < n → IsIn (to + i) (if nat_lt 8 n then range to n ∷ [] else [])
in_many to n i many less =
    let e : nat_lt 8 n ≡ true = grind (arith, nat_tests, many) in
    subst (λ (b : Bool). IsIn (to + i) (if b then range to n ∷ [] else [])) (sym e) (in_first (range to n) [] (to + i) (omega arith) (omega (arith, less)))

module _ (ir : Ir) (image : Contents) (l : Layout) (all : IsLaidOut ir image l) (left : ℕ) (fr : IrFrame) (below : List IrFrame) (c : Control) (u : List ℕ) (h : Hart) (p : Privates)
    (o : Operation) (at : operation_at ir fr.function fr.pc ≡ Some o) (m : InFrame ir image (places l) (live_in ir l all.homes) (midway_in ir l) left fr below 0 c.text c.last h) (same : Private ir u p) (fine : Fine h p) where
  abbrev Goes : Op → Type 0
  Goes x = Does ir image (places l) (live_in ir l all.homes) (midway_in ir l) left h p (step_op x (here ir image (places l) (live_in ir l all.homes) (midway_in ir l) left fr below c o.line u h p))

  pub long : (a : Arith) (s : Bool) (to x y : ℕ) → o.op ≡ op.Long a s to x y → Goes (op.Long a s to x y)
  long a s to x y e =
      long_does ir image (places l) (live_in ir l all.homes) (midway_in ir l) left fr below c o.line u h p (homes_are ir image l all) all.small m same fine a s to x y l.routine (code ir image l all fr.function fr.pc o at (op.Long a s to x y) e) (behind ir image l all fr.function fr.pc o at (op.Long a s to x y) e) (all.laid.low fr.function (fr.pc + 1)) (line_is ir image l all fr.function fr.pc o at) (lives ir image l all fr.function fr.pc o at (op.Long a s to x y) e x (in_first (range x 2) (range y 2 ∷ []) x (omega arith) (omega arith))) (lives ir image l all fr.function fr.pc o at (op.Long a s to x y) e (x + 1) (in_first (range x 2) (range y 2 ∷ []) (x + 1) (omega arith) (omega arith))) (lives ir image l all fr.function fr.pc o at (op.Long a s to x y) e y (in_rest (range x 2) (range y 2 ∷ []) y (in_first (range y 2) ([]) y (omega arith) (omega arith)))) (lives ir image l all fr.function fr.pc o at (op.Long a s to x y) e (y + 1) (in_rest (range x 2) (range y 2 ∷ []) (y + 1) (in_first (range y 2) ([]) (y + 1) (omega arith) (omega arith)))) (omega (arith, (form_fits ir image l all fr.function fr.pc o at (op.Long a s to x y) e).0, slots_are ir image l all fr.function fr.pc o at)) (writes_each ir image l all fr.function fr.pc o at (op.Long a s to x y) e to (length (long_words a 0)) refl refl (only_one (fr.pc + 1))) (all.laid.few fr.function fr.pc) (omega (arith, form_jumps ir image l all fr.function fr.pc o at (op.Long a s to x y) e)) (λ q f. all.routines fr.function fr.pc o a s to x y q at e f)

  pub zeroes : (to n : ℕ) → o.op ≡ op.Zero to n → Goes (op.Zero to n)
  zeroes to n e =
      zero_does ir image (places l) (live_in ir l all.homes) (midway_in ir l) left fr below c o.line u h p (homes_are ir image l all) all.small m same fine to n (omega (arith, (form_fits ir image l all fr.function fr.pc o at (op.Zero to n) e), slots_are ir image l all fr.function fr.pc o at)) (writes_each ir image l all fr.function fr.pc o at (op.Zero to n) e to n refl refl (only_one (fr.pc + 1))) (code ir image l all fr.function fr.pc o at (op.Zero to n) e) (behind ir image l all fr.function fr.pc o at (op.Zero to n) e) (all.laid.low fr.function (fr.pc + 1)) (λ i many less. framed ir image l all fr.function fr.pc o at (op.Zero to n) e (to + i) (in_many to n i many less)) (omega (arith, form_jumps ir image l all fr.function fr.pc o at (op.Zero to n) e)) (all.laid.few fr.function (fr.pc + 1))

  convert_byte : (from : Kind) (to a : ℕ) → o.op ≡ op.Convert from kind.Byte to a → Goes (op.Convert from kind.Byte to a)
  convert_byte from to a e =
      narrowing_does ir image (places l) (live_in ir l all.homes) (midway_in ir l) left fr below c o.line u h p (homes_are ir image l all) all.small m same fine from kind.Byte tt to a (λ i less. lives ir image l all fr.function fr.pc o at (op.Convert from kind.Byte to a) e (a + i) (in_first (range a (kind_words from)) [] (a + i) (omega arith) (omega (arith, less)))) (slot_in ir image l all fr.function fr.pc o at _ ((form_fits ir image l all fr.function fr.pc o at (op.Convert from kind.Byte to a) e).0)) (writes_one ir image l all fr.function fr.pc o at (op.Convert from kind.Byte to a) e to refl refl (only_one (fr.pc + 1))) (code ir image l all fr.function fr.pc o at (op.Convert from kind.Byte to a) e) (behind ir image l all fr.function fr.pc o at (op.Convert from kind.Byte to a) e)

  convert_sint : (from : Kind) (to a : ℕ) → o.op ≡ op.Convert from kind.Sint to a → Goes (op.Convert from kind.Sint to a)
  convert_sint from to a e =
      narrowing_does ir image (places l) (live_in ir l all.homes) (midway_in ir l) left fr below c o.line u h p (homes_are ir image l all) all.small m same fine from kind.Sint tt to a (λ i less. lives ir image l all fr.function fr.pc o at (op.Convert from kind.Sint to a) e (a + i) (in_first (range a (kind_words from)) [] (a + i) (omega arith) (omega (arith, less)))) (slot_in ir image l all fr.function fr.pc o at _ ((form_fits ir image l all fr.function fr.pc o at (op.Convert from kind.Sint to a) e).0)) (writes_one ir image l all fr.function fr.pc o at (op.Convert from kind.Sint to a) e to refl refl (only_one (fr.pc + 1))) (code ir image l all fr.function fr.pc o at (op.Convert from kind.Sint to a) e) (behind ir image l all fr.function fr.pc o at (op.Convert from kind.Sint to a) e)

  convert_usint : (from : Kind) (to a : ℕ) → o.op ≡ op.Convert from kind.Usint to a → Goes (op.Convert from kind.Usint to a)
  convert_usint from to a e =
      narrowing_does ir image (places l) (live_in ir l all.homes) (midway_in ir l) left fr below c o.line u h p (homes_are ir image l all) all.small m same fine from kind.Usint tt to a (λ i less. lives ir image l all fr.function fr.pc o at (op.Convert from kind.Usint to a) e (a + i) (in_first (range a (kind_words from)) [] (a + i) (omega arith) (omega (arith, less)))) (slot_in ir image l all fr.function fr.pc o at _ ((form_fits ir image l all fr.function fr.pc o at (op.Convert from kind.Usint to a) e).0)) (writes_one ir image l all fr.function fr.pc o at (op.Convert from kind.Usint to a) e to refl refl (only_one (fr.pc + 1))) (code ir image l all fr.function fr.pc o at (op.Convert from kind.Usint to a) e) (behind ir image l all fr.function fr.pc o at (op.Convert from kind.Usint to a) e)

  convert_int : (from : Kind) (to a : ℕ) → o.op ≡ op.Convert from kind.Int to a → Goes (op.Convert from kind.Int to a)
  convert_int from to a e =
      narrowing_does ir image (places l) (live_in ir l all.homes) (midway_in ir l) left fr below c o.line u h p (homes_are ir image l all) all.small m same fine from kind.Int tt to a (λ i less. lives ir image l all fr.function fr.pc o at (op.Convert from kind.Int to a) e (a + i) (in_first (range a (kind_words from)) [] (a + i) (omega arith) (omega (arith, less)))) (slot_in ir image l all fr.function fr.pc o at _ ((form_fits ir image l all fr.function fr.pc o at (op.Convert from kind.Int to a) e).0)) (writes_one ir image l all fr.function fr.pc o at (op.Convert from kind.Int to a) e to refl refl (only_one (fr.pc + 1))) (code ir image l all fr.function fr.pc o at (op.Convert from kind.Int to a) e) (behind ir image l all fr.function fr.pc o at (op.Convert from kind.Int to a) e)

  convert_uint : (from : Kind) (to a : ℕ) → o.op ≡ op.Convert from kind.Uint to a → Goes (op.Convert from kind.Uint to a)
  convert_uint from to a e =
      narrowing_does ir image (places l) (live_in ir l all.homes) (midway_in ir l) left fr below c o.line u h p (homes_are ir image l all) all.small m same fine from kind.Uint tt to a (λ i less. lives ir image l all fr.function fr.pc o at (op.Convert from kind.Uint to a) e (a + i) (in_first (range a (kind_words from)) [] (a + i) (omega arith) (omega (arith, less)))) (slot_in ir image l all fr.function fr.pc o at _ ((form_fits ir image l all fr.function fr.pc o at (op.Convert from kind.Uint to a) e).0)) (writes_one ir image l all fr.function fr.pc o at (op.Convert from kind.Uint to a) e to refl refl (only_one (fr.pc + 1))) (code ir image l all fr.function fr.pc o at (op.Convert from kind.Uint to a) e) (behind ir image l all fr.function fr.pc o at (op.Convert from kind.Uint to a) e)

  convert_lint : (from : Kind) (to a : ℕ) → o.op ≡ op.Convert from kind.Lint to a → Goes (op.Convert from kind.Lint to a)
  convert_lint from to a e =
      widening_does ir image (places l) (live_in ir l all.homes) (midway_in ir l) left fr below c o.line u h p (homes_are ir image l all) all.small m same fine from kind.Lint tt to a (λ i less. lives ir image l all fr.function fr.pc o at (op.Convert from kind.Lint to a) e (a + i) (in_first (range a (kind_words from)) [] (a + i) (omega arith) (omega (arith, less)))) (omega (arith, (form_fits ir image l all fr.function fr.pc o at (op.Convert from kind.Lint to a) e).0, slots_are ir image l all fr.function fr.pc o at)) (writes_each ir image l all fr.function fr.pc o at (op.Convert from kind.Lint to a) e to 2 refl refl (only_one (fr.pc + 1))) (code ir image l all fr.function fr.pc o at (op.Convert from kind.Lint to a) e) (behind ir image l all fr.function fr.pc o at (op.Convert from kind.Lint to a) e)

  convert_ulint : (from : Kind) (to a : ℕ) → o.op ≡ op.Convert from kind.Ulint to a → Goes (op.Convert from kind.Ulint to a)
  convert_ulint from to a e =
      widening_does ir image (places l) (live_in ir l all.homes) (midway_in ir l) left fr below c o.line u h p (homes_are ir image l all) all.small m same fine from kind.Ulint tt to a (λ i less. lives ir image l all fr.function fr.pc o at (op.Convert from kind.Ulint to a) e (a + i) (in_first (range a (kind_words from)) [] (a + i) (omega arith) (omega (arith, less)))) (omega (arith, (form_fits ir image l all fr.function fr.pc o at (op.Convert from kind.Ulint to a) e).0, slots_are ir image l all fr.function fr.pc o at)) (writes_each ir image l all fr.function fr.pc o at (op.Convert from kind.Ulint to a) e to 2 refl refl (only_one (fr.pc + 1))) (code ir image l all fr.function fr.pc o at (op.Convert from kind.Ulint to a) e) (behind ir image l all fr.function fr.pc o at (op.Convert from kind.Ulint to a) e)

  pub convert : (from into : Kind) (to a : ℕ) → o.op ≡ op.Convert from into to a → Goes (op.Convert from into to a)
  convert from kind.Byte to a e = convert_byte from to a e
  convert from kind.Sint to a e = convert_sint from to a e
  convert from kind.Usint to a e = convert_usint from to a e
  convert from kind.Int to a e = convert_int from to a e
  convert from kind.Uint to a e = convert_uint from to a e
  convert from kind.Lint to a e = convert_lint from to a e
  convert from kind.Ulint to a e = convert_ulint from to a e
