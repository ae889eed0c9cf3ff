-- Harts follow operations on words of 32 bits, in a program whose image is laid out.
use Rattle.std.proofs.Common.{◌≡◌, ℕ, ◌+◌, Bool, List, [], ◌∷◌, Some, refl, arith}
use Rattle.al_base.specs.declared.arith.Op.{Op as Arith}
use Rattle.al_ir.specs.declared.ir.Ir.{Ir}
use Rattle.al_ir.specs.declared.ir.Operation.{Operation}
use Rattle.al_ir.specs.declared.op.Op.{Op}
use Rattle.al_ir.specs.declared.op.Op.TheVariants as op
use Rattle.al_ir.specs.Control.{Frame as IrFrame, Control, operation_at}
use Rattle.al_ir.specs.Step.{step_op}
use Rattle.rv_isa.specs.declared.image.Contents.{Contents}
use Rattle.rv_exec.specs.Hart.{Hart}
use Rattle.rv_exec.specs.Calls.{Privates}
use Rattle.rv_code.specs.Runs.{Fine}
use Rattle.rv_form.specs.Layout.{Layout}
use Rattle.rv_match.specs.Match.{Private, InFrame}
use Rattle.rv_match.proofs.Steps.{Does, here}
use Rattle.rv_alike.specs.Within.{places, live_in, midway_in}
use Rattle.rv_alike.specs.LaidOut.{IsLaidOut}
use Rattle.rv_alike.proofs.Ranges.{only_one, range, in_first, in_rest}
use Rattle.rv_alike.proofs.Facts.{homes_are, line_is, code, behind, form_fits, lives, writes_one, passes_to, slot_in, size_is}
use Rattle.rv_words.proofs.Moves.{constant_does, copy_does, result_does, get_private_does, put_private_does}
use Rattle.rv_words.proofs.Words.{word_does}
use Rattle.rv_words.proofs.Bys.{word_by_does}
use Rattle.rv_words.proofs.Singles.{complement_does, is_zero_does}
use Rattle.rv_words.proofs.Doubles.{is_long_set_does}
use Rattle.rv_words.proofs.Parts.{offset_does, extract_does}
use Rattle.rv_words.proofs.Pointers.{advance_does}
use Rattle.rv_words.proofs.Distances.{between_does}

module _ (ir : Ir) (image : Contents) (l : Layout) (all : IsLaidOut ir image l) (left : ℕ) (fr : IrFrame) (below : List IrFrame) (c : Control) (u : List ℕ) (h : Hart) (p : Privates)
    (o : Operation) (at : operation_at ir fr.function fr.pc ≡ Some o) (m : InFrame ir image (places l) (live_in ir l all.homes) (midway_in ir l) left fr below 0 c.text c.last h) (same : Private ir u p) (fine : Fine h p) where
  abbrev Goes : Op → Type 0
  Goes x = Does ir image (places l) (live_in ir l all.homes) (midway_in ir l) left h p (step_op x (here ir image (places l) (live_in ir l all.homes) (midway_in ir l) left fr below c o.line u h p))

  pub constant : (to w : ℕ) → o.op ≡ op.Constant to w → Goes (op.Constant to w)
  constant to w e =
      constant_does ir image (places l) (live_in ir l all.homes) (midway_in ir l) left fr below c o.line u h p (homes_are ir image l all) all.small m same fine to (slot_in ir image l all fr.function fr.pc o at _ ((form_fits ir image l all fr.function fr.pc o at (op.Constant to w) e).0)) (writes_one ir image l all fr.function fr.pc o at (op.Constant to w) e to refl refl (only_one (fr.pc + 1))) w (form_fits ir image l all fr.function fr.pc o at (op.Constant to w) e).1 (code ir image l all fr.function fr.pc o at (op.Constant to w) e) (behind ir image l all fr.function fr.pc o at (op.Constant to w) e)

  pub copy : (to a : ℕ) → o.op ≡ op.Copy to a → Goes (op.Copy to a)
  copy to a e =
      copy_does ir image (places l) (live_in ir l all.homes) (midway_in ir l) left fr below c o.line u h p (homes_are ir image l all) all.small m same fine to a (lives ir image l all fr.function fr.pc o at (op.Copy to a) e a (in_first (range a 1) ([]) a (omega arith) (omega arith))) (slot_in ir image l all fr.function fr.pc o at _ ((form_fits ir image l all fr.function fr.pc o at (op.Copy to a) e).0)) (writes_one ir image l all fr.function fr.pc o at (op.Copy to a) e to refl refl (only_one (fr.pc + 1))) (code ir image l all fr.function fr.pc o at (op.Copy to a) e) (behind ir image l all fr.function fr.pc o at (op.Copy to a) e)

  pub result : (to n : ℕ) → o.op ≡ op.Result to n → Goes (op.Result to n)
  result to n e =
      result_does ir image (places l) (live_in ir l all.homes) (midway_in ir l) left fr below c o.line u h p (homes_are ir image l all) all.small m same fine to (slot_in ir image l all fr.function fr.pc o at _ ((form_fits ir image l all fr.function fr.pc o at (op.Result to n) e).0)) (writes_one ir image l all fr.function fr.pc o at (op.Result to n) e to refl refl (only_one (fr.pc + 1))) n (code ir image l all fr.function fr.pc o at (op.Result to n) e) (behind ir image l all fr.function fr.pc o at (op.Result to n) e)

  pub word : (a : Arith) (s : Bool) (to x y : ℕ) → o.op ≡ op.Word a s to x y → Goes (op.Word a s to x y)
  word a s to x y e =
      word_does ir image (places l) (live_in ir l all.homes) (midway_in ir l) left fr below c o.line u h p (homes_are ir image l all) all.small m same fine a s to x y (code ir image l all fr.function fr.pc o at (op.Word a s to x y) e) (behind ir image l all fr.function fr.pc o at (op.Word a s to x y) e) (all.laid.low fr.function (fr.pc + 1)) (line_is ir image l all fr.function fr.pc o at) (lives ir image l all fr.function fr.pc o at (op.Word a s to x y) e x (in_first (range x 1) (range y 1 ∷ []) x (omega arith) (omega arith))) (lives ir image l all fr.function fr.pc o at (op.Word a s to x y) e y (in_rest (range x 1) (range y 1 ∷ []) y (in_first (range y 1) ([]) y (omega arith) (omega arith)))) (slot_in ir image l all fr.function fr.pc o at _ ((form_fits ir image l all fr.function fr.pc o at (op.Word a s to x y) e).0)) (writes_one ir image l all fr.function fr.pc o at (op.Word a s to x y) e to refl refl (only_one (fr.pc + 1)))

  pub word_by : (a : Arith) (s : Bool) (to x n : ℕ) → o.op ≡ op.WordBy a s to x n → Goes (op.WordBy a s to x n)
  word_by a s to x n e =
      word_by_does ir image (places l) (live_in ir l all.homes) (midway_in ir l) left fr below c o.line u h p (homes_are ir image l all) all.small m same fine a s to x n (form_fits ir image l all fr.function fr.pc o at (op.WordBy a s to x n) e).1.1.0 (form_fits ir image l all fr.function fr.pc o at (op.WordBy a s to x n) e).1.1.1 (lives ir image l all fr.function fr.pc o at (op.WordBy a s to x n) e x (in_first (range x 1) ([]) x (omega arith) (omega arith))) (slot_in ir image l all fr.function fr.pc o at _ ((form_fits ir image l all fr.function fr.pc o at (op.WordBy a s to x n) e).0)) (writes_one ir image l all fr.function fr.pc o at (op.WordBy a s to x n) e to refl refl (only_one (fr.pc + 1))) (code ir image l all fr.function fr.pc o at (op.WordBy a s to x n) e) (behind ir image l all fr.function fr.pc o at (op.WordBy a s to x n) e)

  pub complement : (to a : ℕ) → o.op ≡ op.Complement to a → Goes (op.Complement to a)
  complement to a e =
      complement_does ir image (places l) (live_in ir l all.homes) (midway_in ir l) left fr below c o.line u h p (homes_are ir image l all) all.small m same fine to a (lives ir image l all fr.function fr.pc o at (op.Complement to a) e a (in_first (range a 1) ([]) a (omega arith) (omega arith))) (slot_in ir image l all fr.function fr.pc o at _ ((form_fits ir image l all fr.function fr.pc o at (op.Complement to a) e).0)) (writes_one ir image l all fr.function fr.pc o at (op.Complement to a) e to refl refl (only_one (fr.pc + 1))) (code ir image l all fr.function fr.pc o at (op.Complement to a) e) (behind ir image l all fr.function fr.pc o at (op.Complement to a) e)

  pub is_zero : (to a : ℕ) → o.op ≡ op.IsZero to a → Goes (op.IsZero to a)
  is_zero to a e =
      is_zero_does ir image (places l) (live_in ir l all.homes) (midway_in ir l) left fr below c o.line u h p (homes_are ir image l all) all.small m same fine to a (lives ir image l all fr.function fr.pc o at (op.IsZero to a) e a (in_first (range a 1) ([]) a (omega arith) (omega arith))) (slot_in ir image l all fr.function fr.pc o at _ ((form_fits ir image l all fr.function fr.pc o at (op.IsZero to a) e).0)) (writes_one ir image l all fr.function fr.pc o at (op.IsZero to a) e to refl refl (only_one (fr.pc + 1))) (code ir image l all fr.function fr.pc o at (op.IsZero to a) e) (behind ir image l all fr.function fr.pc o at (op.IsZero to a) e)

  pub is_long_set : (to a : ℕ) → o.op ≡ op.IsLongSet to a → Goes (op.IsLongSet to a)
  is_long_set to a e =
      is_long_set_does ir image (places l) (live_in ir l all.homes) (midway_in ir l) left fr below c o.line u h p (homes_are ir image l all) all.small m same fine to a (lives ir image l all fr.function fr.pc o at (op.IsLongSet to a) e a (in_first (range a 2) ([]) a (omega arith) (omega arith))) (lives ir image l all fr.function fr.pc o at (op.IsLongSet to a) e (a + 1) (in_first (range a 2) ([]) (a + 1) (omega arith) (omega arith))) (slot_in ir image l all fr.function fr.pc o at _ ((form_fits ir image l all fr.function fr.pc o at (op.IsLongSet to a) e).0)) (writes_one ir image l all fr.function fr.pc o at (op.IsLongSet to a) e to refl refl (only_one (fr.pc + 1))) (code ir image l all fr.function fr.pc o at (op.IsLongSet to a) e) (behind ir image l all fr.function fr.pc o at (op.IsLongSet to a) e)

  pub extract : (to a skip size : ℕ) → o.op ≡ op.Extract to a skip size → Goes (op.Extract to a skip size)
  extract to a skip size e =
      extract_does ir image (places l) (live_in ir l all.homes) (midway_in ir l) left fr below c o.line u h p (homes_are ir image l all) all.small m same fine to a (lives ir image l all fr.function fr.pc o at (op.Extract to a skip size) e a (in_first (range a 1) ([]) a (omega arith) (omega arith))) (slot_in ir image l all fr.function fr.pc o at _ ((form_fits ir image l all fr.function fr.pc o at (op.Extract to a skip size) e).0)) (writes_one ir image l all fr.function fr.pc o at (op.Extract to a skip size) e to refl refl (only_one (fr.pc + 1))) skip size (form_fits ir image l all fr.function fr.pc o at (op.Extract to a skip size) e).1.1.0 (size_is size (form_fits ir image l all fr.function fr.pc o at (op.Extract to a skip size) e).1.1.1) (code ir image l all fr.function fr.pc o at (op.Extract to a skip size) e) (behind ir image l all fr.function fr.pc o at (op.Extract to a skip size) e)

  pub offset : (to a bytes : ℕ) → o.op ≡ op.Offset to a bytes → Goes (op.Offset to a bytes)
  offset to a bytes e =
      offset_does ir image (places l) (live_in ir l all.homes) (midway_in ir l) left fr below c o.line u h p (homes_are ir image l all) all.small m same fine to a (lives ir image l all fr.function fr.pc o at (op.Offset to a bytes) e a (in_first (range a 1) ([]) a (omega arith) (omega arith))) (slot_in ir image l all fr.function fr.pc o at _ ((form_fits ir image l all fr.function fr.pc o at (op.Offset to a bytes) e).0)) (writes_one ir image l all fr.function fr.pc o at (op.Offset to a bytes) e to refl refl (only_one (fr.pc + 1))) bytes (form_fits ir image l all fr.function fr.pc o at (op.Offset to a bytes) e).1.1 (code ir image l all fr.function fr.pc o at (op.Offset to a bytes) e) (behind ir image l all fr.function fr.pc o at (op.Offset to a bytes) e)

  pub advance : (back : Bool) (size to x y : ℕ) → o.op ≡ op.Advance back size to x y → Goes (op.Advance back size to x y)
  advance back size to x y e =
      advance_does ir image (places l) (live_in ir l all.homes) (midway_in ir l) left fr below c o.line u h p (homes_are ir image l all) all.small m same fine to x y (lives ir image l all fr.function fr.pc o at (op.Advance back size to x y) e x (in_first (range x 1) (range y 1 ∷ []) x (omega arith) (omega arith))) (lives ir image l all fr.function fr.pc o at (op.Advance back size to x y) e y (in_rest (range x 1) (range y 1 ∷ []) y (in_first (range y 1) ([]) y (omega arith) (omega arith)))) (slot_in ir image l all fr.function fr.pc o at _ ((form_fits ir image l all fr.function fr.pc o at (op.Advance back size to x y) e).0)) (writes_one ir image l all fr.function fr.pc o at (op.Advance back size to x y) e to refl refl (only_one (fr.pc + 1))) back size (form_fits ir image l all fr.function fr.pc o at (op.Advance back size to x y) e).1.1.1 (code ir image l all fr.function fr.pc o at (op.Advance back size to x y) e) (behind ir image l all fr.function fr.pc o at (op.Advance back size to x y) e)

  pub between : (size to x y : ℕ) → o.op ≡ op.Between size to x y → Goes (op.Between size to x y)
  between size to x y e =
      between_does ir image (places l) (live_in ir l all.homes) (midway_in ir l) left fr below c o.line u h p (homes_are ir image l all) all.small m same fine to x y (lives ir image l all fr.function fr.pc o at (op.Between size to x y) e x (in_first (range x 1) (range y 1 ∷ []) x (omega arith) (omega arith))) (lives ir image l all fr.function fr.pc o at (op.Between size to x y) e y (in_rest (range x 1) (range y 1 ∷ []) y (in_first (range y 1) ([]) y (omega arith) (omega arith)))) (slot_in ir image l all fr.function fr.pc o at _ ((form_fits ir image l all fr.function fr.pc o at (op.Between size to x y) e).0)) (writes_one ir image l all fr.function fr.pc o at (op.Between size to x y) e to refl refl (only_one (fr.pc + 1))) size (form_fits ir image l all fr.function fr.pc o at (op.Between size to x y) e).1.1.1.0 (form_fits ir image l all fr.function fr.pc o at (op.Between size to x y) e).1.1.1.1 (code ir image l all fr.function fr.pc o at (op.Between size to x y) e) (behind ir image l all fr.function fr.pc o at (op.Between size to x y) e)

  pub get_private : (to j : ℕ) → o.op ≡ op.GetPrivate to j → Goes (op.GetPrivate to j)
  get_private to j e =
      get_private_does ir image (places l) (live_in ir l all.homes) (midway_in ir l) left fr below c o.line u h p (homes_are ir image l all) all.small m same fine to (slot_in ir image l all fr.function fr.pc o at _ ((form_fits ir image l all fr.function fr.pc o at (op.GetPrivate to j) e).0)) (writes_one ir image l all fr.function fr.pc o at (op.GetPrivate to j) e to refl refl (only_one (fr.pc + 1))) j (form_fits ir image l all fr.function fr.pc o at (op.GetPrivate to j) e).1 all.bounded.privates all.privates (code ir image l all fr.function fr.pc o at (op.GetPrivate to j) e) (behind ir image l all fr.function fr.pc o at (op.GetPrivate to j) e)

  pub put_private : (j a : ℕ) → o.op ≡ op.PutPrivate j a → Goes (op.PutPrivate j a)
  put_private j a e =
      put_private_does ir image (places l) (live_in ir l all.homes) (midway_in ir l) left fr below c o.line u h p (homes_are ir image l all) all.small m same fine j a (lives ir image l all fr.function fr.pc o at (op.PutPrivate j a) e a (in_first (range a 1) ([]) a (omega arith) (omega arith))) (form_fits ir image l all fr.function fr.pc o at (op.PutPrivate j a) e).1 all.bounded.privates all.privates (passes_to ir image l all fr.function fr.pc o at (op.PutPrivate j a) e (fr.pc + 1) refl (only_one (fr.pc + 1))) (code ir image l all fr.function fr.pc o at (op.PutPrivate j a) e) (behind ir image l all fr.function fr.pc o at (op.PutPrivate j a) e)
