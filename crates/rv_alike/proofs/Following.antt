-- Harts follow the operations of a program whose image is laid out.
use Rattle.std.proofs.Common.{◌≡◌, ℕ, zero, suc, List, [], ◌∷◌, Option, Some, None, refl, subst}
use Rattle.al_ir.specs.declared.ir.Ir.{Ir}
use Rattle.al_ir.specs.declared.ir.Operation.{Operation}
use Rattle.al_ir.specs.declared.op.Op.{Op}
use Rattle.al_ir.specs.declared.op.Op.TheVariants as op
use Rattle.al_ir.specs.Control.{Slots, Frame as IrFrame, Entering, Control, operation_at}
use Rattle.al_ir.specs.Step.{Next, step_op, step_at, step_frames, step_entering, private_step, here_at}
use Rattle.rv_isa.specs.declared.image.Contents.{Contents}
use Rattle.rv_exec.specs.Hart.{Hart}
use Rattle.rv_exec.specs.Calls.{Privates}
use Rattle.rv_code.specs.Runs.{Fine}
use Rattle.rv_form.specs.Layout.{Layout}
use Rattle.rv_match.specs.Match.{Private, InFrame}
use Rattle.rv_match.proofs.Steps.{Does}
use Rattle.rv_alike.specs.Within.{places, live_in, midway_in}
use Rattle.rv_alike.specs.LaidOut.{IsLaidOut}
use Rattle.al_ir.specs.Meaning.{resume}
use Rattle.rv_match.specs.Following.{Follows}
use Rattle.rv_match.specs.Match.{Reaches, Plain, Match, IfNone, InFrames}
use Rattle.rv_match.specs.Places.{under, full}
use Rattle.rv_flow.proofs.Starting.{end_does}
use Rattle.rv_alike.specs.Within.{midway_by, midway_at}
use Rattle.rv_alike.proofs.OnWords.{constant, copy, result, word, word_by, complement, is_zero, is_long_set, extract, offset, advance, between, get_private, put_private}
use Rattle.rv_alike.proofs.OnLongs.{long, zeroes, convert}
use Rattle.rv_alike.proofs.OnFlow.{skip, skip_if_zero, skip_if_set, skip_unless, go_to, back, turn, invoke, become, leave, terminate}
use Rattle.rv_alike.proofs.OnActs.{load, store, alloc, free, new_chan, free_chan, can_recv, can_send, put_byte, put_character, put_decimal, put_long_decimal, put_hex, put_long_hex, print, trap}
use Rattle.rv_alike.proofs.OnTalks.{talk_goes, proc, task, par}
use Rattle.rv_alike.proofs.OnPointers.{invoke_pointer}
use Rattle.rv_alike.proofs.OnUnits.{load_units, store_units, clear_units, put_text}

module _ (ir : Ir) (image : Contents) (l : Layout) (all : IsLaidOut ir image l) where
  abbrev Matches : (left : ℕ) (fr : IrFrame) (below : List IrFrame) (unit : ℕ) (c : Control) (h : Hart) → Type 0
  Matches left fr below unit c h = InFrame ir image (places l) (live_in ir l all.homes) (midway_in ir l) left fr below unit c.text c.last h

  abbrev Done : (left : ℕ) (h : Hart) (p : Privates) → Next → Type 0
  Done left h p x = Does ir image (places l) (live_in ir l all.homes) (midway_in ir l) left h p x

  module _ (left : ℕ) (fr : IrFrame) (below : List IrFrame) (c : Control) (u : List ℕ) (h : Hart) (p : Privates) (o : Operation) (at : operation_at ir fr.function fr.pc ≡ Some o) (same : Private ir u p) (fine : Fine h p) where
    abbrev Goes : Op → Type 0
    Goes x = Done left h p (step_op x (here_at ir c fr below o.line u))

    -- an operation without units has done none
    as_zero : (x : Op) → o.op ≡ x → ((n : ℕ) (slots : Slots) (sp : ℕ) (g : Hart) → midway_by l x fr.function fr.pc (suc n) slots sp g → ⊥) → Matches left fr below c.unit c h → Matches left fr below 0 c h
    as_zero x e none m = on c.unit m m.here where
      on : (k : ℕ) → Matches left fr below k c h → Reaches ir image (places l) (live_in ir l all.homes) (midway_in ir l) fr.function fr.pc k fr.slots (under (places l) below) h → Matches left fr below 0 c h
      on zero m1 r = m1
      on (suc n) m1 r =
          absurd (none n fr.slots (under (places l) below) h (subst (λ (y : Op). midway_by l y fr.function fr.pc (suc n) fr.slots (under (places l) below) h) e (subst (λ (y : Option Operation). midway_at l y fr.function fr.pc (suc n) fr.slots (under (places l) below) h) at r)))

    by_form : (x : Op) → o.op ≡ x → Matches left fr below c.unit c h → Goes x
    by_form (op.Constant to w) e m = constant ir image l all left fr below c u h p o at (as_zero (op.Constant to w) e (λ n slots sp g q. q) m) same fine to w e
    by_form (op.Copy to a) e m = copy ir image l all left fr below c u h p o at (as_zero (op.Copy to a) e (λ n slots sp g q. q) m) same fine to a e
    by_form (op.Result to n) e m = result ir image l all left fr below c u h p o at (as_zero (op.Result to n) e (λ n slots sp g q. q) m) same fine to n e
    by_form (op.Word a s to x y) e m = word ir image l all left fr below c u h p o at (as_zero (op.Word a s to x y) e (λ n slots sp g q. q) m) same fine a s to x y e
    by_form (op.WordBy a s to x n) e m = word_by ir image l all left fr below c u h p o at (as_zero (op.WordBy a s to x n) e (λ n slots sp g q. q) m) same fine a s to x n e
    by_form (op.Complement to a) e m = complement ir image l all left fr below c u h p o at (as_zero (op.Complement to a) e (λ n slots sp g q. q) m) same fine to a e
    by_form (op.IsZero to a) e m = is_zero ir image l all left fr below c u h p o at (as_zero (op.IsZero to a) e (λ n slots sp g q. q) m) same fine to a e
    by_form (op.IsLongSet to a) e m = is_long_set ir image l all left fr below c u h p o at (as_zero (op.IsLongSet to a) e (λ n slots sp g q. q) m) same fine to a e
    by_form (op.Extract to a skip size) e m = extract ir image l all left fr below c u h p o at (as_zero (op.Extract to a skip size) e (λ n slots sp g q. q) m) same fine to a skip size e
    by_form (op.Offset to a bytes) e m = offset ir image l all left fr below c u h p o at (as_zero (op.Offset to a bytes) e (λ n slots sp g q. q) m) same fine to a bytes e
    by_form (op.Advance back size to x y) e m = advance ir image l all left fr below c u h p o at (as_zero (op.Advance back size to x y) e (λ n slots sp g q. q) m) same fine back size to x y e
    by_form (op.Between size to x y) e m = between ir image l all left fr below c u h p o at (as_zero (op.Between size to x y) e (λ n slots sp g q. q) m) same fine size to x y e
    by_form (op.GetPrivate to j) e m = get_private ir image l all left fr below c u h p o at (as_zero (op.GetPrivate to j) e (λ n slots sp g q. q) m) same fine to j e
    by_form (op.PutPrivate j a) e m = put_private ir image l all left fr below c u h p o at (as_zero (op.PutPrivate j a) e (λ n slots sp g q. q) m) same fine j a e
    by_form (op.Long a s to x y) e m = long ir image l all left fr below c u h p o at (as_zero (op.Long a s to x y) e (λ n slots sp g q. q) m) same fine a s to x y e
    by_form (op.Zero to n) e m = zeroes ir image l all left fr below c u h p o at (as_zero (op.Zero to n) e (λ n slots sp g q. q) m) same fine to n e
    by_form (op.Skip n) e m = skip ir image l all left fr below c u h p o at (as_zero (op.Skip n) e (λ n slots sp g q. q) m) same fine n e
    by_form (op.SkipIfZero a n) e m = skip_if_zero ir image l all left fr below c u h p o at (as_zero (op.SkipIfZero a n) e (λ n slots sp g q. q) m) same fine a n e
    by_form (op.SkipIfSet a n) e m = skip_if_set ir image l all left fr below c u h p o at (as_zero (op.SkipIfSet a n) e (λ n slots sp g q. q) m) same fine a n e
    by_form (op.SkipUnless k s a b n) e m = skip_unless ir image l all left fr below c u h p o at (as_zero (op.SkipUnless k s a b n) e (λ n slots sp g q. q) m) same fine k s a b n e
    by_form (op.GoTo to) e m = go_to ir image l all left fr below c u h p o at (as_zero (op.GoTo to) e (λ n slots sp g q. q) m) same fine to e
    by_form (op.Back n) e m = back ir image l all left fr below c u h p o at (as_zero (op.Back n) e (λ n slots sp g q. q) m) same fine n e
    by_form (op.Turn to) e m = turn ir image l all left fr below c u h p o at (as_zero (op.Turn to) e (λ n slots sp g q. q) m) same fine to e
    by_form (op.Load to a offset size) e m = load ir image l all left fr below c u h p o at (as_zero (op.Load to a offset size) e (λ n slots sp g q. q) m) same fine to a offset size e
    by_form (op.Store a offset size from) e m = store ir image l all left fr below c u h p o at (as_zero (op.Store a offset size from) e (λ n slots sp g q. q) m) same fine a offset size from e
    by_form (op.Alloc to bytes k) e m = alloc ir image l all left fr below c u h p o at (as_zero (op.Alloc to bytes k) e (λ n slots sp g q. q) m) same fine to bytes k e
    by_form (op.Free a k) e m = free ir image l all left fr below c u h p o at (as_zero (op.Free a k) e (λ n slots sp g q. q) m) same fine a k e
    by_form (op.NewChan to capacity n) e m = new_chan ir image l all left fr below c u h p o at (as_zero (op.NewChan to capacity n) e (λ n slots sp g q. q) m) same fine to capacity n e
    by_form (op.FreeChan a) e m = free_chan ir image l all left fr below c u h p o at (as_zero (op.FreeChan a) e (λ n slots sp g q. q) m) same fine a e
    by_form (op.CanRecv to a) e m = can_recv ir image l all left fr below c u h p o at (as_zero (op.CanRecv to a) e (λ n slots sp g q. q) m) same fine to a e
    by_form (op.CanSend to a) e m = can_send ir image l all left fr below c u h p o at (as_zero (op.CanSend to a) e (λ n slots sp g q. q) m) same fine to a e
    by_form (op.PutByte b) e m = put_byte ir image l all left fr below c u h p o at (as_zero (op.PutByte b) e (λ n slots sp g q. q) m) same fine b e
    by_form (op.PutCharacter a) e m = put_character ir image l all left fr below c u h p o at (as_zero (op.PutCharacter a) e (λ n slots sp g q. q) m) same fine a e
    by_form (op.PutDecimal s a) e m = put_decimal ir image l all left fr below c u h p o at (as_zero (op.PutDecimal s a) e (λ n slots sp g q. q) m) same fine s a e
    by_form (op.PutLongDecimal s a) e m = put_long_decimal ir image l all left fr below c u h p o at (as_zero (op.PutLongDecimal s a) e (λ n slots sp g q. q) m) same fine s a e
    by_form (op.PutHex a) e m = put_hex ir image l all left fr below c u h p o at (as_zero (op.PutHex a) e (λ n slots sp g q. q) m) same fine a e
    by_form (op.PutLongHex a) e m = put_long_hex ir image l all left fr below c u h p o at (as_zero (op.PutLongHex a) e (λ n slots sp g q. q) m) same fine a e
    by_form op.Print e m = print ir image l all left fr below c u h p o at (as_zero (op.Print) e (λ n slots sp g q. q) m) same fine e
    by_form (op.Trap t) e m = trap ir image l all left fr below c u h p o at (as_zero (op.Trap t) e (λ n slots sp g q. q) m) same fine t e
    by_form (op.Invoke g a) e m = invoke ir image l all left fr below c u h p o at (as_zero (op.Invoke g a) e (λ n slots sp g q. q) m) same fine g a e
    by_form (op.Become g a) e m = become ir image l all left fr below c u h p o at (as_zero (op.Become g a) e (λ n slots sp g q. q) m) same fine g a e
    by_form (op.Leave n) e m = leave ir image l all left fr below c u h p o at (as_zero (op.Leave n) e (λ n slots sp g q. q) m) same fine n e
    by_form (op.Terminate a) e m = terminate ir image l all left fr below c u h p o at (as_zero (op.Terminate a) e (λ n slots sp g q. q) m) same fine a e
    by_form (op.Convert from into to a) e m = convert ir image l all left fr below c u h p o at (as_zero (op.Convert from into to a) e (λ n slots sp g q. q) m) same fine from into to a e
    by_form (op.PutText a) e m = put_text ir image l all left fr below c u h p o at (as_zero (op.PutText a) e (λ n slots sp g q. q) m) same fine a e
    by_form (op.LoadUnits to a offset layout) e m = load_units ir image l all left fr below c u h p o at m same fine to a offset layout e
    by_form (op.StoreUnits a offset layout from) e m = store_units ir image l all left fr below c u h p o at m same fine a offset layout from e
    by_form (op.ClearUnits a offset layout) e m = clear_units ir image l all left fr below c u h p o at m same fine a offset layout e
    by_form (op.InvokePointer class pointer from) e m = invoke_pointer ir image l all left fr below c u h p o at (as_zero (op.InvokePointer class pointer from) e (λ n slots sp g q. q) m) same fine class pointer from e
    by_form (op.Talk branches records to got) e m = talk_goes ir image l all left fr below c u h p o at (as_zero (op.Talk branches records to got) e (λ n slots sp g q. q) m) same fine branches records to got e
    by_form (op.Proc function arguments words) e m = proc ir image l all left fr below c u h p o at (as_zero (op.Proc function arguments words) e (λ n slots sp g q. q) m) same fine function arguments words e
    by_form (op.Task function arguments words) e m = task ir image l all left fr below c u h p o at (as_zero (op.Task function arguments words) e (λ n slots sp g q. q) m) same fine function arguments words e
    by_form (op.Par functions arguments words records) e m = par ir image l all left fr below c u h p o at (as_zero (op.Par functions arguments words records) e (λ n slots sp g q. q) m) same fine functions arguments words records e

  -- the operation at hand, if there is one
  at_hand : (left : ℕ) (fr : IrFrame) (below : List IrFrame) (c : Control) (u : List ℕ) (h : Hart) (p : Privates) (x : Option Operation) → operation_at ir fr.function fr.pc ≡ x → Private ir u p → Fine h p
      → Matches left fr below c.unit c h → Done left h p (step_at ir c fr below x u)
  at_hand left fr below c u h p (Some o) e same fine m = by_form left fr below c u h p o e same fine o.op refl m
  at_hand left fr below c u h p None e same fine m = λ real. absurd (real refl)

  in_frames : (left : ℕ) (c : Control) (fs : List IrFrame) (u : List ℕ) (h : Hart) (p : Privates) → Private ir u p → Fine h p → InFrames ir image (places l) (live_in ir l all.homes) (midway_in ir l) left fs c h
      → Done left h p (step_frames ir c fs u)
  in_frames left c [] u h p same fine m = end_does ir image (places l) (live_in ir l all.homes) (midway_in ir l) all.small all.ending all.no_line left c u h p m same
  in_frames left c (fr ∷ below) u h p same fine m = at_hand left fr below c u h p (operation_at ir fr.function fr.pc) refl same fine m

  pub follows_all : (left : ℕ) (c : Control) (u : List ℕ) (h : Hart) (p : Privates) → Plain ir image (places l) (live_in ir l all.homes) (midway_in ir l) left c h → Private ir u p → Fine h p
      → Follows image resume (Private ir) (Match ir image (places l) (live_in ir l all.homes) (midway_in ir l)) full left h p (private_step ir c u)
  follows_all left c u h p m same fine = on c.entering m where
    on : (e : Option Entering) → IfNone ir image (places l) (live_in ir l all.homes) (midway_in ir l) e (InFrames ir image (places l) (live_in ir l all.homes) (midway_in ir l) left c.frames c h) → Done left h p (step_entering ir c e u)
    on (Some e) q = absurd q
    on None q = in_frames left c c.frames u h p same fine q
