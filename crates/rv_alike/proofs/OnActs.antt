-- Harts follow operations that ask actions or compose texts, in a program whose image is laid out.
use Rattle.std.proofs.Common.{◌≡◌, ℕ, ◌+◌, Bool, List, [], ◌∷◌, Some, refl, arith}
use Rattle.al_base.specs.declared.trap.Trap.{Trap}
use Rattle.al_event.specs.declared.act.Block.{Block}
use Rattle.al_ir.specs.declared.ir.Ir.{Ir}
use Rattle.al_ir.specs.declared.ir.Operation.{Operation}
use Rattle.al_ir.specs.declared.op.Op.{Op}
use Rattle.al_ir.specs.declared.op.Op.TheVariants as op
use Rattle.al_ir.specs.Control.{Frame as IrFrame, Control, operation_at}
use Rattle.al_ir.specs.Step.{step_op}
use Rattle.rv_isa.specs.declared.image.Contents.{Contents}
use Rattle.rv_exec.specs.Hart.{Hart}
use Rattle.rv_exec.specs.Calls.{Privates}
use Rattle.rv_code.specs.Runs.{Fine}
use Rattle.rv_form.specs.Layout.{Layout}
use Rattle.rv_match.specs.Match.{Private, InFrame}
use Rattle.rv_match.proofs.Steps.{Does, here}
use Rattle.rv_alike.specs.Within.{places, live_in, midway_in}
use Rattle.rv_alike.specs.LaidOut.{IsLaidOut}
use Rattle.rv_alike.proofs.Ranges.{only_one, range, in_first, in_rest}
use Rattle.rv_alike.proofs.Facts.{homes_are, line_is, code, behind, form_fits, lives, writes_one, passes_to, slot_in, size_is}
use Rattle.rv_acts.proofs.Units.{load_does}
use Rattle.rv_acts.proofs.Stores.{store_does}
use Rattle.rv_acts.proofs.Blocks.{alloc_does, new_chan_does}
use Rattle.rv_acts.proofs.Frees.{free_does}
use Rattle.rv_acts.proofs.Simple.{free_chan_does, can_recv_does, can_send_does, print_does, traps_does}
use Rattle.rv_acts.proofs.Texts.{put_byte_does, put_character_does}
use Rattle.rv_acts.proofs.Numbers.{put_decimal_does, put_hex_does, put_long_hex_does}
use Rattle.rv_acts.proofs.Decimals.{put_long_decimal_does}

module _ (ir : Ir) (image : Contents) (l : Layout) (all : IsLaidOut ir image l) (left : ℕ) (fr : IrFrame) (below : List IrFrame) (c : Control) (u : List ℕ) (h : Hart) (p : Privates)
    (o : Operation) (at : operation_at ir fr.function fr.pc ≡ Some o) (m : InFrame ir image (places l) (live_in ir l all.homes) (midway_in ir l) left fr below 0 c.text c.last h) (same : Private ir u p) (fine : Fine h p) where
  abbrev Goes : Op → Type 0
  Goes x = Does ir image (places l) (live_in ir l all.homes) (midway_in ir l) left h p (step_op x (here ir image (places l) (live_in ir l all.homes) (midway_in ir l) left fr below c o.line u h p))

  pub load : (to a offset size : ℕ) → o.op ≡ op.Load to a offset size → Goes (op.Load to a offset size)
  load to a offset size e =
      load_does ir image (places l) (live_in ir l all.homes) (midway_in ir l) left fr below c o.line u h p (homes_are ir image l all) all.small m same fine to (slot_in ir image l all fr.function fr.pc o at _ ((form_fits ir image l all fr.function fr.pc o at (op.Load to a offset size) e).0)) (writes_one ir image l all fr.function fr.pc o at (op.Load to a offset size) e to refl refl (only_one (fr.pc + 1))) a offset size (size_is size (form_fits ir image l all fr.function fr.pc o at (op.Load to a offset size) e).1.1.1) (form_fits ir image l all fr.function fr.pc o at (op.Load to a offset size) e).1.1.0 (lives ir image l all fr.function fr.pc o at (op.Load to a offset size) e a (in_first (range a 1) ([]) a (omega arith) (omega arith))) (all.laid.low fr.function (fr.pc + 1)) (line_is ir image l all fr.function fr.pc o at) (code ir image l all fr.function fr.pc o at (op.Load to a offset size) e) (behind ir image l all fr.function fr.pc o at (op.Load to a offset size) e)

  pub store : (a offset size from : ℕ) → o.op ≡ op.Store a offset size from → Goes (op.Store a offset size from)
  store a offset size from e =
      store_does ir image (places l) (live_in ir l all.homes) (midway_in ir l) left fr below c o.line u h p (homes_are ir image l all) all.small m same fine a from offset size (size_is size (form_fits ir image l all fr.function fr.pc o at (op.Store a offset size from) e).1.1.1) (form_fits ir image l all fr.function fr.pc o at (op.Store a offset size from) e).1.1.0 (lives ir image l all fr.function fr.pc o at (op.Store a offset size from) e a (in_first (range a 1) (range from 1 ∷ []) a (omega arith) (omega arith))) (lives ir image l all fr.function fr.pc o at (op.Store a offset size from) e from (in_rest (range a 1) (range from 1 ∷ []) from (in_first (range from 1) ([]) from (omega arith) (omega arith)))) (all.laid.low fr.function (fr.pc + 1)) (line_is ir image l all fr.function fr.pc o at) (passes_to ir image l all fr.function fr.pc o at (op.Store a offset size from) e (fr.pc + 1) refl (only_one (fr.pc + 1))) (code ir image l all fr.function fr.pc o at (op.Store a offset size from) e) (behind ir image l all fr.function fr.pc o at (op.Store a offset size from) e)

  pub alloc : (to bytes : ℕ) (k : Block) → o.op ≡ op.Alloc to bytes k → Goes (op.Alloc to bytes k)
  alloc to bytes k e =
      alloc_does ir image (places l) (live_in ir l all.homes) (midway_in ir l) left fr below c o.line u h p (homes_are ir image l all) all.small m same fine (all.laid.low fr.function (fr.pc + 1)) (line_is ir image l all fr.function fr.pc o at) to (slot_in ir image l all fr.function fr.pc o at _ ((form_fits ir image l all fr.function fr.pc o at (op.Alloc to bytes k) e).0)) (writes_one ir image l all fr.function fr.pc o at (op.Alloc to bytes k) e to refl refl (only_one (fr.pc + 1))) bytes k (form_fits ir image l all fr.function fr.pc o at (op.Alloc to bytes k) e).1.0 (form_fits ir image l all fr.function fr.pc o at (op.Alloc to bytes k) e).1.1.0 (form_fits ir image l all fr.function fr.pc o at (op.Alloc to bytes k) e).1.1.1 (code ir image l all fr.function fr.pc o at (op.Alloc to bytes k) e) (behind ir image l all fr.function fr.pc o at (op.Alloc to bytes k) e)

  pub free : (a : ℕ) (k : Block) → o.op ≡ op.Free a k → Goes (op.Free a k)
  free a k e =
      free_does ir image (places l) (live_in ir l all.homes) (midway_in ir l) left fr below c o.line u h p (homes_are ir image l all) all.small m same fine (all.laid.low fr.function (fr.pc + 1)) (line_is ir image l all fr.function fr.pc o at) (passes_to ir image l all fr.function fr.pc o at (op.Free a k) e (fr.pc + 1) refl (only_one (fr.pc + 1))) a k (form_fits ir image l all fr.function fr.pc o at (op.Free a k) e).1 (lives ir image l all fr.function fr.pc o at (op.Free a k) e a (in_first (range a 1) ([]) a (omega arith) (omega arith))) (code ir image l all fr.function fr.pc o at (op.Free a k) e) (behind ir image l all fr.function fr.pc o at (op.Free a k) e)

  pub new_chan : (to capacity n : ℕ) → o.op ≡ op.NewChan to capacity n → Goes (op.NewChan to capacity n)
  new_chan to capacity n e =
      new_chan_does ir image (places l) (live_in ir l all.homes) (midway_in ir l) left fr below c o.line u h p (homes_are ir image l all) all.small m same fine (all.laid.low fr.function (fr.pc + 1)) (line_is ir image l all fr.function fr.pc o at) to (slot_in ir image l all fr.function fr.pc o at _ ((form_fits ir image l all fr.function fr.pc o at (op.NewChan to capacity n) e).0)) (writes_one ir image l all fr.function fr.pc o at (op.NewChan to capacity n) e to refl refl (only_one (fr.pc + 1))) capacity n (form_fits ir image l all fr.function fr.pc o at (op.NewChan to capacity n) e).1.0 (form_fits ir image l all fr.function fr.pc o at (op.NewChan to capacity n) e).1.1 (code ir image l all fr.function fr.pc o at (op.NewChan to capacity n) e) (behind ir image l all fr.function fr.pc o at (op.NewChan to capacity n) e)

  pub free_chan : (a : ℕ) → o.op ≡ op.FreeChan a → Goes (op.FreeChan a)
  free_chan a e =
      free_chan_does ir image (places l) (live_in ir l all.homes) (midway_in ir l) left fr below c o.line u h p (homes_are ir image l all) all.small m same fine (all.laid.low fr.function (fr.pc + 1)) (line_is ir image l all fr.function fr.pc o at) a (lives ir image l all fr.function fr.pc o at (op.FreeChan a) e a (in_first (range a 1) ([]) a (omega arith) (omega arith))) (code ir image l all fr.function fr.pc o at (op.FreeChan a) e) (behind ir image l all fr.function fr.pc o at (op.FreeChan a) e) (passes_to ir image l all fr.function fr.pc o at (op.FreeChan a) e (fr.pc + 1) refl (only_one (fr.pc + 1)))

  pub can_recv : (to a : ℕ) → o.op ≡ op.CanRecv to a → Goes (op.CanRecv to a)
  can_recv to a e =
      can_recv_does ir image (places l) (live_in ir l all.homes) (midway_in ir l) left fr below c o.line u h p (homes_are ir image l all) all.small m same fine (all.laid.low fr.function (fr.pc + 1)) (line_is ir image l all fr.function fr.pc o at) to a (lives ir image l all fr.function fr.pc o at (op.CanRecv to a) e a (in_first (range a 1) ([]) a (omega arith) (omega arith))) (slot_in ir image l all fr.function fr.pc o at _ ((form_fits ir image l all fr.function fr.pc o at (op.CanRecv to a) e).0)) (writes_one ir image l all fr.function fr.pc o at (op.CanRecv to a) e to refl refl (only_one (fr.pc + 1))) (code ir image l all fr.function fr.pc o at (op.CanRecv to a) e) (behind ir image l all fr.function fr.pc o at (op.CanRecv to a) e)

  pub can_send : (to a : ℕ) → o.op ≡ op.CanSend to a → Goes (op.CanSend to a)
  can_send to a e =
      can_send_does ir image (places l) (live_in ir l all.homes) (midway_in ir l) left fr below c o.line u h p (homes_are ir image l all) all.small m same fine (all.laid.low fr.function (fr.pc + 1)) (line_is ir image l all fr.function fr.pc o at) to a (lives ir image l all fr.function fr.pc o at (op.CanSend to a) e a (in_first (range a 1) ([]) a (omega arith) (omega arith))) (slot_in ir image l all fr.function fr.pc o at _ ((form_fits ir image l all fr.function fr.pc o at (op.CanSend to a) e).0)) (writes_one ir image l all fr.function fr.pc o at (op.CanSend to a) e to refl refl (only_one (fr.pc + 1))) (code ir image l all fr.function fr.pc o at (op.CanSend to a) e) (behind ir image l all fr.function fr.pc o at (op.CanSend to a) e)

  pub put_byte : (b : ℕ) → o.op ≡ op.PutByte b → Goes (op.PutByte b)
  put_byte b e =
      put_byte_does ir image (places l) (live_in ir l all.homes) (midway_in ir l) left fr below c o.line u h p (homes_are ir image l all) all.small m same fine (all.laid.low fr.function (fr.pc + 1)) (line_is ir image l all fr.function fr.pc o at) (passes_to ir image l all fr.function fr.pc o at (op.PutByte b) e (fr.pc + 1) refl (only_one (fr.pc + 1))) b (form_fits ir image l all fr.function fr.pc o at (op.PutByte b) e) (code ir image l all fr.function fr.pc o at (op.PutByte b) e) (behind ir image l all fr.function fr.pc o at (op.PutByte b) e)

  pub put_character : (a : ℕ) → o.op ≡ op.PutCharacter a → Goes (op.PutCharacter a)
  put_character a e =
      put_character_does ir image (places l) (live_in ir l all.homes) (midway_in ir l) left fr below c o.line u h p (homes_are ir image l all) all.small m same fine (all.laid.low fr.function (fr.pc + 1)) (line_is ir image l all fr.function fr.pc o at) (passes_to ir image l all fr.function fr.pc o at (op.PutCharacter a) e (fr.pc + 1) refl (only_one (fr.pc + 1))) a (lives ir image l all fr.function fr.pc o at (op.PutCharacter a) e a (in_first (range a 1) ([]) a (omega arith) (omega arith))) (code ir image l all fr.function fr.pc o at (op.PutCharacter a) e) (behind ir image l all fr.function fr.pc o at (op.PutCharacter a) e)

  pub put_decimal : (s : Bool) (a : ℕ) → o.op ≡ op.PutDecimal s a → Goes (op.PutDecimal s a)
  put_decimal s a e =
      put_decimal_does ir image (places l) (live_in ir l all.homes) (midway_in ir l) left fr below c o.line u h p (homes_are ir image l all) all.small m same fine (all.laid.low fr.function (fr.pc + 1)) (line_is ir image l all fr.function fr.pc o at) (passes_to ir image l all fr.function fr.pc o at (op.PutDecimal s a) e (fr.pc + 1) refl (only_one (fr.pc + 1))) s a (lives ir image l all fr.function fr.pc o at (op.PutDecimal s a) e a (in_first (range a 1) ([]) a (omega arith) (omega arith))) (code ir image l all fr.function fr.pc o at (op.PutDecimal s a) e) (behind ir image l all fr.function fr.pc o at (op.PutDecimal s a) e)

  pub put_long_decimal : (s : Bool) (a : ℕ) → o.op ≡ op.PutLongDecimal s a → Goes (op.PutLongDecimal s a)
  put_long_decimal s a e =
      put_long_decimal_does ir image (places l) (live_in ir l all.homes) (midway_in ir l) left fr below c o.line u h p (homes_are ir image l all) all.small m same fine (all.laid.low fr.function (fr.pc + 1)) (line_is ir image l all fr.function fr.pc o at) (passes_to ir image l all fr.function fr.pc o at (op.PutLongDecimal s a) e (fr.pc + 1) refl (only_one (fr.pc + 1))) s a (lives ir image l all fr.function fr.pc o at (op.PutLongDecimal s a) e a (in_first (range a 2) ([]) a (omega arith) (omega arith))) (lives ir image l all fr.function fr.pc o at (op.PutLongDecimal s a) e (a + 1) (in_first (range a 2) ([]) (a + 1) (omega arith) (omega arith))) (code ir image l all fr.function fr.pc o at (op.PutLongDecimal s a) e) (behind ir image l all fr.function fr.pc o at (op.PutLongDecimal s a) e)

  pub put_hex : (a : ℕ) → o.op ≡ op.PutHex a → Goes (op.PutHex a)
  put_hex a e =
      put_hex_does ir image (places l) (live_in ir l all.homes) (midway_in ir l) left fr below c o.line u h p (homes_are ir image l all) all.small m same fine (all.laid.low fr.function (fr.pc + 1)) (line_is ir image l all fr.function fr.pc o at) (passes_to ir image l all fr.function fr.pc o at (op.PutHex a) e (fr.pc + 1) refl (only_one (fr.pc + 1))) a (lives ir image l all fr.function fr.pc o at (op.PutHex a) e a (in_first (range a 1) ([]) a (omega arith) (omega arith))) (code ir image l all fr.function fr.pc o at (op.PutHex a) e) (behind ir image l all fr.function fr.pc o at (op.PutHex a) e)

  pub put_long_hex : (a : ℕ) → o.op ≡ op.PutLongHex a → Goes (op.PutLongHex a)
  put_long_hex a e =
      put_long_hex_does ir image (places l) (live_in ir l all.homes) (midway_in ir l) left fr below c o.line u h p (homes_are ir image l all) all.small m same fine (all.laid.low fr.function (fr.pc + 1)) (line_is ir image l all fr.function fr.pc o at) (passes_to ir image l all fr.function fr.pc o at (op.PutLongHex a) e (fr.pc + 1) refl (only_one (fr.pc + 1))) a (lives ir image l all fr.function fr.pc o at (op.PutLongHex a) e a (in_first (range a 2) ([]) a (omega arith) (omega arith))) (lives ir image l all fr.function fr.pc o at (op.PutLongHex a) e (a + 1) (in_first (range a 2) ([]) (a + 1) (omega arith) (omega arith))) (code ir image l all fr.function fr.pc o at (op.PutLongHex a) e) (behind ir image l all fr.function fr.pc o at (op.PutLongHex a) e)

  pub print : o.op ≡ op.Print → Goes (op.Print)
  print e =
      print_does ir image (places l) (live_in ir l all.homes) (midway_in ir l) left fr below c o.line u h p (homes_are ir image l all) all.small m same fine (all.laid.low fr.function (fr.pc + 1)) (line_is ir image l all fr.function fr.pc o at) (code ir image l all fr.function fr.pc o at (op.Print) e) (behind ir image l all fr.function fr.pc o at (op.Print) e) (passes_to ir image l all fr.function fr.pc o at (op.Print) e (fr.pc + 1) refl (only_one (fr.pc + 1)))

  pub trap : (t : Trap) → o.op ≡ op.Trap t → Goes (op.Trap t)
  trap t e =
      traps_does ir image (places l) (live_in ir l all.homes) (midway_in ir l) left fr below c o.line u h p (homes_are ir image l all) all.small m same fine (all.laid.low fr.function (fr.pc + 1)) (line_is ir image l all fr.function fr.pc o at) t (code ir image l all fr.function fr.pc o at (op.Trap t) e) (behind ir image l all fr.function fr.pc o at (op.Trap t) e)
