-- How many words a template takes does not depend on where things stand.
use Rattle.std.proofs.Common.{◌≡◌, ℕ, ◌+◌, ◌-◌, Bool, List, ◌∷◌, ◌++◌, length, length-append, slice_get, Option, Some, None, refl, ap, ◌∙◌, arith, pos}
use Rattle.al_base.specs.declared.arith.Op.{Op as Arith}
use Rattle.al_base.specs.declared.arith.Op.TheVariants as arith
use Rattle.al_ir.specs.declared.ir.Ir.{Ir}
use Rattle.al_ir.specs.declared.op.Op.{Op}
use Rattle.al_ir.specs.declared.op.Op.TheVariants as op
use Rattle.rv_isa.specs.declared.instr.Instr.{Instr}
use Rattle.rv_isa.specs.declared.instr.Instr.TheVariants.{Jalr}
use Rattle.rv_isa.specs.declared.instr.BranchOp.{BranchOp}
use Rattle.rv_isa.specs.declared.instr.BranchOp.TheVariants.{Beq, Bne}
use Rattle.rv_long.specs.declared.op.LongOp.{LongOp}
use Rattle.rv_code.specs.declared.home.Home.{Home}
use Rattle.rv_code.specs.declared.reach.Reach.{Reach}
use Rattle.rv_code.specs.declared.reach.Reach.TheVariants.{Short, Middle, Long}
use Rattle.rv_code.specs.Homes.{get_code, get_register, frame_load, bring}
use Rattle.rv_code.specs.Jumps.{jump_code, branch_code, link_code, go_code}
use Rattle.rv_code.specs.Pieces.{turn_code, up_code, down_code}
use Rattle.rv_form.specs.Flow.{skip_code, turn_to, not_less, is_less, unless_code, skip_unless_code, pass, invoke_code, become_code, found_test, found_stack_test}
use Rattle.rv_form.specs.Layout.{Layout}
use Rattle.rv_form.specs.Longs.{division_of, computed_or_called, leave_result, long_op_code}
use Rattle.rv_form.specs.Program.{Homes, Places, layout_with, reach_or_long}
use Rattle.rv_form.specs.Template.{template}

both : (a b c d : List Instr) → length a ≡ length c → length b ≡ length d → length (a ++ b) ≡ length (c ++ d)
both a b c d e f = omega (arith, length-append a b, length-append c d, e, f)

jump_width : (r : Reach) (a b c d : ℕ) → length (jump_code r a b) ≡ length (jump_code r c d)
jump_width Short a b c d = refl
jump_width Middle a b c d = refl
jump_width Long a b c d = refl

branch_width : (r : Reach) (o : BranchOp) (x y a b c d : ℕ) → length (branch_code r o x y a b) ≡ length (branch_code r o x y c d)
branch_width Short o x y a b c d = refl
branch_width Middle o x y a b c d = refl
branch_width Long o x y a b c d = refl

turn_width : (r : Reach) (a b c d : ℕ) → length (turn_to r a b) ≡ length (turn_to r c d)
turn_width Short a b c d = refl
turn_width Middle a b c d = refl
turn_width Long a b c d = refl

skip_width : (r : Reach) (o : BranchOp) (slot : Home) (a b c d : ℕ) → length (skip_code r o slot a b) ≡ length (skip_code r o slot c d)
skip_width r o slot a b c d =
    let x : ℕ = get_register slot 10 in
    let n : ℕ = length (get_code slot 10) in
    both (get_code slot 10) (branch_code r o x 0 (a + n) b) (get_code slot 10) (branch_code r o x 0 (c + n) d) refl (branch_width r o x 0 (a + n) b (c + n) d)

unless_width : (r : Reach) (k : Arith) (s : Bool) (x y a b c d : ℕ) → length (unless_code r k s x y a b) ≡ length (unless_code r k s x y c d)
unless_width r arith.Lt s x y a b c d = branch_width r (not_less s) x y a b c d
unless_width r arith.Le s x y a b c d = branch_width r (is_less s) y x a b c d
unless_width r arith.Eq s x y a b c d = branch_width r Bne x y a b c d
unless_width r arith.Ne s x y a b c d = branch_width r Beq x y a b c d
unless_width r arith.Add s x y a b c d = refl
unless_width r arith.Sub s x y a b c d = refl
unless_width r arith.Mul s x y a b c d = refl
unless_width r arith.Div s x y a b c d = refl
unless_width r arith.Rem s x y a b c d = refl
unless_width r arith.And s x y a b c d = refl
unless_width r arith.Or s x y a b c d = refl
unless_width r arith.Xor s x y a b c d = refl
unless_width r arith.Shl s x y a b c d = refl
unless_width r arith.Shr s x y a b c d = refl

skip_unless_width : (r : Reach) (k : Arith) (s : Bool) (left right : Home) (a b c d : ℕ) → length (skip_unless_code r k s left right a b) ≡ length (skip_unless_code r k s left right c d)
skip_unless_width r k s left right a b c d =
    let x : ℕ = get_register left 10 in
    let y : ℕ = get_register right 11 in
    let here : ℕ → ℕ = λ n. n + length (get_code left 10) + length (get_code right 11) in
    both (get_code left 10) (get_code right 11 ++ unless_code r k s x y (here a) b) (get_code left 10) (get_code right 11 ++ unless_code r k s x y (here c) d) refl
    (both (get_code right 11) (unless_code r k s x y (here a) b) (get_code right 11) (unless_code r k s x y (here c) d) refl (unless_width r k s x y (here a) b (here c) d))

called_width : (p q : LongOp → ℕ) (o : Option LongOp) (k : Arith) (s : Bool) → length (computed_or_called p o k s) ≡ length (computed_or_called q o k s)
called_width p q (Some d) k s = refl
called_width p q None k s = refl

long_width : (p q : LongOp → ℕ) (k : Arith) (s : Bool) (to to1 a a1 b b1 : Home) → length (long_op_code p k s to to1 a a1 b b1) ≡ length (long_op_code q k s to to1 a a1 b b1)
long_width p q k s to to1 a a1 b b1 =
    let x : List Instr = computed_or_called p (division_of k s) k s ++ leave_result k to to1 in
    let y : List Instr = computed_or_called q (division_of k s) k s ++ leave_result k to to1 in
    let e0 : length x ≡ length y = both (computed_or_called p (division_of k s) k s) (leave_result k to to1) (computed_or_called q (division_of k s) k s) (leave_result k to to1) (called_width p q (division_of k s) k s) refl in
    let e1 : length (bring b1 13 ++ x) ≡ length (bring b1 13 ++ y) = both (bring b1 13) x (bring b1 13) y refl e0 in
    let e2 : length (bring b 12 ++ (bring b1 13 ++ x)) ≡ length (bring b 12 ++ (bring b1 13 ++ y)) = both (bring b 12) (bring b1 13 ++ x) (bring b 12) (bring b1 13 ++ y) refl e1 in
    both (bring a 10) (bring a1 11 ++ (bring b 12 ++ (bring b1 13 ++ x))) (bring a 10) (bring a1 11 ++ (bring b 12 ++ (bring b1 13 ++ y))) refl
    (both (bring a1 11) (bring b 12 ++ (bring b1 13 ++ x)) (bring a1 11) (bring b 12 ++ (bring b1 13 ++ y)) refl e2)

invoke_width : (home : ℕ → Home) (above words e f arguments n : ℕ) → length (invoke_code home above words e arguments n) ≡ length (invoke_code home above words f arguments n)
invoke_width home above words e f arguments n =
    let x : ℕ → List Instr = λ i. up_code above ++ (link_code i ++ down_code above) in
    let k : length (pass home arguments above n ++ x e) ≡ length (pass home arguments above n ++ x f) = both (pass home arguments above n) (x e) (pass home arguments above n) (x f) refl refl in
    omega (arith, k)

become_width : (home : ℕ → Home) (back words e f arguments n : ℕ) → length (become_code home back words e arguments n) ≡ length (become_code home back words f arguments n)
become_width home back words e f arguments n =
    let k : length (pass home arguments 0 n ++ go_code e) ≡ length (pass home arguments 0 n ++ go_code f) = both (pass home arguments 0 n) (go_code e) (pass home arguments 0 n) (go_code f) refl refl in
    let k1 : length (frame_load 1 back ++ (pass home arguments 0 n ++ go_code e)) ≡ length (frame_load 1 back ++ (pass home arguments 0 n ++ go_code f)) = both (frame_load 1 back) (pass home arguments 0 n ++ go_code e) (frame_load 1 back) (pass home arguments 0 n ++ go_code f) refl k in
    omega (arith, k1)

module _ (homes : Homes) (ir : Ir) (p q : Places) (same : p.reaches ≡ q.reaches) (f pc : ℕ) where
  abbrev l : Layout
  l = layout_with homes ir p

  abbrev m : Layout
  m = layout_with homes ir q

  by_reach : (x y : Reach → List Instr) → ((r : Reach) → length (x r) ≡ length (y r)) → length (x (l.reach f)) ≡ length (y (m.reach f))
  by_reach x y each = ap (λ rs. length (x (reach_or_long (slice_get rs f)))) same ∙ each (m.reach f)

  pub template_width : (x : Op) → length (template l f pc x) ≡ length (template m f pc x)
  template_width (op.Constant to w) = refl
  template_width (op.Copy to a) = refl
  template_width (op.Zero to n) = refl
  template_width (op.Result to n) = refl
  template_width (op.Word k s to a b) = refl
  template_width (op.WordBy k s to a w) = refl
  template_width (op.Complement to a) = refl
  template_width (op.IsZero to a) = refl
  template_width (op.IsLongSet to a) = refl
  template_width (op.Convert i j to a) = refl
  template_width (op.Extract to a k n) = refl
  template_width (op.Offset to a n) = refl
  template_width (op.Advance k n to a b) = refl
  template_width (op.Between n to a b) = refl
  template_width (op.GetPrivate to j) = refl
  template_width (op.PutPrivate j a) = refl
  template_width (op.Leave n) = refl
  template_width (op.Load to a n k) = refl
  template_width (op.Store a n k b) = refl
  template_width (op.LoadUnits to a n y) = refl
  template_width (op.StoreUnits a n y b) = refl
  template_width (op.ClearUnits a n y) = refl
  template_width (op.Alloc to n k) = refl
  template_width (op.Free a k) = refl
  template_width (op.NewChan to n k) = refl
  template_width (op.FreeChan a) = refl
  template_width (op.CanRecv to a) = refl
  template_width (op.CanSend to a) = refl
  template_width (op.Talk bs r to g) = refl
  template_width (op.Proc g a n) = refl
  template_width (op.Task g a n) = refl
  template_width (op.Par gs a n r) = refl
  template_width (op.PutByte b) = refl
  template_width (op.PutCharacter a) = refl
  template_width (op.PutDecimal s a) = refl
  template_width (op.PutLongDecimal s a) = refl
  template_width (op.PutHex a) = refl
  template_width (op.PutLongHex a) = refl
  template_width (op.PutText a) = refl
  template_width op.Print = refl
  template_width (op.Terminate a) = refl
  template_width (op.Trap t) = refl
  template_width (op.Long k s to a b) = long_width l.routine m.routine k s (homes f to) (homes f (to + 1)) (homes f a) (homes f (a + 1)) (homes f b) (homes f (b + 1))
  template_width (op.Skip n) = by_reach (λ r. jump_code r (l.at f pc) (l.at f (pc + 1 + n))) (λ r. jump_code r (m.at f pc) (m.at f (pc + 1 + n))) (λ r. jump_width r (l.at f pc) (l.at f (pc + 1 + n)) (m.at f pc) (m.at f (pc + 1 + n)))
  template_width (op.SkipIfZero a n) = by_reach (λ r. skip_code r Beq (homes f a) (l.at f pc) (l.at f (pc + 1 + n))) (λ r. skip_code r Beq (homes f a) (m.at f pc) (m.at f (pc + 1 + n))) (λ r. skip_width r Beq (homes f a) (l.at f pc) (l.at f (pc + 1 + n)) (m.at f pc) (m.at f (pc + 1 + n)))
  template_width (op.SkipIfSet a n) = by_reach (λ r. skip_code r Bne (homes f a) (l.at f pc) (l.at f (pc + 1 + n))) (λ r. skip_code r Bne (homes f a) (m.at f pc) (m.at f (pc + 1 + n))) (λ r. skip_width r Bne (homes f a) (l.at f pc) (l.at f (pc + 1 + n)) (m.at f pc) (m.at f (pc + 1 + n)))
  template_width (op.SkipUnless k s a b n) = by_reach (λ r. skip_unless_code r k s (homes f a) (homes f b) (l.at f pc) (l.at f (pc + 1 + n))) (λ r. skip_unless_code r k s (homes f a) (homes f b) (m.at f pc) (m.at f (pc + 1 + n))) (λ r. skip_unless_width r k s (homes f a) (homes f b) (l.at f pc) (l.at f (pc + 1 + n)) (m.at f pc) (m.at f (pc + 1 + n)))
  template_width (op.GoTo to) = by_reach (λ r. jump_code r (l.at f pc) (l.at f to)) (λ r. jump_code r (m.at f pc) (m.at f to)) (λ r. jump_width r (l.at f pc) (l.at f to) (m.at f pc) (m.at f to))
  template_width (op.Back n) = by_reach (λ r. turn_to r (l.at f pc) (l.at f (pc - n))) (λ r. turn_to r (m.at f pc) (m.at f (pc - n))) (λ r. turn_width r (l.at f pc) (l.at f (pc - n)) (m.at f pc) (m.at f (pc - n)))
  template_width (op.Turn to) = by_reach (λ r. turn_to r (l.at f pc) (l.at f to)) (λ r. turn_to r (m.at f pc) (m.at f to)) (λ r. turn_width r (l.at f pc) (l.at f to) (m.at f pc) (m.at f to))
  template_width (op.Invoke g a) = invoke_width (homes f) (l.stack f) (l.stack g) (l.entry g) (m.entry g) a (l.arguments g)
  template_width (op.InvokePointer class a from) =
      let x : ℕ → List Instr = λ d. link_code d ++ (found_test ++ (turn_code ++ (found_stack_test (l.stack f)
      ++ (pass (homes f) from (l.stack f) (l.class_arguments class) ++ (up_code (l.stack f) ++ (Jalr 1 6 (pos 0) ∷ down_code (l.stack f))))))) in
      both (bring (homes f a) 10) (x (l.dispatcher class)) (bring (homes f a) 10) (x (m.dispatcher class)) refl refl
  template_width (op.Become g a) = become_width (homes f) (l.slots f) (l.stack g) (l.entry g) (m.entry g) a (l.arguments g)
