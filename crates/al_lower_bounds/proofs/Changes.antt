-- The operations of expressions that change variables, store, call, communicate or print are in one line if those of their parts are.
use Rattle.std.proofs.Common.{ℕ, ◌+◌, Bool, true, false, if◌then◌else◌, List, [], ◌∷◌, ◌++◌, Option, Some, None}
use Rattle.std.specs.Prelude.{◌&&◌, not}
use Rattle.al_base.specs.declared.arith.Kind.{Kind}
use Rattle.al_typed.specs.declared.ty.Ty.{Ty}
use Rattle.al_typed.specs.declared.expression.Change.{Change}
use Rattle.al_typed.specs.declared.expression.Change.TheVariants as change
use Rattle.al_typed.specs.declared.expression.StepOp.{StepOp}
use Rattle.al_typed.specs.declared.expression.Passed.{Passed}
use Rattle.al_typed.specs.declared.expression.Passed.TheVariants as passed
use Rattle.al_typed.specs.declared.expression.PrintPiece.{PrintPiece}
use Rattle.al_typed.specs.declared.expression.PrintPiece.TheVariants as print
use Rattle.al_meaning.specs.Shown.{kind_of}
use Rattle.al_meaning.specs.Here.{pointee}
use Rattle.al_meaning.specs.Evaluate.{goes_back}
use Rattle.al_ir.specs.declared.ir.Operation.{Operation}
use Rattle.al_ir.specs.declared.op.Op.TheVariants as op
use Rattle.al_lower_code.specs.Homes.{Spot, operation, size, units, words}
use Rattle.al_lower_code.specs.Moving.{moves, Where, copies, home_of, read_code, save_code, trims, zeros}
use Rattle.al_lower_code.specs.Operators.{is_long, operator, operator_by, step_bytes, step_code}
use Rattle.al_lower_code.specs.Coded.{Aimed, Coded, Given, Placed, Row, operand_code, operand_slot, valued}
use Rattle.al_lower_code.specs.Values.{constant_right, pair_code}
use Rattle.al_lower_code.specs.Actions.{steps_home, updated_slot, aimed_with, arguments_code, assign_coded, assigned_slot, assigns_one, assigns_parts, before_change, behind_change, call_coded, call_pointer_coded, calling, can_receive_coded, can_send_coded, change_code, changed_home, changing, clears_place, clears_variable, gives_old, is_direct, no_aimed, no_object, object_at, object_in, pieces_code, print_coded, put_decimal, put_hex, receive_coded, send_coded, single_aimed, stepped_coded, steps_place, steps_variable, terminate_coded, update_coded, updates, updates_home, updates_place, zerox_coded}
use Rattle.al_lower_bounds.proofs.Forms.{InLine, IsAimed, IsGiven, IsPlaced, IsRow, IsSingle, member_value_at, operand_at, pair_at, plain_at}
use Rattle.al_lower_bounds.proofs.Pieces.{address_at, AreAt, chosen, clear_at, copies_at, either, joined, more, moves_at, none, one, read_at, results_at, save_at, steps_at, trims_at, zeros_at}

module _ (s : Spot) where
  -- ---- targets

  pub single_at : (t : Ty) (pl : Placed) → IsPlaced s pl → IsAimed s (single_aimed s t pl)
  single_at t pl h = record { single = h; code = λ to. h true to; save = λ to from. save_at s t (pl.at true to) from }

  pub no_aimed_at : IsAimed s no_aimed
  no_aimed_at = record { single = tt; code = λ to. none; save = λ to from. none }

  pub aimed_with_at : (n : ℕ) (a rest : Aimed) → IsAimed s a → IsAimed s rest → IsAimed s (aimed_with n a rest)
  aimed_with_at n a rest h r = record {
    single = tt;
    code = λ to. joined (a.code to) (h.code to) (r.code (to + a.count));
    save = λ to from. joined (a.save to from) (h.save to from) (r.save (to + a.count) (from + n));
  }

  -- ---- changes

  changing_at : (t : Ty) (does : (to : ℕ) → List Operation) (slot : (to : ℕ) → ℕ) → ((to : ℕ) → AreAt s.line (does to)) → InLine s (changing s t does slot)
  changing_at t does slot h =
      let p = plain_at s t None false false _ (λ dest to. joined (does to) (h to) (moves_at s.line dest (slot to) (words s t))) in
      record { value = p.value; effect = h; unless = p.unless; pointer = p.pointer }

  pub assigns_one_at : (t : Ty) (pl : Placed) (c : Coded) → IsPlaced s pl → InLine s c → (to : ℕ) → AreAt s.line (assigns_one s t pl c to)
  assigns_one_at t pl c h k to =
      let lasting = not c.keeps in
      joined (pl.code lasting to) (h lasting to)
      (either (home_of (pl.at lasting to)) (λ home. c.value home (to + 1)) (operand_code c (to + 1) ++ save_code s t (pl.at lasting to) (operand_slot c (to + 1)))
      (λ home. k.value home (to + 1)) (joined (operand_code c (to + 1)) (operand_at s c k (to + 1)) (save_at s t (pl.at lasting to) (operand_slot c (to + 1)))))

  assigns_parts_at : (a : Aimed) (c : Coded) → IsAimed s a → InLine s c → (to : ℕ) → AreAt s.line (assigns_parts a c to)
  assigns_parts_at a c h k to =
      joined (a.code to) (h.code to) (joined (c.value (to + a.count) (to + a.count)) (k.value (to + a.count) (to + a.count)) (h.save to (to + a.count)))

  pub assign_at : (t : Ty) (a : Aimed) (c : Coded) → IsAimed s a → InLine s c → InLine s (assign_coded s t a c)
  assign_at t a c h k = on a.single h.single
    where
      on : (o : Option Placed) → IsSingle s o → InLine s (elim o [ Some pl ↦ changing s t (assigns_one s t pl c) (assigned_slot pl c) | None ↦ changing s t (assigns_parts a c) (λ to. to + a.count) ])
      on (Some pl) p = changing_at t (assigns_one s t pl c) (assigned_slot pl c) (assigns_one_at t pl c p k)
      on None p = changing_at t (assigns_parts a c) (λ to. to + a.count) (assigns_parts_at a c h k)

  -- ---- `op=`

  before_at : (t : Ty) (how : Change) (at : ℕ) → AreAt s.line (before_change s t how at)
  before_at t (change.Apply how k) at = chosen (is_direct t (change.Apply how k)) none one
  before_at t (change.Move back) at = none

  behind_at : (t : Ty) (how : Change) (at : ℕ) → AreAt s.line (behind_change s t how at)
  behind_at t (change.Apply how k) at = chosen (is_direct t (change.Apply how k)) none one
  behind_at t (change.Move back) at = none

  change_at : (t : Ty) (how : Change) (c : Coded) → InLine s c → (new old to : ℕ) → AreAt s.line (change_code s t how c new old to)
  change_at t (change.Apply how k) c h new old to =
      either (constant_right how k c) (λ bits. operation s.line (operator_by how k new old bits) ∷ []) (operand_code c to ++ operation s.line (operator how k new old (operand_slot c to)) ∷ [])
      (λ bits. one) (joined (operand_code c to) (operand_at s c h to) one)
  change_at t (change.Move back) c h new old to =
      either c.known (λ n. operation s.line (op.Offset new old (step_bytes back (size s (pointee t)) n)) ∷ []) (operand_code c to ++ operation s.line (op.Advance back (size s (pointee t)) new old (operand_slot c to)) ∷ [])
      (λ n. one) (joined (operand_code c to) (operand_at s c h to) one)

  updates_home_at : (t : Ty) (how : Change) (c : Coded) → InLine s c → (home to : ℕ) → AreAt s.line (updates_home s t how c home to)
  updates_home_at t how c h home to =
      chosen c.keeps (change_at t how c h home home (to + 3)) (joined (copies s.line (to + 1) home (words s t)) (copies_at s.line (to + 1) home (words s t)) (change_at t how c h home (to + 1) (to + 3)))

  updates_place_at : (t : Ty) (how : Change) (c : Coded) → InLine s c → (at : Where) (to : ℕ) → AreAt s.line (updates_place s t how c at to)
  updates_place_at t how c h at to =
      joined (read_code s t at (to + 1)) (read_at s t at (to + 1))
      (joined (before_change s t how (to + 1)) (before_at t how (to + 1))
      (joined (change_code s t how c (to + 1) (to + 1) (to + 3)) (change_at t how c h (to + 1) (to + 1) (to + 3))
      (joined (behind_change s t how (to + 1)) (behind_at t how (to + 1)) (save_at s t at (to + 1)))))

  updates_at : (t : Ty) (pl : Placed) (how : Change) (c : Coded) → IsPlaced s pl → InLine s c → (to : ℕ) → AreAt s.line (updates s t pl how c to)
  updates_at t pl how c h k to =
      let at = pl.at (not c.keeps) to in
      joined (pl.code (not c.keeps) to) (h (not c.keeps) to)
      (either (changed_home t how at) (λ home. updates_home s t how c home to) (updates_place s t how c at to) (λ home. updates_home_at t how c k home to) (updates_place_at t how c k at to))

  pub update_at : (t : Ty) (pl : Placed) (how : Change) (c : Coded) → IsPlaced s pl → InLine s c → InLine s (update_coded s t pl how c)
  update_at t pl how c h k = changing_at t (updates s t pl how c) (updated_slot t pl how c) (updates_at t pl how c h k)

  -- ---- `++`, `--`, zerox

  steps_place_at : (t : Ty) (how : StepOp) (pl : Placed) → IsPlaced s pl → (new to : ℕ) → AreAt s.line (steps_place s t how pl new to)
  steps_place_at t how pl h new to =
      let at = pl.at false to in
      joined (pl.code false to) (h false to)
      (joined (read_code s t at (to + 1)) (read_at s t at (to + 1))
      (joined (step_code s (goes_back how) t new (to + 1) (to + 1 + words s t)) (steps_at s (goes_back how) t new (to + 1) (to + 1 + words s t)) (save_at s t at new)))

  steps_variable_at : (t : Ty) (how : StepOp) (home : ℕ) → InLine s (steps_variable s t how home)
  steps_variable_at t how home = on (gives_old how)
    where
      on : (b : Bool) → InLine s (if b then record (valued s t false (λ dest to. copies s.line to home (words s t) ++ (steps_home s t how home (to + words s t) ++ moves s.line dest to (words s t)))) { effect = steps_home s t how home } else changing s t (steps_home s t how home) (λ to. home))
      on true =
          let p = plain_at s t None false false _ (λ dest to. joined (copies s.line to home (words s t)) (copies_at s.line to home (words s t)) (joined (steps_home s t how home (to + words s t)) (steps_at s (goes_back how) t home home (to + words s t)) (moves_at s.line dest to (words s t)))) in
          record { value = p.value; effect = λ to. steps_at s (goes_back how) t home home to; unless = p.unless; pointer = p.pointer }
      on false = changing_at t (steps_home s t how home) (λ to. home) (λ to. steps_at s (goes_back how) t home home to)

  pub stepped_at : (t : Ty) (how : StepOp) (pl : Placed) → IsPlaced s pl → InLine s (stepped_coded s t how pl)
  stepped_at t how pl h = on (home_of (pl.at false 0))
    where
      on : (o : Option ℕ) → InLine s (elim o [ Some home ↦ steps_variable s t how home | None ↦ changing s t (λ to. steps_place s t how pl (if gives_old how then to + 1 + words s t else to + 1) to) (λ to. to + 1) ])
      on (Some home) = steps_variable_at t how home
      on None = changing_at t _ (λ to. to + 1) (λ to. steps_place_at t how pl h (if gives_old how then to + 1 + words s t else to + 1) to)

  clears_place_at : (t : Ty) (pl : Placed) → IsPlaced s pl → (to : ℕ) → AreAt s.line (clears_place s t pl to)
  clears_place_at t pl h to =
      let at = pl.at false to in
      joined (pl.code false to) (h false to) (joined (read_code s t at (to + 1)) (read_at s t at (to + 1)) (clear_at s t at (to + 1 + words s t)))

  clears_variable_at : (t : Ty) (home : ℕ) → InLine s (clears_variable s t home)
  clears_variable_at t home =
      let n = words s t in
      let p = plain_at s t None false false _ (λ dest to. joined (copies s.line to home n) (copies_at s.line to home n) (joined (zeros s.line home n) (zeros_at s.line home n) (moves_at s.line dest to n))) in
      record { value = p.value; effect = λ to. zeros_at s.line home n; unless = p.unless; pointer = p.pointer }

  pub zerox_at : (t : Ty) (pl : Placed) → IsPlaced s pl → InLine s (zerox_coded s t pl)
  zerox_at t pl h = on (home_of (pl.at false 0))
    where
      on : (o : Option ℕ) → InLine s (elim o [ Some home ↦ clears_variable s t home | None ↦ changing s t (clears_place s t pl) (λ to. to + 1) ])
      on (Some home) = clears_variable_at t home
      on None = changing_at t (clears_place s t pl) (λ to. to + 1) (clears_place_at t pl h)

  -- ---- calls

  pub no_object_at : IsGiven s no_object
  no_object_at to = none

  pub object_place_at : (how : Passed) (t : Ty) (pl : Placed) → IsPlaced s pl → IsGiven s (object_at s how t pl)
  object_place_at passed.Address t pl h to = joined (pl.code false to) (h false to) (address_at s (pl.at false to) to)
  object_place_at passed.Value t pl h to = joined (pl.code false (to + words s t)) (h false (to + words s t)) (read_at s t (pl.at false (to + words s t)) to)
  object_place_at passed.Nothing t pl h to = h false to

  pub object_value_at : (how : Passed) (whole part : Ty) (path : List ℕ) (c : Coded) → InLine s c → IsGiven s (object_in s how whole part path c)
  object_value_at passed.Value whole part path c h to = member_value_at s whole part path c h to to
  object_value_at passed.Address whole part path c h to = h.effect to
  object_value_at passed.Nothing whole part path c h to = h.effect to

  pub arguments_at : (g : Given) (r : Row) → IsGiven s g → IsRow s r → (to : ℕ) → AreAt s.line (arguments_code g r to)
  arguments_at g r h k to = joined (g.code to) (h to) (k.values (to + g.words))

  calling_at : (t : Ty) (keeps : Bool) (does : (to : ℕ) → List Operation) → ((to : ℕ) → AreAt s.line (does to)) → InLine s (calling s t keeps does)
  calling_at t keeps does h =
      let p = plain_at s t None keeps false _ (λ dest to. joined (does to) (h to) (results_at s.line dest 0 (words s t))) in
      record { value = p.value; effect = h; unless = p.unless; pointer = p.pointer }

  pub call_at : (t : Ty) (function : ℕ) (g : Given) (r : Row) → IsGiven s g → IsRow s r → InLine s (call_coded s t function g r)
  call_at t function g r h k = calling_at t (g.keeps && r.keeps) _ (λ to. joined (arguments_code g r to) (arguments_at g r h k to) one)

  pub call_pointer_at : (t : Ty) (class : ℕ) (c : Coded) (r : Row) → InLine s c → IsRow s r → InLine s (call_pointer_coded s t class c r)
  call_pointer_at t class c r h k =
      calling_at t (c.keeps && r.keeps) _ (λ to. joined (c.value to to) (h.value to to) (joined (r.values (to + 1)) (k.values (to + 1)) one))

  -- ---- print, terminate

  decimal_at : (signed : Bool) (k : Kind) (at : ℕ) → AreAt s.line (put_decimal s signed k at)
  decimal_at signed k at = chosen (is_long k) one one

  hex_at : (k : Kind) (at : ℕ) → AreAt s.line (put_hex s k at)
  hex_at k at = chosen (is_long k) one one

  pieces_at : (format : List PrintPiece) (ts : List Ty) (at : ℕ) → AreAt s.line (pieces_code s format ts at)
  pieces_at [] ts at = one
  pieces_at (print.Byte b ∷ rest) ts at = (more (pieces_at rest ts at))
  pieces_at (print.Percent ∷ rest) ts at = (more (pieces_at rest ts at))
  pieces_at (print.Text ∷ rest) (t ∷ ts) at = (more (pieces_at rest ts (at + words s t)))
  pieces_at (print.Signed ∷ rest) (t ∷ ts) at = joined (put_decimal s true (kind_of t) at) (decimal_at true (kind_of t) at) (pieces_at rest ts (at + words s t))
  pieces_at (print.Unsigned ∷ rest) (t ∷ ts) at = joined (put_decimal s false (kind_of t) at) (decimal_at false (kind_of t) at) (pieces_at rest ts (at + words s t))
  pieces_at (print.Hexadecimal ∷ rest) (t ∷ ts) at = joined (put_hex s (kind_of t) at) (hex_at (kind_of t) at) (pieces_at rest ts (at + words s t))
  pieces_at (print.Character ∷ rest) (t ∷ ts) at = (more (pieces_at rest ts (at + words s t)))
  pieces_at (_ ∷ rest) [] at = none

  pub print_at : (t : Ty) (format : List PrintPiece) (ts : List Ty) (r : Row) → IsRow s r → InLine s (print_coded s t format ts r)
  print_at t format ts r h = plain_at s t None r.keeps false _ (λ dest to. joined (r.values to) (h.values to) (pieces_at format ts to))

  pub terminate_at : (t : Ty) (c : Coded) → InLine s c → InLine s (terminate_coded s t c)
  terminate_at t c h = plain_at s t None c.keeps false _ (λ dest to. joined (operand_code c to) (operand_at s c h to) one)

  -- ---- channels

  pub receive_at : (t : Ty) (c : Coded) → InLine s c → InLine s (receive_coded s t c)
  receive_at t c h =
      plain_at s t None c.keeps false _ (λ dest to. joined (operand_code c to) (operand_at s c h to) (more (joined (trims s.line (to + 6) (units s t)) (trims_at s.line (to + 6) (units s t)) (moves_at s.line dest (to + 6) (words s t)))))

  pub send_at : (t v : Ty) (chan c : Coded) → InLine s chan → InLine s c → InLine s (send_coded s t v chan c)
  send_at t v chan c h k = plain_at s t None (chan.keeps && c.keeps) false _ (λ dest to. joined (pair_code 1 chan c to) (pair_at s 1 chan c h k to) one)

  pub can_receive_at : (t : Ty) (c : Coded) → InLine s c → InLine s (can_receive_coded s t c)
  can_receive_at t c h = plain_at s t None c.keeps true _ (λ dest to. joined (operand_code c to) (operand_at s c h to) one)

  pub can_send_at : (t : Ty) (c : Coded) → InLine s c → InLine s (can_send_coded s t c)
  can_send_at t c h = plain_at s t None c.keeps true _ (λ dest to. joined (operand_code c to) (operand_at s c h to) one)
