-- Each step that is no turn leaves fewer operations to be done before the next turn or action.
use Rattle.std.proofs.Common.{◌≡◌, ◌<◌, refl, subst, arith}
use Rattle.std.proofs.lemmas.Option.{slice_get_within}
use Rattle.std.specs.Prelude.{ℕ, ◌+◌, ◌-◌, ◌*◌, ◌/◌, ◌%◌, ◌^◌, ◌==◌, nat_lt, Bool, true, false, if◌then◌else◌, List, [], ◌∷◌, ◌++◌, map, length, replicate, Option, Some, None, slice_index, slice_set}
use Rattle.std.specs.Int.{cast_signed, w32}
use Rattle.std.specs.Fmt.{digits}
use Rattle.al_base.specs.Arith.{applied}
use Rattle.al_base.specs.declared.trap.Trap.TheVariants as trap
use Rattle.al_event.specs.declared.act.Act.{Act}
use Rattle.al_event.specs.declared.act.Act.TheVariants as act
use Rattle.al_world.specs.Turns.{Moves, Turns, Asks}
use Rattle.al_typed.specs.declared.layout.Unit.{Unit as StorageUnit}
use Rattle.al_meaning.specs.Words.{sum, stepped_by, elements_between}
use Rattle.al_meaning.specs.Shown.{most_text}
use Rattle.al_ir.specs.declared.ir.Operation.{Operation}
use Rattle.al_ir.specs.declared.ir.Ir.{Ir}
use Rattle.al_ir.specs.declared.op.Op.{Op}
use Rattle.al_ir.specs.declared.op.Op.TheVariants.{Constant, Copy, Zero, Result as Result_, Word as Word_, WordBy, Long, Complement, IsZero, IsLongSet, Convert, Extract, Offset, Advance, Between, GetPrivate, PutPrivate, Skip, SkipIfZero, SkipIfSet, SkipUnless, GoTo, Back, Turn, Invoke, InvokePointer, Become, Leave, Load, Store, LoadUnits, StoreUnits, ClearUnits, Alloc, Free, NewChan, FreeChan, CanRecv, CanSend, Talk, Proc, Task, Par, PutByte, PutCharacter, PutDecimal, PutLongDecimal, PutHex, PutLongHex, PutText, Print, Terminate, Trap as Trap_}
use Rattle.al_ir.specs.Control.{put, put_all, words_at, Frame, Entering, Nowhere, Word, Branch, Byte, Control, function_at, code_of, operation_at}
use Rattle.al_ir.specs.Step.{Here, Next, control_at, goes_to, moves, sets, sets_all, asks, traps, lost, known, with_unit, next_unit, unit_place, asks_unit, stores_unit, with_slot, with_pair, word_kind, long_kind, long_words, pair, or_divides, kind_words, converted_words, one_if, zero_if, skips_if, forward, named_in, class_of, invokes_found, branches_of, forgetting, composes, decimal_of, scans, step_op, step_at, step_frames, step_entering, private_step}
use Rattle.al_ir.specs.Meaning.{weight_entering, frames_weight, control_weight}

same_control : (c d : Control) (u v : List ℕ) → Moves c u ≡ Moves d v → c ≡ d
same_control c d u v e = cc

module _ (ir : Ir) where
  -- where it goes on, fewer than n operations are left
  record Lowers (n : ℕ) (m : Next) : Type 0 where
    by : (d : Control) (v : List ℕ) → m ≡ Moves d v → control_weight ir d < n

  asks_lowers : (n : ℕ) {a : Act} {line : ℕ} {c : Control} {u : List ℕ} → Lowers n (Asks a line c u)
  asks_lowers n = record { by = λ d v e. absurd (cc) }

  turns_lowers : (n : ℕ) {line : ℕ} {c : Control} {u : List ℕ} → Lowers n (Turns line c u)
  turns_lowers n = record { by = λ d v e. absurd (cc) }

  move_lowers : (n : ℕ) (c : Control) (u : List ℕ) → control_weight ir c < n → Lowers n (Moves c u)
  move_lowers n c u lt = record { by = λ d v e. subst (λ x. control_weight ir x < n) (same_control c d u v e) lt }

  goes_lowers : (n to : ℕ) (h : Here) → length (code_of (function_at ir h.function)) - to < n → Lowers n (goes_to to h)
  goes_lowers n to h lt = move_lowers n _ _ lt

  moves_lowers : (n : ℕ) (h : Here) → length (code_of (function_at ir h.function)) - h.pc ≡ n → h.pc < length (code_of (function_at ir h.function)) → Lowers n (moves h)
  moves_lowers n h q lt = goes_lowers n (h.pc + 1) h (omega (arith, q, lt))

  known_lowers : (n : ℕ) {A : Type 0} (h : Here) (o : Option A) (k : A → Next) → ((a : A) → Lowers n (k a)) → Lowers n (known h o k)
  known_lowers n h (Some a) k r = r a
  known_lowers n h None k r = asks_lowers n

  divides_lowers : (n : ℕ) (h : Here) (o : Option ℕ) (k : ℕ → Next) → ((a : ℕ) → Lowers n (k a)) → Lowers n (or_divides h o k)
  divides_lowers n h (Some a) k r = r a
  divides_lowers n h None k r = asks_lowers n

  if_lowers : (n : ℕ) (b : Bool) (x y : Next) → Lowers n x → Lowers n y → Lowers n (if b then x else y)
  if_lowers n true x y p r = p
  if_lowers n false x y p r = r

  module _ (n : ℕ) (h : Here) (q : length (code_of (function_at ir h.function)) - h.pc ≡ n) (lt : h.pc < length (code_of (function_at ir h.function))) where
    skip_lowers : (b : Bool) (count : ℕ) → Lowers n (skips_if b count h)
    skip_lowers true count = goes_lowers n _ h (omega (arith, q, lt))
    skip_lowers false count = moves_lowers n h q lt

    forward_lowers : (to : ℕ) → Lowers n (forward to h)
    forward_lowers to = on (nat_lt h.pc to) refl
      where
        on : (b : Bool) → nat_lt h.pc to ≡ b → Lowers n (if b then goes_to to h else lost h)
        on true e = let less : h.pc < to = grind (arith, e) in goes_lowers n to h (omega (arith, q, lt, less))
        on false e = asks_lowers n

    unit_lowers : (o : Option StorageUnit) (k : StorageUnit → Next) → ((u : StorageUnit) → Lowers n (k u)) → Lowers n (with_unit h o k)
    unit_lowers (Some u) k r = r u
    unit_lowers None k r = moves_lowers n h q lt

    found_lowers : (o : Option ℕ) (t : ℕ) → Lowers n (invokes_found o t h)
    found_lowers (Some f) t = turns_lowers n
    found_lowers None t = asks_lowers n

    composes_lowers : (bytes : List ℕ) → Lowers n (composes bytes h)
    composes_lowers bytes = if_lowers n (nat_lt most_text (length h.text + length bytes)) (traps trap.Print h) (moves (record h { text = h.text ++ bytes })) (asks_lowers n) (moves_lowers n (record h { text = h.text ++ bytes }) q lt)

    scans_lowers : (t a : ℕ) → Lowers n (scans t a h)
    scans_lowers t a = if_lowers n (nat_lt most_text (length h.text)) (traps trap.Print h) (Asks (act.Load a 1) h.line (control_at h.pc (Byte t a) h) h.privates) (asks_lowers n) (asks_lowers n)

    step_op_lowers : (o : Op) → Lowers n (step_op o h)
    step_op_lowers (Constant to w) = moves_lowers n (record h { slots = put to w h.slots }) q lt
    step_op_lowers (Copy to from) = known_lowers n h (h.slots from) (λ w. sets to w h) (λ w. moves_lowers n (record h { slots = put to w h.slots }) q lt)
    step_op_lowers (Zero to count) = moves_lowers n (record h { slots = put_all to (replicate count 0) h.slots }) q lt
    step_op_lowers (Result_ to word) = known_lowers n h (h.last word) (λ w. sets to w h) (λ w. moves_lowers n (record h { slots = put to w h.slots }) q lt)
    step_op_lowers (Word_ op signed to left right) = known_lowers n h (h.slots left) (λ x. with_slot h right (λ y. or_divides h (applied op (word_kind signed) x y) (λ z. sets to z h))) (λ x. known_lowers n h (h.slots right) (λ y. or_divides h (applied op (word_kind signed) x y) (λ z. sets to z h)) (λ y. divides_lowers n h (applied op (word_kind signed) x y) (λ z. sets to z h) (λ z. moves_lowers n (record h { slots = put to z h.slots }) q lt)))
    step_op_lowers (WordBy op signed to left w) = known_lowers n h (h.slots left) (λ x. or_divides h (applied op (word_kind signed) x w) (λ z. sets to z h)) (λ x. divides_lowers n h (applied op (word_kind signed) x w) (λ z. sets to z h) (λ z. moves_lowers n (record h { slots = put to z h.slots }) q lt))
    step_op_lowers (Long op signed to left right) = known_lowers n h (h.slots left) (λ l. with_slot h (left + 1) (λ m. with_pair h right (λ y. or_divides h (applied op (long_kind signed) (pair l m) y) (λ z. sets_all to (long_words op z) h)))) (λ l. known_lowers n h (h.slots (left + 1)) (λ m. with_pair h right (λ y. or_divides h (applied op (long_kind signed) (pair l m) y) (λ z. sets_all to (long_words op z) h))) (λ m. known_lowers n h (h.slots right) (λ r. with_slot h (right + 1) (λ t. or_divides h (applied op (long_kind signed) (pair l m) (pair r t)) (λ z. sets_all to (long_words op z) h))) (λ r. known_lowers n h (h.slots (right + 1)) (λ t. or_divides h (applied op (long_kind signed) (pair l m) (pair r t)) (λ z. sets_all to (long_words op z) h)) (λ t. divides_lowers n h (applied op (long_kind signed) (pair l m) (pair r t)) (λ z. sets_all to (long_words op z) h) (λ z. moves_lowers n (record h { slots = put_all to (long_words op z) h.slots }) q lt)))))
    step_op_lowers (Complement to from) = known_lowers n h (h.slots from) (λ w. sets to (2 ^ 32 - 1 - w) h) (λ w. moves_lowers n (record h { slots = put to (2 ^ 32 - 1 - w) h.slots }) q lt)
    step_op_lowers (IsZero to from) = known_lowers n h (h.slots from) (λ w. sets to (one_if (w == 0)) h) (λ w. moves_lowers n (record h { slots = put to (one_if (w == 0)) h.slots }) q lt)
    step_op_lowers (IsLongSet to from) = known_lowers n h (h.slots from) (λ l. with_slot h (from + 1) (λ m. sets to (zero_if ((pair l m) == 0)) h)) (λ l. known_lowers n h (h.slots (from + 1)) (λ m. sets to (zero_if ((pair l m) == 0)) h) (λ m. moves_lowers n (record h { slots = put to (zero_if ((pair l m) == 0)) h.slots }) q lt))
    step_op_lowers (Convert from kind to of) = known_lowers n h (words_at h.slots of (kind_words from)) (λ ws. sets_all to (converted_words from kind ws) h) (λ ws. moves_lowers n (record h { slots = put_all to (converted_words from kind ws) h.slots }) q lt)
    step_op_lowers (Extract to from skip size) = known_lowers n h (h.slots from) (λ w. sets to (w / 256 ^ skip % 256 ^ size) h) (λ w. moves_lowers n (record h { slots = put to (w / 256 ^ skip % 256 ^ size) h.slots }) q lt)
    step_op_lowers (Offset to from bytes) = known_lowers n h (h.slots from) (λ w. sets to (sum w bytes) h) (λ w. moves_lowers n (record h { slots = put to (sum w bytes) h.slots }) q lt)
    step_op_lowers (Advance back size to pointer count) = known_lowers n h (h.slots pointer) (λ x. with_slot h count (λ y. sets to (stepped_by back size x y) h)) (λ x. known_lowers n h (h.slots count) (λ y. sets to (stepped_by back size x y) h) (λ y. moves_lowers n (record h { slots = put to (stepped_by back size x y) h.slots }) q lt))
    step_op_lowers (Between size to left right) = known_lowers n h (h.slots left) (λ x. with_slot h right (λ y. sets to (elements_between size x y) h)) (λ x. known_lowers n h (h.slots right) (λ y. sets to (elements_between size x y) h) (λ y. moves_lowers n (record h { slots = put to (elements_between size x y) h.slots }) q lt))
    step_op_lowers (GetPrivate to place) = moves_lowers n (record h { slots = put to (slice_index h.privates place) h.slots }) q lt
    step_op_lowers (PutPrivate place from) = known_lowers n h (h.slots from) (λ w. moves (record h { privates = slice_set h.privates place w })) (λ w. moves_lowers n (record h { privates = slice_set h.privates place w }) q lt)
    step_op_lowers (Skip count) = goes_lowers n (h.pc + 1 + count) h (omega (arith, q, lt))
    step_op_lowers (SkipIfZero slot count) = known_lowers n h (h.slots slot) (λ w. skips_if (w == 0) count h) (λ w. skip_lowers (w == 0) count)
    step_op_lowers (SkipIfSet slot count) = known_lowers n h (h.slots slot) (λ w. if w == 0 then moves h else goes_to (h.pc + 1 + count) h) (λ w. if_lowers n (w == 0) (moves h) (goes_to (h.pc + 1 + count) h) (moves_lowers n h q lt) (goes_lowers n (h.pc + 1 + count) h (omega (arith, q, lt))))
    step_op_lowers (SkipUnless op signed left right count) = known_lowers n h (h.slots left) (λ x. with_slot h right (λ y. or_divides h (applied op (word_kind signed) x y) (λ z. skips_if (z == 0) count h))) (λ x. known_lowers n h (h.slots right) (λ y. or_divides h (applied op (word_kind signed) x y) (λ z. skips_if (z == 0) count h)) (λ y. divides_lowers n h (applied op (word_kind signed) x y) (λ z. skips_if (z == 0) count h) (λ z. skip_lowers (z == 0) count)))
    step_op_lowers (GoTo to) = forward_lowers to
    step_op_lowers (Back count) = turns_lowers n
    step_op_lowers (Turn to) = turns_lowers n
    step_op_lowers (Invoke function arguments) = turns_lowers n
    step_op_lowers (Become function arguments) = turns_lowers n
    step_op_lowers (Leave words) = turns_lowers n
    step_op_lowers (InvokePointer class pointer arguments) = known_lowers n h (h.slots pointer) (λ v. invokes_found (named_in v (class_of h.ir class)) arguments h) (λ v. found_lowers (named_in v (class_of h.ir class)) arguments)
    step_op_lowers (Load to at offset size) = known_lowers n h (h.slots at) (λ a. asks (act.Load (sum a offset) size) (Word to) h) (λ a. asks_lowers n)
    step_op_lowers (Store at offset size from) = known_lowers n h (h.slots at) (λ a. with_slot h from (λ w. asks (act.Store (sum a offset) size (w % 256 ^ size)) Nowhere h)) (λ a. known_lowers n h (h.slots from) (λ w. asks (act.Store (sum a offset) size (w % 256 ^ size)) Nowhere h) (λ w. asks_lowers n))
    step_op_lowers (LoadUnits to at offset layout) = known_lowers n h (h.slots at) (λ a. with_unit h (next_unit h layout) (λ u. asks_unit (act.Load (unit_place a offset u) u.size) (Word (to + h.unit)) h)) (λ a. unit_lowers (next_unit h layout) (λ u. asks_unit (act.Load (unit_place a offset u) u.size) (Word (to + h.unit)) h) (λ u. asks_lowers n))
    step_op_lowers (StoreUnits at offset layout from) = known_lowers n h (h.slots at) (λ a. with_unit h (next_unit h layout) (λ u. with_slot h (from + h.unit) (λ w. stores_unit (unit_place a offset u) u w h))) (λ a. unit_lowers (next_unit h layout) (λ u. with_slot h (from + h.unit) (λ w. stores_unit (unit_place a offset u) u w h)) (λ u. known_lowers n h (h.slots (from + h.unit)) (λ w. stores_unit (unit_place a offset u) u w h) (λ w. asks_lowers n)))
    step_op_lowers (ClearUnits at offset layout) = known_lowers n h (h.slots at) (λ a. with_unit h (next_unit h layout) (λ u. stores_unit (unit_place a offset u) u 0 h)) (λ a. unit_lowers (next_unit h layout) (λ u. stores_unit (unit_place a offset u) u 0 h) (λ u. asks_lowers n))
    step_op_lowers (Alloc to bytes kind) = asks_lowers n
    step_op_lowers (NewChan to capacity words) = asks_lowers n
    step_op_lowers (Free at kind) = known_lowers n h (h.slots at) (λ a. asks (act.Free a kind) Nowhere h) (λ a. asks_lowers n)
    step_op_lowers (FreeChan chan) = known_lowers n h (h.slots chan) (λ c. asks (act.FreeChan c) Nowhere h) (λ c. asks_lowers n)
    step_op_lowers (CanRecv to chan) = known_lowers n h (h.slots chan) (λ c. asks (act.CanRecv c) (Word to) h) (λ c. asks_lowers n)
    step_op_lowers (CanSend to chan) = known_lowers n h (h.slots chan) (λ c. asks (act.CanSend c) (Word to) h) (λ c. asks_lowers n)
    step_op_lowers (Talk branches records to got) = known_lowers n h (branches_of h.slots branches) (λ bs. asks (act.Talk bs) (Branch to got) (forgetting records (4 * length branches) h)) (λ bs. asks_lowers n)
    step_op_lowers (Proc function arguments words) = known_lowers n h (words_at h.slots arguments words) (λ ws. asks (act.Proc (record { code = function; words = ws })) Nowhere h) (λ ws. asks_lowers n)
    step_op_lowers (Task function arguments words) = known_lowers n h (words_at h.slots arguments words) (λ ws. asks (act.Task (record { code = function; words = ws })) Nowhere h) (λ ws. asks_lowers n)
    step_op_lowers (Par functions arguments words records) = known_lowers n h (words_at h.slots arguments words) (λ ws. asks (act.Par (map (λ f. record { code = f; words = ws }) functions)) Nowhere (forgetting records (3 * length functions) h)) (λ ws. asks_lowers n)
    step_op_lowers (PutByte byte) = composes_lowers (byte ∷ [])
    step_op_lowers (PutCharacter from) = known_lowers n h (h.slots from) (λ w. composes (w % 256 ∷ []) h) (λ w. composes_lowers (w % 256 ∷ []))
    step_op_lowers (PutDecimal signed from) = known_lowers n h (h.slots from) (λ w. composes (decimal_of signed 32 w) h) (λ w. composes_lowers (decimal_of signed 32 w))
    step_op_lowers (PutHex from) = known_lowers n h (h.slots from) (λ w. composes (digits 16 false w) h) (λ w. composes_lowers (digits 16 false w))
    step_op_lowers (PutLongDecimal signed from) = known_lowers n h (h.slots from) (λ l. with_slot h (from + 1) (λ m. composes (decimal_of signed 64 (pair l m)) h)) (λ l. known_lowers n h (h.slots (from + 1)) (λ m. composes (decimal_of signed 64 (pair l m)) h) (λ m. composes_lowers (decimal_of signed 64 (pair l m))))
    step_op_lowers (PutLongHex from) = known_lowers n h (h.slots from) (λ l. with_slot h (from + 1) (λ m. composes (digits 16 false (pair l m)) h)) (λ l. known_lowers n h (h.slots (from + 1)) (λ m. composes (digits 16 false (pair l m)) h) (λ m. composes_lowers (digits 16 false (pair l m))))
    step_op_lowers (PutText at) = known_lowers n h (h.slots at) (λ a. scans at a h) (λ a. scans_lowers at a)
    step_op_lowers Print = asks_lowers n
    step_op_lowers (Terminate status) = known_lowers n h (h.slots status) (λ w. asks (act.Terminate (cast_signed w32 w)) Nowhere h) (λ w. asks_lowers n)
    step_op_lowers (Trap_ t) = asks_lowers n

  at_lowers : (c : Control) (f : Frame) (below : List Frame) (o : Option Operation) (u : List ℕ) → operation_at ir f.function f.pc ≡ o → Lowers (length (code_of (function_at ir f.function)) - f.pc) (step_at ir c f below o u)
  at_lowers c f below (Some o) u e = step_op_lowers (length (code_of (function_at ir f.function)) - f.pc) _ refl (slice_get_within (code_of (function_at ir f.function)) f.pc o e) o.op
  at_lowers c f below None u e = asks_lowers _

  frames_lowers : (c : Control) (frames : List Frame) (u : List ℕ) → Lowers (frames_weight ir frames) (step_frames ir c frames u)
  frames_lowers c [] u = asks_lowers _
  frames_lowers c (f ∷ below) u = at_lowers c f below (operation_at ir f.function f.pc) u refl

  entering_lowers : (c : Control) (o : Option Entering) (u : List ℕ) → Lowers (weight_entering ir o c.frames) (step_entering ir c o u)
  entering_lowers c (Some e) u = if_lowers _ _ _ _ (asks_lowers _) (move_lowers _ _ _ (omega arith))
  entering_lowers c None u = frames_lowers c c.frames u

  pub lighter : (c d : Control) (u v : List ℕ) → private_step ir c u ≡ Moves d v → control_weight ir d < control_weight ir c
  lighter c d u v e = (entering_lowers c c.entering u).by d v e
