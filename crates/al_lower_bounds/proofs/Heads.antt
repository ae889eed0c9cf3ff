-- The operations of statements without statements in them, and of the heads of others, are in the line that they are made in.
use Rattle.std.proofs.Common.{ℕ, zero, suc, ◌+◌, ◌*◌, false, List, [], ◌∷◌, ◌++◌, length, Option, Some, None}
use Rattle.std.specs.Prelude.{◌==◌, ◌&&◌, not, sum_by}
use Rattle.al_base.specs.declared.arith.Kind.{Kind}
use Rattle.al_typed.specs.declared.ty.Ty.{Ty, out-Ty}
use Rattle.al_typed.specs.declared.ty.Ty.TheOpen.{Ty-F}
use Rattle.al_typed.specs.declared.expression.TExpr.{TExpr, Call'}
use Rattle.al_typed.specs.declared.expression.TPlace.{TPlace}
use Rattle.al_typed.specs.declared.statement.TBounds.{TBounds}
use Rattle.al_typed.specs.declared.statement.TCommunication.{TCommunication}
use Rattle.al_typed.specs.declared.statement.TCommunication.TheVariants as talk
use Rattle.al_typed.specs.declared.statement.TInitializer.{TInitializer}
use Rattle.al_typed.specs.Typed.{place_type, target_type, type_of}
use Rattle.al_meaning.specs.Words.{integer_words}
use Rattle.al_meaning.specs.Shown.{kind_of}
use Rattle.al_ir.specs.declared.ir.Operation.{Operation}
use Rattle.al_ir.specs.declared.op.Op.{Op}
use Rattle.al_lower_code.specs.Homes.{Spot, units, words}
use Rattle.al_lower_code.specs.Moving.{constants, copies, home_of, save_code, trims}
use Rattle.al_lower_code.specs.Operators.{convert_code, is_long, skip_if_set, stays}
use Rattle.al_lower_code.specs.Coded.{Aimed, Coded, Placed, operand_code, operand_slot}
use Rattle.al_lower_code.specs.Values.{local_placed}
use Rattle.al_lower_code.specs.Expressions.{aimed, coded, object, placed, row}
use Rattle.al_lower_code.specs.Simple.{alloc_code, allocates, around_count, become_code, checks, declare_code, frees_block, gives_back, has_block_here, initializer_code, new_at, new_code, par_code, return_code, returns_value, start_code, starts_code, unalloc_code}
use Rattle.al_lower_code.specs.Heads.{CasePlace, alt_head, bounds_code, case_test, case_tests, dispatch, effect_code, most_received, optional_code, optional_test, received_code, switch_head, talk_code, talk_size, talks_code, test_code, turns_code, value_code, went_code}
use Rattle.al_lower_bounds.proofs.Pieces.{AreAt, chosen, constants_at, convert_at, copies_at, either, joined, more, none, one, save_at, skip_if_set_at, trims_at}
use Rattle.al_lower_bounds.proofs.Forms.{InLine, IsAimed, IsPlaced, local_at, operand_at}
use Rattle.al_lower_bounds.proofs.Changes.{arguments_at, assigns_one_at}
use Rattle.al_lower_bounds.proofs.Terms.{aimed_at, coded_at, object_at, placed_at, row_at}

module _ (s : Spot) where
  -- ---- expressions in statements

  pub effect_at : (e : TExpr) → AreAt s.line (effect_code s e)
  effect_at e = (coded_at s e).effect s.turns

  pub optional_at : (o : Option TExpr) → AreAt s.line (optional_code s o)
  optional_at (Some e) = effect_at e
  optional_at None = none

  pub test_at : (e : TExpr) (count : ℕ) → AreAt s.line (test_code s e count)
  test_at e count = (coded_at s e).unless s.turns count

  pub optional_test_at : (o : Option TExpr) (count : ℕ) → AreAt s.line (optional_test s o count)
  optional_test_at (Some e) count = test_at e count
  optional_test_at None count = none

  -- ---- iterators

  bounds_at : (bs : List TBounds) (to : ℕ) → AreAt s.line (bounds_code s bs to)
  bounds_at [] to = none
  bounds_at (b ∷ bs) to =
      joined ((coded s b.from).value to to) ((coded_at s b.from).value to to)
      (joined ((coded s b.to).value (to + 1) (to + 1)) ((coded_at s b.to).value (to + 1) (to + 1)) (bounds_at bs (to + 2)))

  turns_at : (count turn bound : ℕ) (body : List Operation) (pc : ℕ) → AreAt s.line body → AreAt s.line (turns_code s count turn bound body pc)
  turns_at zero turn bound body pc h = h
  turns_at (suc n) turn bound body pc h =
      (more (more (joined (turns_code s n (turn + 1) (bound + 2) body (pc + 2)) (turns_at n (turn + 1) (bound + 2) body (pc + 2) h) (more one))))

  pub value_at : (bs : List TBounds) (e : TExpr) (pc : ℕ) → AreAt s.line (value_code s bs e pc)
  value_at [] e pc = effect_at e
  value_at (b ∷ bs) e pc =
      let n = length (b ∷ bs) in
      joined (bounds_code s (b ∷ bs) (s.turns + n)) (bounds_at (b ∷ bs) (s.turns + n))
      (turns_at n s.turns (s.turns + n) ((coded s e).effect (s.turns + 3 * n)) (pc + length (bounds_code s (b ∷ bs) (s.turns + n))) ((coded_at s e).effect (s.turns + 3 * n)))

  -- ---- switches

  case_at : (k : Kind) (at free bits place : ℕ) → AreAt s.line (case_test s k at free bits place)
  case_at k at free bits place =
      chosen (is_long k)
      (joined (constants s.line free (integer_words k bits)) (constants_at s.line free (integer_words k bits)) (more (more one)))
      (joined (constants s.line free (integer_words k bits)) (constants_at s.line free (integer_words k bits)) (more one))

  cases_at : (k : Kind) (at free : ℕ) (cs : List CasePlace) → AreAt s.line (case_tests s k at free cs)
  cases_at k at free [] = none
  cases_at k at free (c ∷ cs) = joined (case_test s k at free c.bits c.place) (case_at k at free c.bits c.place) (cases_at k at free cs)

  pub switch_at : (e : TExpr) (cases : List CasePlace) (otherwise : ℕ) → AreAt s.line (switch_head s e cases otherwise)
  switch_at e cases otherwise =
      let c = coded s e in
      let at = operand_slot c s.turns in
      joined (operand_code c s.turns) (operand_at s c (coded_at s e) s.turns)
      (joined (case_tests s (kind_of (type_of e)) at (s.turns + words s (type_of e)) cases) (cases_at (kind_of (type_of e)) at (s.turns + words s (type_of e)) cases) one)

  -- ---- alts

  talk_at : (c : TCommunication) (to : ℕ) → AreAt s.line (talk_code s c to)
  talk_at (talk.Receive t chan) to = (coded_at s chan).value to to
  talk_at (talk.ReceiveInto t target chan) to = (coded_at s chan).value to to
  talk_at (talk.Send chan of) to = joined ((coded s chan).value to to) ((coded_at s chan).value to to) ((coded_at s of).value (to + 1) (to + 1))

  talks_at : (cs : List TCommunication) (to : ℕ) → AreAt s.line (talks_code s cs to)
  talks_at [] to = none
  talks_at (c ∷ cs) to = joined (talk_code s c to) (talk_at c to) (talks_at cs (to + talk_size s c))

  received_at : (from into : Ty) (a : Aimed) → IsAimed s a → (got free : ℕ) → AreAt s.line (received_code s from into a got free)
  received_at from into a h got free =
      joined (trims s.line got (units s from)) (trims_at s.line got (units s from))
      (chosen (stays from into) (joined (a.code free) (h.code free) (h.save free got))
      (joined (convert_code s from into free got) (convert_at s from into free got) (joined (a.code (free + words s into)) (h.code (free + words s into)) (h.save (free + words s into) free))))

  went_at : (c : TCommunication) (got free : ℕ) → AreAt s.line (went_code s c got free)
  went_at (talk.Receive t chan) got free = none
  went_at (talk.ReceiveInto t target chan) got free = received_at t (target_type target) (aimed s target) (aimed_at s target) got free
  went_at (talk.Send chan of) got free = none

  dispatch_at : (i : ℕ) (cs : List TCommunication) (bodies : List ℕ) (branch got free : ℕ) → AreAt s.line (dispatch s i cs bodies branch got free)
  dispatch_at i (c ∷ []) (body ∷ bodies) branch got free = joined (went_code s c got free) (went_at c got free) one
  dispatch_at i (c ∷ next ∷ cs) (body ∷ bodies) branch got free =
      (more (more (joined (went_code s c got free) (went_at c got free) (more (dispatch_at (i + 1) (next ∷ cs) bodies branch got free)))))
  dispatch_at i [] bodies branch got free = none
  dispatch_at i (c ∷ []) [] branch got free = none
  dispatch_at i (c ∷ next ∷ cs) [] branch got free = none

  pub alt_at : (cs : List TCommunication) (bodies : List ℕ) → AreAt s.line (alt_head s cs bodies)
  alt_at cs bodies =
      let branch = s.turns + sum_by (talk_size s) cs in
      let got = branch + 1 + 4 * length cs in
      joined (talks_code s cs s.turns) (talks_at cs s.turns) (more (dispatch_at 0 cs bodies branch got (got + most_received s cs)))

  -- ---- statements without statements

  pub frees_at : AreAt s.line (frees_block s)
  frees_at = chosen (has_block_here s) one none

  pub declare_at : (is : List TInitializer) → AreAt s.line (declare_code s is)
  declare_at [] = none
  declare_at (i ∷ rest) =
      joined (initializer_code s i) (assigns_one_at s (type_of i.value) (local_placed s i.local) (coded s i.value) (local_at s i.local) (coded_at s i.value) s.turns) (declare_at rest)

  start_at : (e : TExpr) (to : ℕ) → AreAt s.line (start_code s e to)
  start_at (Call' t function receiver _ arguments) to = arguments_at s (object s receiver) (row s arguments) (object_at s receiver) (row_at s arguments) to
  start_at _ to = none

  pub starts_at : (how : (function arguments words : ℕ) → Op) (es : List TExpr) → AreAt s.line (starts_code s how es)
  starts_at how [] = none
  starts_at how (e ∷ es) = joined (start_code s e s.turns) (start_at e s.turns) (more (starts_at how es))

  pub par_at : (branches : List ℕ) → AreAt s.line (par_code s branches)
  par_at branches = joined (copies s.line s.turns 0 (around_count s)) (copies_at s.line s.turns 0 (around_count s)) (more one)

  returns_at : (n : ℕ) (c : Coded) → InLine s c → AreAt s.line (returns_value s n c)
  returns_at n c h =
      chosen (n == 1 && not (has_block_here s)) (joined (c.value 0 s.turns) (h.value 0 s.turns) one)
      (joined (c.value s.turns s.turns) (h.value s.turns s.turns) (joined (frees_block s) frees_at (joined (copies s.line 0 s.turns n) (copies_at s.line 0 s.turns n) one)))

  pub return_at : (o : Option TExpr) → AreAt s.line (return_code s o)
  return_at None = joined (frees_block s) frees_at one
  return_at (Some e) = returns_at (words s (type_of e)) (coded s e) (coded_at s e)

  pub become_at : (e : TExpr) → AreAt s.line (become_code s e)
  become_at e = joined (start_code s e s.turns) (start_at e s.turns) (joined (frees_block s) frees_at one)

  new_in_at : (t : Ty-F Ty) (to : ℕ) → AreAt s.line (new_at s t to)
  new_in_at (Ty-F.Pointer t) to = one
  new_in_at (Ty-F.Chan element capacity) to = one
  new_in_at _ to = none

  news_at : (t : Ty) (to : ℕ) → AreAt s.line (new_code s t to)
  unfolding new_code
  news_at t to = new_in_at (out-Ty t) to

  allocates_at : (t : Ty) (pl : Placed) → IsPlaced s pl → AreAt s.line (allocates s t pl)
  allocates_at t pl h =
      let to = s.turns in
      joined (pl.code false to) (h false to)
      (either (home_of (pl.at false to)) (λ home. new_code s t home) (new_code s t (to + 1) ++ save_code s t (pl.at false to) (to + 1)) (λ home. news_at t home)
      (joined (new_code s t (to + 1)) (news_at t (to + 1)) (save_at s t (pl.at false to) (to + 1))))

  pub alloc_at : (places : List TPlace) → AreAt s.line (alloc_code s places)
  alloc_at [] = none
  alloc_at (place ∷ rest) = joined (allocates s (place_type place) (placed s place)) (allocates_at (place_type place) (placed s place) (placed_at s place)) (alloc_at rest)

  pub unalloc_at : (es : List TExpr) → AreAt s.line (unalloc_code s es)
  unalloc_at [] = none
  unalloc_at (e ∷ es) =
      joined (gives_back s (type_of e) (coded s e)) (joined (operand_code (coded s e) s.turns) (operand_at s (coded s e) (coded_at s e) s.turns) one) (unalloc_at es)

  pub check_at : (n : ℕ) (c : Coded) → InLine s c → AreAt s.line (checks s n c)
  check_at n c h = joined (operand_code c s.turns) (operand_at s c h s.turns) (joined (skip_if_set s n (operand_slot c s.turns) s.turns 1) (skip_if_set_at s n (operand_slot c s.turns) s.turns 1) one)
