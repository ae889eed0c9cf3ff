-- Conditions: how many operations they have, and what they do.
use Rattle.std.proofs.Common.{◌≡◌, ℕ, ◌+◌, ◌<◌, List, [], ◌∷◌, ◌++◌, length, Option, Some, None, refl, sym, ap, ◌∙◌, subst, le_refl, ◌⊎◌, inl, inr, arith}
use Rattle.std.specs.Prelude.{Bool, true, false, ◌==◌, if◌then◌else◌}
use Rattle.al_base.specs.declared.arith.Kind.TheVariants as kind
use Rattle.al_typed.specs.declared.ty.Ty.{Ty, Void, Integer, Pointer', Array', Chan', Tuple' as TupleType', Aggregate, Function' as FunctionType', end_of-Ty, more_of-Ty}
use Rattle.al_typed.specs.declared.ty.Ty.TheViews.{out-Ty}
use denote.Hole.Carrier.{out}
use Rattle.al_typed.specs.declared.expression.Logic.TheVariants as logic
use Rattle.al_typed.specs.declared.expression.Movement.TheVariants as movement
use Rattle.al_typed.specs.declared.expression.StepOp.{StepOp}
use Rattle.al_typed.specs.declared.expression.TExpr.{TExpr, Constant, Text, Nil, Function, SizeofType, Tuple', Call', CallPointer', Print', Sequence', Iterator, end_of-TExpr, more_of-TExpr}
use Rattle.al_typed.specs.declared.program.Program.{Program}
use Rattle.al_typed.specs.ExpressionForms as form
use Rattle.al_typed.specs.Types.{is_void, is_array, is_scalar}
use Rattle.al_typed.specs.Layout.{unit_at, layout, layout_of}
use Rattle.al_typed.specs.Typed.{type_of}
use Rattle.al_meaning.specs.Words.{is_zero, truth}
use Rattle.al_meaning.specs.Here.{units_in}
use Rattle.al_meaning.specs.Tasks.{Still, Outcome, Env, Rest}
use Rattle.al_meaning.specs.Told.{value, told}
use Rattle.al_meaning.specs.Meant.{condition}
use Rattle.al_ir.specs.declared.ir.Operation.{Operation}
use Rattle.al_ir.specs.declared.op.Op.TheVariants.{IsLongSet, SkipIfSet}
use Rattle.al_ir.specs.Control.{Slots, put}
use Rattle.al_ir.specs.Step.{pair, zero_if}
use Rattle.al_lower_words.proofs.Integers.{words_are}
use Rattle.al_lower_code.specs.Homes.{Spot, at_line, words, operation, here}
use Rattle.al_lower_code.specs.Moving.{home_of, copies, moves}
use Rattle.al_lower_code.specs.Operators.{skip_if_set}
use Rattle.al_lower_code.specs.Coded.{Coded, Placed, Aimed, plain, valued, constant_coded}
use Rattle.al_lower_code.specs.Actions.{gives_old, assign_coded, assigns_one, assigned_slot, assigns_parts, steps_variable, steps_home, steps_place, stepped_coded, clears_variable, clears_place, zerox_coded, changing}
use Rattle.al_lower_code.specs.Expressions.{coded, aimed, placed, constant_in}
use Rattle.al_lower_code.specs.Heads.{test_code, test_size, optional_test, optional_size}
use Rattle.al_lower_steps.specs.Slots.{Holds, Below}
use Rattle.al_lower_steps.proofs.Slots.{put_same, put_below, below_refl}
use Rattle.al_lower_steps.proofs.Steps.{Runs, moved}
use Rattle.al_lower_steps.proofs.Plain.{is_long_set_does}
use Rattle.al_lower_steps.proofs.Jumps.{skip_if_set_does}
use Rattle.al_lower_claims.proofs.Claims.{Setting, site, spot, Run, Has, IsTest}
use Rattle.al_lower_claims.proofs.Plain.{one_of, two_of}
use Rattle.al_lower_flow.proofs.Flow.{goes_at}
use Rattle.al_lower_flow.proofs.Sizes.{Sized, plain_sized, folded_sized, negation_sized, and_sized, or_sized, binary_sized, unary_sized, converted_sized}
use Rattle.al_lower_bodies.proofs.Bodies.{Body, setting, site_of, vars_of, spot_in, Goes, TestIn, ValueIn}

-- ---- how many operations

constant_sized : (s : Spot) (t : Ty) (bits : ℕ) → Sized (constant_coded s t bits)
constant_sized s t bits = folded_sized s t (Some bits) (plain s t None true false (λ dest to. [])) (plain_sized s t None true false (λ dest to. []))

-- a value that has another effect, or another address
effect_sized : (s : Spot) (t : Ty) (keeps : Bool) (value : (dest to : ℕ) → List Operation) (effect : (to : ℕ) → List Operation) → Sized (record (valued s t keeps value) { effect = effect })
effect_sized s t keeps value effect = record { by = (plain_sized s t None keeps false value).by }

address_sized : (s : Spot) (t : Ty) (pl : Placed) (value : (dest to : ℕ) → List Operation) → Sized (record (valued s t pl.keeps value) { pointer = pl.code; leads = pl.at })
address_sized s t pl value = record { by = (plain_sized s t None pl.keeps false value).by }

assign_sized : (s : Spot) (t : Ty) (target : Aimed) (c : Coded) → Sized (assign_coded s t target c)
assign_sized s t target c = on target.single
  where
    on : (o : Option Placed) → Sized (elim o [ Some pl ↦ changing s t (assigns_one s t pl c) (assigned_slot pl c) | None ↦ changing s t (assigns_parts target c) (λ to. to + target.count) ])
    on (Some pl) = effect_sized s t false _ _
    on None = effect_sized s t false _ _

stepped_sized : (s : Spot) (t : Ty) (op : StepOp) (pl : Placed) → Sized (stepped_coded s t op pl)
stepped_sized s t op pl = on (home_of (pl.at false 0))
  where
    variable : (home : ℕ) (b : Bool) → Sized (if b then record (valued s t false (λ dest to. copies s.line to home (words s t) ++ (steps_home s t op home (to + words s t) ++ moves s.line dest to (words s t)))) { effect = steps_home s t op home } else changing s t (steps_home s t op home) (λ to. home))
    variable home true = effect_sized s t false _ _
    variable home false = effect_sized s t false _ _

    on : (o : Option ℕ) → Sized (elim o [ Some home ↦ steps_variable s t op home | None ↦ changing s t (λ to. steps_place s t op pl (if gives_old op then to + 1 + words s t else to + 1) to) (λ to. to + 1) ])
    on (Some home) = variable home (gives_old op)
    on None = effect_sized s t false _ _

zerox_sized : (s : Spot) (t : Ty) (pl : Placed) → Sized (zerox_coded s t pl)
zerox_sized s t pl = on (home_of (pl.at false 0))
  where
    on : (o : Option ℕ) → Sized (elim o [ Some home ↦ clears_variable s t home | None ↦ changing s t (clears_place s t pl) (λ to. to + 1) ])
    on (Some home) = effect_sized s t false _ _
    on None = effect_sized s t false _ _

pub coded_sized : (s : Spot) (e : TExpr) → Sized (coded s e)
coded_sized s (Constant t bits) = constant_sized s t bits
coded_sized s (Text t number) = constant_sized s t _
coded_sized s (Nil t) = constant_sized s t 0
coded_sized s (Function t number) = constant_sized s t _
coded_sized s (form.load t place) = plain_sized s t (home_of ((placed s place).at false 0)) (placed s place).keeps false _
coded_sized s (form.decay t place) = address_sized s t (placed s place) _
coded_sized s (form.address t place) = address_sized s t (placed s place) _
coded_sized s (SizeofType t of) = constant_sized s t _
coded_sized s (form.sizeof_place t place) = constant_sized s t _
coded_sized s (form.sizeof_value t value) = constant_sized s t _
coded_sized s (form.unary t op of) = folded_sized s t (constant_in s (form.unary t op of)) _ (unary_sized s t op (coded s of) (coded_sized s of))
coded_sized s (form.negation t of) = folded_sized s t (constant_in s (form.negation t of)) _ (negation_sized s t (words s (type_of of)) (coded s of))
coded_sized s (form.binary t op k left right) =
    folded_sized s t (constant_in s (form.binary t op k left right)) _ (binary_sized s t op k (words s (type_of left)) (coded s left) (coded s right))
coded_sized s (form.logical t logic.And left right) =
    folded_sized s t (constant_in s (form.logical t logic.And left right)) _ (and_sized s t (words s (type_of right)) (coded s left) (coded s right) (coded_sized s left) (coded_sized s right))
coded_sized s (form.logical t logic.Or left right) =
    folded_sized s t (constant_in s (form.logical t logic.Or left right)) _ (or_sized s t (words s (type_of right)) (coded s left) (coded s right) (coded_sized s left) (coded_sized s right))
coded_sized s (form.movement t movement.Forward pointer count) = plain_sized s t None _ false _
coded_sized s (form.movement t movement.CountFirst pointer count) = plain_sized s t None _ false _
coded_sized s (form.movement t movement.Back pointer count) = plain_sized s t None _ false _
coded_sized s (form.difference t left right) = plain_sized s t None _ false _
coded_sized s (form.assign t target value) = assign_sized s t (aimed s target) (coded s value)
coded_sized s (form.update t place change value) = effect_sized s t false _ _
coded_sized s (form.stepped t op place) = stepped_sized s t op (placed s place)
coded_sized s (form.zerox t place) = zerox_sized s t (placed s place)
coded_sized s (Tuple' t _ parts) = plain_sized s t None _ false _
coded_sized s (Call' t function receiver _ arguments) = effect_sized s t _ _ _
coded_sized s (CallPointer' t _ (more_of-TExpr pointer end_of-TExpr) _ arguments) = effect_sized s t _ _ _
coded_sized s (Print' t format _ arguments) = plain_sized s t None _ false _
coded_sized s (form.terminate t status) = plain_sized s t None _ false _
coded_sized s (form.receive t chan) = plain_sized s t None _ false _
coded_sized s (form.send t chan value) = plain_sized s t None _ false _
coded_sized s (form.can_receive t chan) = plain_sized s t None _ true _
coded_sized s (form.can_send t chan) = plain_sized s t None _ true _
coded_sized s (form.member_of t value path) = plain_sized s t None _ false _
coded_sized s (form.cast t of) = folded_sized s t (constant_in s (form.cast t of)) _ (converted_sized s (type_of of) t (coded s of) (coded_sized s of))
coded_sized s (form.convert t of) = folded_sized s t (constant_in s (form.convert t of)) _ (converted_sized s (type_of of) t (coded s of) (coded_sized s of))
coded_sized s (Sequence' t _ first _ (more_of-TExpr last end_of-TExpr)) = effect_sized s t _ _ _
coded_sized s (Iterator t number) = plain_sized s t _ true false _

-- ---- what a condition may have

-- the units of an integer, a pointer or a channel
pub scalar_units : (p : Program) (t : Ty) → is_scalar t ≡ true → (units_in p t ≡ unit_at 0 4 ∷ []) ⊎ ((units_in p t ≡ unit_at 0 4 ∷ unit_at 4 4 ∷ []) ⊎ ((size : ℕ) × ((units_in p t ≡ unit_at 0 size ∷ []) × (size < 4))))
unfolding layout layout_of is_scalar out-Ty out
scalar_units p (Integer kind.Int) e = inl refl
scalar_units p (Integer kind.Uint) e = inl refl
scalar_units p (Integer kind.Lint) e = inr (inl refl)
scalar_units p (Integer kind.Ulint) e = inr (inl refl)
scalar_units p (Integer kind.Byte) e = inr (inr (1, (refl, omega arith)))
scalar_units p (Integer kind.Sint) e = inr (inr (2, (refl, omega arith)))
scalar_units p (Integer kind.Usint) e = inr (inr (2, (refl, omega arith)))
scalar_units p (Pointer' _ (more_of-Ty to end_of-Ty)) e = inl refl
scalar_units p (Chan' _ (more_of-Ty element end_of-Ty) capacity) e = inl refl
scalar_units p Void e = absurd (cc)
scalar_units p (Array' _ element count) e = absurd (cc)
scalar_units p (TupleType' _ parts) e = absurd (cc)
scalar_units p (Aggregate number) e = absurd (cc)
scalar_units p (FunctionType' _ returns _ parameters) e = absurd (cc)

pub scalar_not_void : (t : Ty) → is_scalar t ≡ true → is_void t ≡ false
unfolding is_void is_scalar out-Ty out
scalar_not_void (Integer k) e = refl
scalar_not_void (Pointer' _ to) e = refl
scalar_not_void (Chan' _ element capacity) e = refl
scalar_not_void Void e = absurd (cc)
scalar_not_void (Array' _ element count) e = refl
scalar_not_void (TupleType' _ parts) e = refl
scalar_not_void (Aggregate number) e = refl
scalar_not_void (FunctionType' _ returns _ parameters) e = refl

pub scalar_not_array : (t : Ty) → is_scalar t ≡ true → is_array t ≡ false
unfolding is_array is_scalar out-Ty out
scalar_not_array (Integer k) e = refl
scalar_not_array (Pointer' _ to) e = refl
scalar_not_array (Chan' _ element capacity) e = refl
scalar_not_array Void e = refl
scalar_not_array (Array' _ element count) e = absurd (cc)
scalar_not_array (TupleType' _ parts) e = refl
scalar_not_array (Aggregate number) e = refl
scalar_not_array (FunctionType' _ returns _ parameters) e = refl

pub scalar_test : (k : Setting) (t : Ty) → is_scalar t ≡ true → IsTest k t
scalar_test k t e = record {
  not_void = scalar_not_void t e;
  scalar = e;
  counts = words_are k.ways.program t (scalar_not_array t e);
  words = scalar_units k.ways.program t e;
}

-- ---- jumps

zero_zero : (b : Bool) → (zero_if b == 0) ≡ b
zero_zero true = refl
zero_zero false = refl

module _ (k : Setting) where
  -- a jump where it is not 0
  pub jumps_if_set : (v : List ℕ) (n slot to count pc : ℕ) (slots last : Slots) (s : Still) (o : Outcome) → n ≡ length v → (length v ≡ 1) ⊎ (length v ≡ 2) → Holds slots slot v → Has k pc (skip_if_set (spot k) n slot to count) → ((now : Slots) → Below to now slots → Run k o (if is_zero v then pc + length (skip_if_set (spot k) n slot to count) else pc + length (skip_if_set (spot k) n slot to count) + count) now last s) → Run k o pc slots last s
  jumps_if_set v n slot to count pc slots last s o en (inl one) holds has go =
      let w = one_of 0 4 v one in
      by (n == 2) (let q : n ≡ 1 = en ∙ one in ap (λ m. m == 2) q) w.0 (subst (Holds slots slot) w.1 holds).0 (ap is_zero w.1) has go
    where
      by : (b : Bool) → b ≡ false → (w : ℕ) → slots slot ≡ Some w → is_zero v ≡ (w == 0) → Has k pc (if b then operation k.ways.line (IsLongSet to slot) ∷ operation k.ways.line (SkipIfSet to count) ∷ [] else here (spot k) (SkipIfSet slot count)) → ((now : Slots) → Below to now slots → Run k o (if is_zero v then pc + length (if b then operation k.ways.line (IsLongSet to slot) ∷ operation k.ways.line (SkipIfSet to count) ∷ [] else here (spot k) (SkipIfSet slot count)) else pc + length (if b then operation k.ways.line (IsLongSet to slot) ∷ operation k.ways.line (SkipIfSet to count) ∷ [] else here (spot k) (SkipIfSet slot count)) + count) now last s) → Run k o pc slots last s
      by true e w h z has go = absurd (cc)
      by false e w h z has go =
          skip_if_set_does (site k) (λ b. o) has.0 h
          (λ q. moved (site k) (sym (ap (λ b. if b then pc + 1 else pc + 1 + count) (z ∙ q))) (go slots (below_refl to slots)))
          (λ q. moved (site k) (sym (ap (λ b. if b then pc + 1 else pc + 1 + count) (z ∙ q))) (go slots (below_refl to slots)))
  jumps_if_set v n slot to count pc slots last s o en (inr two) holds has go =
      let w = two_of v two in
      by (n == 2) (let q : n ≡ 2 = en ∙ two in ap (λ m. m == 2) q) w.0 w.1.0 (subst (Holds slots slot) w.1.1 holds) (ap is_zero w.1.1) has go
    where
      by : (b : Bool) → b ≡ true → (low high : ℕ) → Holds slots slot (low ∷ high ∷ []) → is_zero v ≡ (pair low high == 0) → Has k pc (if b then operation k.ways.line (IsLongSet to slot) ∷ operation k.ways.line (SkipIfSet to count) ∷ [] else here (spot k) (SkipIfSet slot count)) → ((now : Slots) → Below to now slots → Run k o (if is_zero v then pc + length (if b then operation k.ways.line (IsLongSet to slot) ∷ operation k.ways.line (SkipIfSet to count) ∷ [] else here (spot k) (SkipIfSet slot count)) else pc + length (if b then operation k.ways.line (IsLongSet to slot) ∷ operation k.ways.line (SkipIfSet to count) ∷ [] else here (spot k) (SkipIfSet slot count)) + count) now last s) → Run k o pc slots last s
      by false e low high h z has go = absurd (cc)
      by true e low high h z has go =
          let y = zero_if (pair low high == 0) in
          let mid : Slots = put to y slots in
          let below : Below to mid slots = put_below slots slots to y to (le_refl to) (below_refl to slots) in
          let z2 : is_zero v ≡ (y == 0) = z ∙ sym (zero_zero (pair low high == 0)) in
          let c : pc + 1 + 1 ≡ pc + 2 = omega arith in
          is_long_set_does (site k) has.0 h (skip_if_set_does (site k) (λ b. o) has.1.0 (put_same slots to y)
          (λ q. moved (site k) (c ∙ sym (ap (λ b. if b then pc + 2 else pc + 2 + count) (z2 ∙ q))) (go mid below))
          (λ q. moved (site k) (ap (λ n. n + count) c ∙ sym (ap (λ b. if b then pc + 2 else pc + 2 + count) (z2 ∙ q))) (go mid below)))

-- ---- conditions

module _ (b : Body) where
  -- in a line
  pub condition_does : (line : ℕ) (e : TExpr) → is_scalar (type_of e) ≡ true → ValueIn b line 0 e → TestIn b line (test_code (at_line line (spot_in b)) e) (test_size (at_line line (spot_in b)) e) (λ w. value (told e w))
  condition_does line e scalar h = record {
    sized = λ count. (coded_sized (at_line line (spot_in b)) e).by (spot_in b).turns count;
    by = λ jump behind again count pc k has zero set. record {
      by = λ env st slots last vars.
          let s = at_line line (spot_in b) in
          let len : length (test_code s e count) ≡ test_size s e = (coded_sized s e).by (spot_in b).turns count in
          ((h jump behind again).unless (scalar_test (setting b line 0 jump behind again) (type_of e) scalar)).by (spot_in b).turns count pc slots last env st k (omega arith) vars has (λ v env2 s2 now last2 fits vars2 stays same.
          ends v env2 s2 now last2 (k v) pc count (length (test_code s e count)) (test_size s e) len (λ q. zero v q) (λ q. set v q) vars2 (is_zero v) refl);
    };
  }
    where
      ends : (v : List ℕ) (env : Env) (s : Still) (now last : Slots) (next : Rest) (pc count len size : ℕ) → len ≡ size → (is_zero v ≡ true → Goes b (pc + size + count) next) → (is_zero v ≡ false → Goes b (pc + size) next) → vars_of b env now → (z : Bool) → is_zero v ≡ z → Runs (site_of b) (next env s) (if z then pc + len + count else pc + len) now last s
      ends v env s now last next pc count len size e zero set vars true q = moved (site_of b) (ap (λ n. pc + n + count) e) ((zero q).by env s now last vars)
      ends v env s now last next pc count len size e zero set vars false q = moved (site_of b) (ap (λ n. pc + n) e) ((set q).by env s now last vars)

  -- an absent condition holds
  pub optional_does : (line : ℕ) (o : Option TExpr) → ((e : TExpr) → o ≡ Some e → (is_scalar (type_of e) ≡ true) × ValueIn b line 0 e) → TestIn b line (optional_test (at_line line (spot_in b)) o) (optional_size (at_line line (spot_in b)) o) (condition o)
  optional_does line (Some e) h = let x = h e refl in condition_does line e x.0 x.1
  optional_does line None h = record {
    sized = λ count. refl;
    by = λ jump behind again count pc k has zero set. goes_at (site_of b) (vars_of b) (let z : pc ≡ pc + 0 = omega arith in z) (set (truth true) refl);
  }
