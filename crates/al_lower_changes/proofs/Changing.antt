-- What `op=` makes of an old value that stands in slots.
use Rattle.std.proofs.Common.{◌≡◌, ℕ, ◌+◌, ◌*◌, ◌%◌, ◌^◌, ◌<◌, ◌≤◌, List, [], ◌∷◌, ◌++◌, length, Option, Some, None, refl, sym, ap, ◌∙◌, subst, arith, length-append}
use Rattle.std.specs.Prelude.{Bool, true, false, ◌==◌, ◌&&◌, ◌||◌, nat_lt, not, if◌then◌else◌, option_map}
use Rattle.std.proofs.lemmas.Grind.{common_steps}
use Rattle.al_base.specs.Arith.{width_of, is_signed, divides}
use Rattle.al_base.specs.declared.arith.Kind.{Kind}
use Rattle.al_base.specs.declared.arith.Kind.TheVariants as kind
use Rattle.al_typed.specs.declared.ty.Ty.{Ty}
use Rattle.al_typed.specs.declared.ty.Ty.TheVariants as ty
use Rattle.al_typed.specs.declared.ty.Ty.TheViews.{out-Ty}
use denote.Hole.Carrier.{out}
use Rattle.al_typed.specs.declared.expression.BinaryOp.{BinaryOp}
use Rattle.al_typed.specs.declared.expression.BinaryOp.TheVariants as binary
use Rattle.al_typed.specs.declared.expression.Change.{Change}
use Rattle.al_typed.specs.declared.expression.Change.TheVariants as change
use Rattle.al_typed.specs.declared.program.Program.{Program}
use Rattle.al_typed.specs.Types.{int, promoted, is_void, is_array}
use Rattle.al_typed.specs.Layout.{unit_at}
use Rattle.al_typed.specs.WellTyped.{result_kind, is_arithmetic}
use Rattle.al_meaning.specs.Words.{bits_of, integer_words, operated, computed, converted, sum, negated, stepped_by}
use Rattle.al_meaning.specs.Shown.{kind_of}
use Rattle.al_meaning.specs.Here.{units_in, size_in, pointee}
use Rattle.al_meaning.specs.Evaluate.{updated}
use Rattle.al_meaning.specs.Tasks.{Still, Outcome, Env, Rest, Task}
use Rattle.al_meaning.specs.Told.{value, needed, quotient}
use Rattle.al_ir.specs.declared.ir.Operation.{Operation}
use Rattle.al_ir.specs.declared.op.Op.TheVariants.{Convert, Offset, Advance}
use Rattle.al_ir.specs.Control.{Slots, put, put_all}
use Rattle.al_ir.specs.Step.{word_kind, kind_words, converted_words}
use Rattle.al_lower_words.specs.Units.{AreOf}
use Rattle.al_lower_words.proofs.Integers.{length_of, units_of_kind, one_word, one_fits, integer_not_void, integer_not_array}
use Rattle.al_lower_code.specs.Homes.{here, size}
use Rattle.al_lower_code.specs.Operators.{arith_of, is_swapped, is_long, is_short, keeps_bits, operator, operator_by, takes_constant, step_bytes}
use Rattle.al_lower_code.specs.Coded.{Coded, operand_slot, operand_code}
use Rattle.al_lower_code.specs.Values.{constant_right}
use Rattle.al_lower_code.specs.Actions.{is_direct, before_change, behind_change, change_code}
use Rattle.al_lower_steps.specs.Slots.{Holds, Below, Outside}
use Rattle.al_lower_steps.specs.Site.{HasOperation}
use Rattle.al_lower_steps.proofs.Slots.{below_refl, put_same, put_outside, put_all_below, put_all_holds}
use Rattle.al_lower_steps.proofs.Steps.{moved, comes_out, has_front, has_back}
use Rattle.al_lower_steps.proofs.Plain.{convert_does, offset_does, advance_does}
use Rattle.al_lower_claims.proofs.Variables.{Stays, stays_refl}
use Rattle.al_lower_claims.proofs.Claims.{Setting, scene, site, spot, Run, Has, HasVars, HasRoom, UnitsOf, IsWord, CodedDoes}
use Rattle.al_lower_claims.proofs.Operands.{both_true, operand_does}
use Rattle.al_lower_values.proofs.Operating.{operates, operates_by, GoesOn as OperatorGoesOn}
use Rattle.al_lower_values.proofs.Binary.{kind_of_integer}
use Rattle.al_lower_conversions.proofs.Integers.{integer_kept, converted_fits, words_of_kind}

-- ---- old and new values

-- the type that a change works on
abbrev pub middle : Ty → Change → Ty
middle t (change.Apply op k) = ty.Integer k
middle t (change.Move back) = t

-- the old value as one of that type
abbrev pub before : Program → Ty → Change → List ℕ → List ℕ
before p t (change.Apply op k) v = converted p.aggregates t (ty.Integer k) v
before p t (change.Move back) v = v

-- the new value as one of the place's type
abbrev pub behind : Program → Ty → Change → List ℕ → List ℕ
behind p t (change.Apply op k) v = converted p.aggregates (ty.Integer k) t v
behind p t (change.Move back) v = v

abbrev pub changed : Program → Ty → Change → List ℕ → List ℕ → Option (List ℕ)
changed p t (change.Apply op k) old given = operated op k old given
changed p t (change.Move back) old given = Some (stepped_by back (size_in p (pointee t)) (bits_of old) (bits_of given) ∷ [])

pub updated_is : (p : Program) (t : Ty) (how : Change) (old given : List ℕ) → updated p t how old given ≡ option_map (behind p t how) (changed p t how (before p t how old) given)
updated_is p t (change.Apply op k) old given = refl
updated_is p t (change.Move back) old given = refl

-- What is needed of a change and its right side: values of its types have few words, are converted where they stand, and what is
-- made of one comes to stand in slots.
pub record ChangeDoes (k : Setting) (o : Task (Option (List ℕ))) (t : Ty) (how : Change) (c : Coded) : Type 0 where
  pub not_void : is_void t ≡ false
  pub not_array : is_array t ≡ false
  pub few : length (units_in k.ways.program t) ≤ 2
  pub few_in : length (units_in k.ways.program (middle t how)) ≤ 2
  pub before_fits : (v : List ℕ) → UnitsOf k t v → UnitsOf k (middle t how) (before k.ways.program t how v)
  pub behind_fits : (v : List ℕ) → UnitsOf k (middle t how) v → UnitsOf k t (behind k.ways.program t how v)
  pub before_same : is_direct t how ≡ true → (v : List ℕ) → UnitsOf k t v → before k.ways.program t how v ≡ v
  pub behind_same : is_direct t how ≡ true → (v : List ℕ) → UnitsOf k (middle t how) v → behind k.ways.program t how v ≡ v
  pub before_does : (at pc : ℕ) (v : List ℕ) (slots last : Slots) (s : Still) (out : Outcome) → Has k pc (before_change (spot k) t how at) → Holds slots at v → UnitsOf k t v → ((now : Slots) → Below at now slots → Holds now at (before k.ways.program t how v) → Run k out (pc + length (before_change (spot k) t how at)) now last s) → Run k out pc slots last s
  pub behind_does : (at pc : ℕ) (v : List ℕ) (slots last : Slots) (s : Still) (out : Outcome) → Has k pc (behind_change (spot k) t how at) → Holds slots at v → UnitsOf k (middle t how) v → ((now : Slots) → Below at now slots → Holds now at (behind k.ways.program t how v) → Run k out (pc + length (behind_change (spot k) t how at)) now last s) → Run k out pc slots last s
  pub changes : (x : List ℕ) (new old to pc : ℕ) (slots last : Slots) (env : Env) (s : Still) (task : List ℕ → Rest) (next : Option (List ℕ) → Rest) → ((y : List ℕ) (env : Env) (s : Still) → task y env s ≡ quotient k.ways (changed k.ways.program t how x y) env s next) → UnitsOf k (middle t how) x → HasRoom k to → HasVars k env slots → Has k pc (change_code (spot k) t how c new old to) → ((env2 : Env) (now : Slots) → HasVars k env2 now → Stays (scene k) to now slots → (c.keeps ≡ true → env2 ≡ env) → Holds now old x) → ((z : List ℕ) (env2 : Env) (s : Still) (was now last : Slots) → UnitsOf k (middle t how) z → HasVars k env2 was → Stays (scene k) to was slots → (c.keeps ≡ true → env2 ≡ env) → Outside new (length z) now was → Holds now new z → Run k (next (Some z) env2 s) (pc + length (change_code (spot k) t how c new old to)) now last s) → Run k (value o env s task) pc slots last s

-- ---- an operator on integers

known_right : (op : BinaryOp) (j : Kind) (o : Option ℕ) (bits : ℕ) → (elim o [ Some n ↦ if takes_constant op j n then Some n else None | None ↦ None ]) ≡ Some bits → (o ≡ Some bits) × (takes_constant op j bits ≡ true)
known_right op j None bits e = absurd (cc)
known_right op j (Some n) bits e = on (takes_constant op j n) refl e
  where
    on : (b : Bool) → takes_constant op j n ≡ b → (if b then Some n else None) ≡ Some bits → (Some n ≡ Some bits) × (takes_constant op j bits ≡ true)
    on true q e = let same : n ≡ bits = cc in (e, subst (λ m. takes_constant op j m ≡ true) same q)
    on false q e = absurd (cc)

not_true : (b : Bool) → not b ≡ true → b ≡ false
not_true true e = absurd (cc)
not_true false e = refl

takes_in_order : (op : BinaryOp) (j : Kind) (n : ℕ) → takes_constant op j n ≡ true → (is_long j ≡ false) × (is_swapped op ≡ false)
takes_in_order op j n e = let a = both_true (not (is_long j) && not (is_swapped op) && is_short n) (not (divides (arith_of op) && (n == 0))) e in let b = both_true (not (is_long j) && not (is_swapped op)) (is_short n) a.0 in let c = both_true (not (is_long j)) (not (is_swapped op)) b.0 in (not_true (is_long j) c.0, not_true (is_swapped op) c.1)

word_kinds : (j : Kind) → promoted j ≡ j → is_long j ≡ false → (signed : Bool) × (j ≡ word_kind signed)
word_kinds kind.Int e l = (true, refl)
word_kinds kind.Uint e l = (false, refl)
word_kinds kind.Lint e l = absurd (cc)
word_kinds kind.Ulint e l = absurd (cc)
word_kinds kind.Byte e l = absurd (cc)
word_kinds kind.Sint e l = absurd (cc)
word_kinds kind.Usint e l = absurd (cc)

arithmetic_kind : (op : BinaryOp) (j : Kind) → is_arithmetic op ≡ true → result_kind op j ≡ j
arithmetic_kind binary.Less j e = absurd (cc)
arithmetic_kind binary.Greater j e = absurd (cc)
arithmetic_kind binary.LessEqual j e = absurd (cc)
arithmetic_kind binary.GreaterEqual j e = absurd (cc)
arithmetic_kind binary.Equal j e = absurd (cc)
arithmetic_kind binary.NotEqual j e = absurd (cc)
arithmetic_kind _ j e = refl

same_width : (i j : Kind) → (width_of i == width_of j) ≡ true → width_of i ≡ width_of j
same_width i j e = grind (arith, common_steps, e)

keeps_of : (i j : Kind) → width_of i ≡ width_of j → keeps_bits i j ≡ true
keeps_of i j e =
    let same : (width_of i == width_of j) ≡ true = grind (arith, common_steps, e) in
    ap (λ b. b || (nat_lt (width_of i) (width_of j) && not (is_long j) && not (is_signed i))) same

few_words : (k : Setting) (j : Kind) → length (units_in k.ways.program (ty.Integer j)) ≤ 2
few_words k kind.Byte = let e = words_of_kind k kind.Byte in omega (arith, e)
few_words k kind.Sint = let e = words_of_kind k kind.Sint in omega (arith, e)
few_words k kind.Usint = let e = words_of_kind k kind.Usint in omega (arith, e)
few_words k kind.Int = let e = words_of_kind k kind.Int in omega (arith, e)
few_words k kind.Uint = let e = words_of_kind k kind.Uint in omega (arith, e)
few_words k kind.Lint = let e = words_of_kind k kind.Lint in omega (arith, e)
few_words k kind.Ulint = let e = words_of_kind k kind.Ulint in omega (arith, e)

sum_cut : (a n : ℕ) → sum a n ≡ sum a (n % 2 ^ 32)
sum_cut a n = omega arith

pub stepped_is : (back : Bool) (size n a : ℕ) → stepped_by back size a n ≡ sum a (step_bytes back size n)
stepped_is true size n a = sum_cut a (negated (n * size))
stepped_is false size n a = sum_cut a (n * size)

pub stepped_small : (back : Bool) (size a n : ℕ) → stepped_by back size a n < 2 ^ 32
stepped_small true size a n = omega arith
stepped_small false size a n = omega arith

module _ (k : Setting) where
  -- an integer as one of another kind, where it stands
  converts_there : (b : Bool) (i j : Kind) → (b ≡ true → keeps_bits i j ≡ true) → (at pc : ℕ) (v : List ℕ) (slots last : Slots) (s : Still) (out : Outcome) → Has k pc (if b then [] else here (spot k) (Convert i j at at)) → Holds slots at v → UnitsOf k (ty.Integer i) v → ((now : Slots) → Below at now slots → Holds now at (converted k.ways.program.aggregates (ty.Integer i) (ty.Integer j) v) → Run k out (pc + length (if b then [] else here (spot k) (Convert i j at at))) now last s) → Run k out pc slots last s
  converts_there true i j keeps at pc v slots last s out has holds fits go =
      let z : pc ≡ pc + 0 = omega arith in
      let same = (integer_kept k i j v (keeps refl) fits).0 in
      moved (site k) z (go slots (below_refl at slots) (subst (Holds slots at) (sym same) holds))
  converts_there false i j keeps at pc v slots last s out has holds fits go =
      let ws = converted_words i j v in
      convert_does (site k) v has.0 (words_of_length v fits) holds (go (put_all at ws slots) (put_all_below ws at slots) (put_all_holds ws at slots))
    where
      words_of_length : (v : List ℕ) → UnitsOf k (ty.Integer i) v → length v ≡ kind_words i
      words_of_length v fits = length_of _ _ fits ∙ words_of_kind k i

  module _ {o : Task (Option (List ℕ))} {c : Coded} (op : BinaryOp) (j : Kind) (is_promoted : promoted j ≡ j) (arithmetic : is_arithmetic op ≡ true) (hc : CodedDoes k o (ty.Integer j) c) where
    abbrev applied_by : Option ℕ → (new old to : ℕ) → List Operation
    applied_by r new old to = elim r [ Some bits ↦ here (spot k) (operator_by op j new old bits) | None ↦ operand_code c to ++ here (spot k) (operator op j new old (operand_slot c to)) ]

    abbrev GoesChanged : (new to end : ℕ) → Env → Slots → (Option (List ℕ) → Rest) → Type 0
    GoesChanged new to end env slots next =
        (z : List ℕ) (env2 : Env) (s : Still) (was now last : Slots) → UnitsOf k (ty.Integer j) z → HasVars k env2 was → Stays (scene k) to was slots → (c.keeps ≡ true → env2 ≡ env) → Outside new (length z) now was → Holds now new z → Run k (next (Some z) env2 s) end now last s

    result_fits : (z : ℕ) → AreOf (units_in k.ways.program (ty.Integer (result_kind op j))) (integer_words (result_kind op j) z) → UnitsOf k (ty.Integer j) (integer_words (result_kind op j) z)
    result_fits z fits = subst (λ q. UnitsOf k (ty.Integer q) (integer_words (result_kind op j) z)) (arithmetic_kind op j arithmetic) fits

    by_value : (x : List ℕ) (new old to pc : ℕ) (slots last : Slots) (env : Env) (s : Still) (task : List ℕ → Rest) (next : Option (List ℕ) → Rest) → ((y : List ℕ) (env : Env) (s : Still) → task y env s ≡ quotient k.ways (operated op j x y) env s next) → UnitsOf k (ty.Integer j) x → HasRoom k to → HasVars k env slots → Has k pc (operand_code c to ++ here (spot k) (operator op j new old (operand_slot c to))) → ((env2 : Env) (now : Slots) → HasVars k env2 now → Stays (scene k) to now slots → (c.keeps ≡ true → env2 ≡ env) → Holds now old x) → GoesChanged new to (pc + length (operand_code c to ++ here (spot k) (operator op j new old (operand_slot c to)))) env slots next → Run k (value o env s task) pc slots last s
    by_value x new old to pc slots last env s task next is fx room vars has stay go =
        let ca = operand_code c to in
        let cb = here (spot k) (operator op j new old (operand_slot c to)) in
        operand_does k hc (integer_not_void j) to pc slots last env s task room vars (has_front (site k) pc ca cb has) (λ y env2 s now last2 fy vars2 st2 hy same.
        let len : pc + length ca + 1 ≡ pc + length (ca ++ cb) = omega (arith, length-append ca cb) in
        comes_out (site k) (is y env2 s)
        (operates (site k) k.ways (pc + length ca) new now last2 env2 s next op j is_promoted x y fx fy old (operand_slot c to) (stay env2 now vars2 st2 same) hy (has_back (site k) pc ca cb has).0 (λ z e fits now3 out holds.
        moved (site k) len (go (integer_words (result_kind op j) z) env2 s now now3 last2 (result_fits z fits) vars2 st2 same out holds))))

    -- the operation with a constant, on integers of a kind
    abbrev Operates : (new old bits pc : ℕ) → (slots last : Slots) → Env → Still → (Option (List ℕ) → Rest) → ℕ → Kind → Type 0
    Operates new old bits pc slots last env s next u i =
        HasOperation (site k) pc k.ways.line (operator_by op i new old bits) → OperatorGoesOn (site k) k.ways pc new slots last env s next op i u bits → Run k (quotient k.ways (option_map (integer_words (result_kind op i)) (computed op i u bits)) env s next) pc slots last s

    by_constant : (bits : ℕ) (signed : Bool) → j ≡ word_kind signed → c.known ≡ Some bits → is_swapped op ≡ false → (x : List ℕ) (new old to pc : ℕ) (slots last : Slots) (env : Env) (s : Still) (task : List ℕ → Rest) (next : Option (List ℕ) → Rest) → ((y : List ℕ) (env : Env) (s : Still) → task y env s ≡ quotient k.ways (operated op j x y) env s next) → UnitsOf k (ty.Integer j) x → HasVars k env slots → Has k pc (here (spot k) (operator_by op j new old bits)) → Holds slots old x → GoesChanged new to (pc + 1) env slots next → Run k (value o env s task) pc slots last s
    by_constant bits signed ej known sw x new old to pc slots last env s task next is fx vars has hx go =
        let constant = hc.known bits known in
        let one = one_word 0 x (subst (λ us. AreOf us x) (ap (λ q. units_in k.ways.program (ty.Integer q)) ej ∙ word_units signed) fx) in
        let y = integer_words (kind_of (ty.Integer j)) bits in
        let ey : y ≡ bits ∷ [] = ap (λ q. integer_words q bits) (kind_of_integer j ∙ ej) ∙ word_words signed in
        let both : computed op j (bits_of x) (bits_of y) ≡ computed op j one.word bits = ap (λ q. computed op j (bits_of q) (bits_of y)) one.is ∙ ap (λ q. computed op j one.word (bits_of q)) ey in
        comes_out (site k) (constant.means env s (λ p env s. needed p env s task))
        (comes_out (site k) (is y env s ∙ ap (λ c. quotient k.ways (option_map (integer_words (result_kind op j)) c) env s next) both)
        (in_kind signed ej one.word (subst (Holds slots old) one.is hx).0 has.0 (λ z e fits now3 out holds. go (integer_words (result_kind op j) z) env s slots now3 last (result_fits z fits) vars (stays_refl (scene k) to slots) (λ e. refl) out holds)))
      where
        word_units : (signed : Bool) → units_in k.ways.program (ty.Integer (word_kind signed)) ≡ unit_at 0 4 ∷ []
        word_units true = units_of_kind k.ways.program kind.Int
        word_units false = units_of_kind k.ways.program kind.Uint

        word_words : (signed : Bool) → integer_words (word_kind signed) bits ≡ bits ∷ []
        word_words true = refl
        word_words false = refl

        in_kind : (signed : Bool) → j ≡ word_kind signed → (u : ℕ) → slots old ≡ Some u → Operates new old bits pc slots last env s next u j
        in_kind true ej u there = subst (Operates new old bits pc slots last env s next u) (sym ej) (λ code go. operates_by (site k) k.ways pc new slots last env s next op true u bits old sw there code go)
        in_kind false ej u there = subst (Operates new old bits pc slots last env s next u) (sym ej) (λ code go. operates_by (site k) k.ways pc new slots last env s next op false u bits old sw there code go)

    applies : (x : List ℕ) (new old to pc : ℕ) (slots last : Slots) (env : Env) (s : Still) (task : List ℕ → Rest) (next : Option (List ℕ) → Rest) → ((y : List ℕ) (env : Env) (s : Still) → task y env s ≡ quotient k.ways (operated op j x y) env s next) → UnitsOf k (ty.Integer j) x → HasRoom k to → HasVars k env slots → Has k pc (applied_by (constant_right op j c) new old to) → ((env2 : Env) (now : Slots) → HasVars k env2 now → Stays (scene k) to now slots → (c.keeps ≡ true → env2 ≡ env) → Holds now old x) → GoesChanged new to (pc + length (applied_by (constant_right op j c) new old to)) env slots next → Run k (value o env s task) pc slots last s
    applies x new old to pc slots last env s task next is fx room vars has stay go = on (constant_right op j c) refl has go
      where
        on : (r : Option ℕ) → constant_right op j c ≡ r → Has k pc (applied_by r new old to) → GoesChanged new to (pc + length (applied_by r new old to)) env slots next → Run k (value o env s task) pc slots last s
        on None e has go = by_value x new old to pc slots last env s task next is fx room vars has stay go
        on (Some bits) e has go =
            let r = known_right op j c.known bits e in
            let order = takes_in_order op j bits r.1 in
            let q = word_kinds j is_promoted order.0 in
            by_constant bits q.0 q.1 r.0 order.1 x new old to pc slots last env s task next is fx vars has (stay env slots vars (stays_refl (scene k) to slots) (λ e. refl)) go

    pub integer_changes : (i : Kind) → ChangeDoes k o (ty.Integer i) (change.Apply op j) c
    unfolding kind_of out-Ty out
    integer_changes i = record {
      not_void = integer_not_void i;
      not_array = integer_not_array i;
      few = few_words k i;
      few_in = few_words k j;
      before_fits = λ v h. converted_fits k i j v;
      behind_fits = λ v h. converted_fits k j i v;
      before_same = λ e v h. (integer_kept k i j v (keeps_of i j (same_width i j e)) h).0;
      behind_same = λ e v h. (integer_kept k j i v (keeps_of j i (sym (same_width i j e))) h).0;
      before_does = λ at pc v slots last s out has holds fits go. converts_there (width_of i == width_of j) i j (λ e. keeps_of i j (same_width i j e)) at pc v slots last s out has holds fits go;
      behind_does = λ at pc v slots last s out has holds fits go. converts_there (width_of i == width_of j) j i (λ e. keeps_of j i (sym (same_width i j e))) at pc v slots last s out has holds fits go;
      changes = applies;
    }

  -- ---- a pointer that moves

  module _ {o : Task (Option (List ℕ))} {c : Coded} (t : Ty) (word : IsWord k t) (not_array : is_array t ≡ false) (back : Bool) (hc : CodedDoes k o int c) where
    abbrev move_size : ℕ
    move_size = size_in k.ways.program (pointee t)

    abbrev moved_by : Option ℕ → (new old to : ℕ) → List Operation
    moved_by r new old to = elim r [ Some n ↦ here (spot k) (Offset new old (step_bytes back move_size n)) | None ↦ operand_code c to ++ here (spot k) (Advance back move_size new old (operand_slot c to)) ]

    abbrev Moves : (new old to : ℕ) → Option ℕ → Type 0
    Moves new old to r = (x : List ℕ) (pc : ℕ) (slots last : Slots) (env : Env) (s : Still) (task : List ℕ → Rest) (next : Option (List ℕ) → Rest) → ((y : List ℕ) (env : Env) (s : Still) → task y env s ≡ next (Some (stepped_by back move_size (bits_of x) (bits_of y) ∷ [])) env s) → UnitsOf k t x → HasRoom k to → HasVars k env slots → Has k pc (moved_by r new old to) → ((env2 : Env) (now : Slots) → HasVars k env2 now → Stays (scene k) to now slots → (c.keeps ≡ true → env2 ≡ env) → Holds now old x) → ((z : List ℕ) (env2 : Env) (s : Still) (was now last : Slots) → UnitsOf k t z → HasVars k env2 was → Stays (scene k) to was slots → (c.keeps ≡ true → env2 ≡ env) → Outside new (length z) now was → Holds now new z → Run k (next (Some z) env2 s) (pc + length (moved_by r new old to)) now last s) → Run k (value o env s task) pc slots last s

    one_fits_of : (w : ℕ) → w < 2 ^ 32 → UnitsOf k t (w ∷ [])
    one_fits_of w small = subst (λ us. AreOf us (w ∷ [])) (sym word.units) (one_fits 0 w small)

    counted : (new old to : ℕ) → Moves new old to None
    counted new old to x pc slots last env s task next is fx room vars has stay go =
        let ca = operand_code c to in
        let cb = here (spot k) (Advance back move_size new old (operand_slot c to)) in
        operand_does k hc (integer_not_void kind.Int) to pc slots last env s task room vars (has_front (site k) pc ca cb has) (λ y env2 s now last2 fy vars2 st2 hy same.
        let one = one_word 0 x (subst (λ us. AreOf us x) word.units fx) in
        let two = one_word 0 y (subst (λ us. AreOf us y) (units_of_kind k.ways.program kind.Int) fy) in
        let w = stepped_by back move_size one.word two.word in
        let same_word : stepped_by back move_size (bits_of x) (bits_of y) ≡ w = ap (λ q. stepped_by back move_size (bits_of q) (bits_of y)) one.is ∙ ap (λ q. stepped_by back move_size one.word (bits_of q)) two.is in
        let len : pc + length ca + 1 ≡ pc + length (ca ++ cb) = omega (arith, length-append ca cb) in
        comes_out (site k) (is y env2 s ∙ ap (λ q. next (Some (q ∷ [])) env2 s) same_word)
        (advance_does (site k) (has_back (site k) pc ca cb has).0 (subst (Holds now old) one.is (stay env2 now vars2 st2 same)).0 (subst (Holds now (operand_slot c to)) two.is hy).0
        (moved (site k) len (go (w ∷ []) env2 s now (put new w now) last2 (one_fits_of w (stepped_small back move_size one.word two.word)) vars2 st2 same (put_outside new w now) (put_same now new w, tt)))))

    constant_moves : (new old to n : ℕ) → c.known ≡ Some n → Moves new old to (Some n)
    constant_moves new old to n known x pc slots last env s task next is fx room vars has stay go =
        let constant = hc.known n known in
        let one = one_word 0 x (subst (λ us. AreOf us x) word.units fx) in
        let y = integer_words (kind_of int) n in
        let ey : bits_of y ≡ n = ap (λ q. bits_of (integer_words q n)) (kind_of_integer kind.Int) in
        let w = sum one.word (step_bytes back move_size n) in
        let same_word : stepped_by back move_size (bits_of x) (bits_of y) ≡ w = ap (λ q. stepped_by back move_size (bits_of q) (bits_of y)) one.is ∙ (ap (λ q. stepped_by back move_size one.word q) ey ∙ stepped_is back move_size n one.word) in
        let small : w < 2 ^ 32 = omega arith in
        comes_out (site k) (constant.means env s (λ p env s. needed p env s task))
        (comes_out (site k) (is y env s ∙ ap (λ q. next (Some (q ∷ [])) env s) same_word)
        (offset_does (site k) has.0 (subst (Holds slots old) one.is (stay env slots vars (stays_refl (scene k) to slots) (λ e. refl))).0
        (go (w ∷ []) env s slots (put new w slots) last (one_fits_of w small) vars (stays_refl (scene k) to slots) (λ e. refl) (put_outside new w slots) (put_same slots new w, tt))))

    pointer_moves : (new old to : ℕ) (r : Option ℕ) → c.known ≡ r → Moves new old to r
    pointer_moves new old to None e = counted new old to
    pointer_moves new old to (Some n) e = constant_moves new old to n e

    few_units : length (units_in k.ways.program t) ≤ 2
    few_units = let e = ap length word.units in omega (arith, e)

    pub pointer_changes : ChangeDoes k o t (change.Move back) c
    pointer_changes = record {
      not_void = word.not_void;
      not_array = not_array;
      few = few_units;
      few_in = few_units;
      before_fits = λ v h. h;
      behind_fits = λ v h. h;
      before_same = λ e v h. refl;
      behind_same = λ e v h. refl;
      before_does = λ at pc v slots last s out has holds fits go. let z : pc ≡ pc + 0 = omega arith in moved (site k) z (go slots (below_refl at slots) holds);
      behind_does = λ at pc v slots last s out has holds fits go. let z : pc ≡ pc + 0 = omega arith in moved (site k) z (go slots (below_refl at slots) holds);
      changes = λ x new old to pc slots last env s task next is fx room vars has stay go. pointer_moves new old to c.known refl x pc slots last env s task next is fx room vars has stay go;
    }
