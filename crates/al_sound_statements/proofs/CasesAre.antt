-- Cases of switches and of alts.
use Rattle.std.proofs.Common.{◌≡◌, ℕ, suc, ◌+◌, ◌<◌, ◌≤◌, ◌^◌, Bool, true, false, ◌&&◌, List, [], ◌∷◌, Option, Some, None, refl, sym, ap, ap₂, ◌∙◌, subst, arith, ℤ, pos, negsuc, lit<}
use Rattle.std.specs.Prelude.{nat_le, not, option_and_then, unsigned_abs}
use Rattle.std.specs.Int.{int_rem_euclid}
use Rattle.std.proofs.lemmas.Bool.{eq-eqb, leb-true}
use Rattle.al_base.specs.Arith.{integer_of, width_of, wrapped}
use Rattle.al_base.specs.declared.arith.Kind.{Kind}
use Rattle.al_base.specs.declared.arith.Kind.TheVariants as kind
use Rattle.al_base.specs.declared.place.Place.{Place}
use Rattle.al_typed.specs.declared.ty.Ty.{Ty, Void, Integer, Pointer', Array', Chan', Tuple', Aggregate, Function', Row_of-Ty, end_of-Ty, more_of-Ty}
use Rattle.al_typed.specs.declared.ty.Ty.TheVariants as ty
use Rattle.al_typed.specs.declared.ty.Ty.TheViews.{out-Ty}
use denote.Hole.Carrier.{out}
use Rattle.al_typed.specs.declared.program.Aggregate.{Aggregate as AggregateRow}
use Rattle.al_typed.specs.declared.expression.TExpr.{TExpr, Tuple'}
use Rattle.al_typed.specs.declared.expression.TTarget.{TTarget}
use Rattle.al_typed.specs.declared.statement.TCommunication.{TCommunication}
use Rattle.al_typed.specs.declared.statement.TStmt.{TStmt, Empty, Block', Declare, Value, Label', If', While', Do', For', Switch', Case, Default, Alt', AltCase, Par, Rescue', Raise, Goto, Return, Become, Break, Continue, Alloc, Unalloc, Check, Proc, Task}
use Rattle.al_typed.specs.declared.statement.TStmt.TheVariants as stmt
use Rattle.al_typed.specs.ExpressionForms as expr
use Rattle.al_typed.specs.Types.{is_array, is_complete, is_whole, promoted}
use Rattle.al_typed.specs.Typed.{target_type, type_of}
use Rattle.al_typed.specs.WellTyped as well
use Rattle.al_typed.specs.WellTyped.{Communicates, IsChannelOf, IsInteger, IsStatement, IsTarget, IsValue, Scope, are_sound, convert_all, is_small, is_sound, is_word, rows}
use Rattle.al_typed.proofs.StatementRules as rules
use Rattle.al_typed.proofs.StatementRules.{cases_in}
use Rattle.al_convert.specs.Kinds.{is_integer, kind_of}
use Rattle.al_constant.specs.Constants.{cast_between, constant}
use Rattle.al_environment.specs.declared.environment.Environment.{Environment}
use Rattle.al_environment.specs.declared.environment.Here.{Here}
use Rattle.al_operands.specs.declared.operand.Operand.{Operand}
use Rattle.al_operands.specs.Operands.{in_kind, plain, promoted_kind}
use Rattle.al_type_expr.specs.Nodes.{dropped_value, value_of}
use Rattle.al_statements.specs.Rules.{rule_53_has_cases, rule_56_is_integer}
use Rattle.al_statements.specs.Parts.{switched, switched_on, switched_value}
use Rattle.al_statements.specs.Cases.{alt_case, case_bits, case_faults, case_label, communicating, communication_of, form_of, into, labelled as case_labelled, received, received_for}
use Rattle.al_type_stmt.specs.declared.within.Choice.{Choice}
use Rattle.al_type_stmt.specs.declared.within.Choice.TheVariants as choice
use Rattle.al_type_stmt.specs.Statements.{alt_cases, alt_of, case_at, default_at, is_alt_case}
use Rattle.al_sound_operators.specs.Typed.{IfGood, IsOperand, IsTyped, IsUsable}
use Rattle.al_sound_nodes.specs.Nodes.{Tells}
use Rattle.al_sound_statements.specs.Statements.{IsFitExpr, nest_of}
use Rattle.al_sound_operators.proofs.TypeForms.{integer_is, kind_of-Integer, some_is}
use Rattle.al_sound_operators.proofs.SameTypes.{and_both}
use Rattle.al_sound_operators.proofs.OperatorKinds.{integer_converts, not_true, promoted-promoted_kind}
use Rattle.al_sound_operators.proofs.Outcomes.{after, asked}
use Rattle.al_sound_statements.proofs.Known.{Laws}
use Rattle.al_sound_statements.proofs.SimpleStatements.{dropped_is, plain_usable, value_is}

-- ---- values of cases

rem_below : (z : ℤ) (n : ℕ) → 0 < n → unsigned_abs (int_rem_euclid z (pos n)) < n
rem_below (pos a) n some = omega arith
rem_below (negsuc a) n some = omega arith

wrapped_below : (k : Kind) (z : ℤ) → wrapped (width_of k) z < 2 ^ width_of k
wrapped_below kind.Byte z = rem_below z (2 ^ 8) (lit< tt)
wrapped_below kind.Sint z = rem_below z (2 ^ 16) (lit< tt)
wrapped_below kind.Usint z = rem_below z (2 ^ 16) (lit< tt)
wrapped_below kind.Int z = rem_below z (2 ^ 32) (lit< tt)
wrapped_below kind.Uint z = rem_below z (2 ^ 32) (lit< tt)
wrapped_below kind.Lint z = rem_below z (2 ^ 64) (lit< tt)
wrapped_below kind.Ulint z = rem_below z (2 ^ 64) (lit< tt)

bits_are : (rs : List AggregateRow) (k : Kind) (e : TExpr) (bits : ℕ) → case_bits rs k e ≡ Some bits → IsInteger (type_of e) × (bits < 2 ^ width_of k)
unfolding case_bits
bits_are rs k e bits q = by (kind_of (type_of e)) (constant rs e) refl q
  where
    by : (f : Option Kind) (o : Option ℕ) → kind_of (type_of e) ≡ f → option_and_then (cast_between f (Some k)) o ≡ Some bits → IsInteger (type_of e) × (bits < 2 ^ width_of k)
    by None None p q = absurd (cc)
    by None (Some a) p q = absurd (cc)
    by (Some f) None p q = absurd (cc)
    by (Some f) (Some a) p q = ((f, integer_is (type_of e) f p), subst (λ (b : ℕ). b < 2 ^ width_of k) (some_is q) (wrapped_below k (integer_of f a)))

-- ---- a value is converted to its own type

first : (a b : Bool) → (a && b) ≡ true → a ≡ true
first a b h = (and_both a b h).0

no_array : (rs : List AggregateRow) (t : Ty) → is_array t ≡ true → is_whole rs t ≡ true → false ≡ true
no_array rs t a w = sym (ap not a) ∙ (and_both (is_complete rs t) (not (is_array t)) w).1

mutual
  unfolding is_complete is_array is_word out-Ty out

  converts_self : (rs : List AggregateRow) (t : Ty) → is_sound rs t ≡ true → is_whole rs t ≡ true → well.converts t t ≡ true
  converts_self rs Void o w = not_true w
  converts_self rs (Integer k) o w = refl
  converts_self rs (Pointer' _ (more_of-Ty x end_of-Ty)) o w = refl
  converts_self rs (Array' s r n) o w = not_true (no_array rs (Array' s r n) refl w)
  converts_self rs (Chan' _ (more_of-Ty x end_of-Ty) n) o w = refl
  converts_self rs (Tuple' s r) o w = convert_self rs r (first (are_sound rs r) (is_small rs (Tuple' s r)) o)
  converts_self rs (Aggregate n) o w = eq-eqb n n refl
  converts_self rs (Function' _ (more_of-Ty x end_of-Ty) _ r) o w = not_true w

  convert_self : (rs : List AggregateRow) {m : _} (r : Row_of-Ty m) → are_sound rs r ≡ true → convert_all r r ≡ true
  convert_self rs end_of-Ty o = refl
  convert_self rs (more_of-Ty x r) o =
      let b = and_both (is_sound rs x && is_whole rs x) (are_sound rs r) o in
      let c = and_both (is_sound rs x) (is_whole rs x) b.0 in
      ap₂ (λ (p q : Bool). p && q) (converts_self rs x c.0 c.1) (convert_self rs r b.1)

-- ---- what an alt waits for

nothing : {A X : Type 0} {a : A} → None ≡ Some a → X
nothing h = absurd (cc)

-- what is received and converted
into_converted : (s : Scope) (target : TTarget) (u : Ty) (e : TExpr) → IsTarget s target → IsValue s e → well.converts (type_of e) u ≡ true → target_type target ≡ u
    → (c : TCommunication) → into target (received (form_of e)) ≡ Some c → Communicates s c
unfolding IsValue form_of
into_converted s target u (expr.receive v chan) x h k y c q = subst (Communicates s) (some_is q) ((x, (h.0, (h.1, ap (well.converts v) y ∙ k))))
into_converted s target u (expr.convert v a) x h k y c q = nothing q
into_converted s target u (expr.assign v a d) x h k y c q = nothing q
into_converted s target u (expr.send v a d) x h k y c q = nothing q
into_converted s target u e x h k y c q = nothing q

-- what is received and assigned is converted to what the target takes
into_is : (s : Scope) (t : Ty) (target : TTarget) (value : TExpr) → IsTarget s target → target_type target ≡ t → IsValue s value → type_of value ≡ t
    → is_sound (rows s) t ≡ true → is_whole (rows s) t ≡ true → (c : TCommunication) → into target (received_for (form_of value)) ≡ Some c → Communicates s c
unfolding IsValue form_of
into_is s t target (expr.receive u chan) x y v z o w c q =
    subst (Communicates s) (some_is q) ((x, (v.0, (v.1, ap (well.converts u) y ∙ ap (λ k. well.converts k t) z ∙ converts_self (rows s) t o w))))
into_is s t target (expr.convert u a) x y k z o w c q = into_converted s target u a x k.1.0 k.1.1 (y ∙ sym z) c q
into_is s t target (expr.assign u a d) x y k z o w c q = nothing q
into_is s t target (expr.send u a d) x y k z o w c q = nothing q
into_is s t target value x y k z o w c q = nothing q

communicates : (s : Scope) (e : TExpr) → IsTyped s e → (c : TCommunication) → communication_of (form_of e) ≡ Some c → Communicates s c
unfolding IsValue form_of
communicates s (expr.receive t chan) h c q = subst (Communicates s) (some_is q) h.value
communicates s (expr.send t chan value) h c q = subst (Communicates s) (some_is q) h.value.1
communicates s (expr.assign t target value) h c q = let v = h.value in into_is s t target value v.1.0 v.1.1.0 v.1.1.1.0 v.1.1.1.1 h.sound v.0 c q
communicates s (expr.convert t a) h c q = nothing q
communicates s e h c q = nothing q

-- ---- cases

module _ (law : Laws) (s : Scope) (number b l : ℕ) where
  case_label_is : (k : Kind) (at : Place) (x : Operand) → IsOperand s x → IfGood (case_label (rows s) k at x) (IsStatement s (nest_of number b l (choice.Switch k)))
  unfolding case_label
  case_label_is k at x o =
      after (IsUsable s) (IsStatement s (nest_of number b l (choice.Switch k))) (plain x) (λ e. case_labelled at e (case_bits (rows s) k e)) (plain_usable law s x o)
      (λ e u. on e u (case_bits (rows s) k e) refl)
    where
      on : (e : TExpr) → IsUsable s e → (m : Option ℕ) → case_bits (rows s) k e ≡ m → IfGood (case_labelled at e m) (IsStatement s (nest_of number b l (choice.Switch k)))
      on e u None q = tt
      on e u (Some bits) q = rw (rules.IsStatement-Case s (nest_of number b l (choice.Switch k)) e bits) ((u.value, bits_are (rows s) k e bits q))

  alt_case_is : (at : Place) (e : TExpr) → IsTyped s e → IfGood (alt_case at e) (IsStatement s (nest_of number b l choice.Alt))
  unfolding alt_case
  alt_case_is at e h = on (communication_of (form_of e)) refl
    where
      on : (o : Option TCommunication) → communication_of (form_of e) ≡ o → IfGood (communicating at o) (IsStatement s (nest_of number b l choice.Alt))
      on None q = tt
      on (Some c) q = rw (rules.IsStatement-AltCase s (nest_of number b l choice.Alt) c) (communicates s e h c q)

  pub default_is : (at : Place) (c : Choice) → IfGood (default_at at c) (IsStatement s (nest_of number b l c))
  unfolding default_at
  default_is at choice.Neither = tt
  default_is at (choice.Switch k) = rw (rules.IsStatement-Default s (nest_of number b l (choice.Switch k))) tt
  default_is at choice.Alt = tt

  pub case_is : (env : Environment) (here : Here) (tells : Tells s env here) (at : Place) (e : _) → IsFitExpr s env here e → (c : Choice)
      → IfGood (case_at env here at e c) (IsStatement s (nest_of number b l c))
  unfolding case_at
  case_is env here tells at e f choice.Neither = tt
  case_is env here tells at e f (choice.Switch k) =
      after (IsOperand s) (IsStatement s (nest_of number b l (choice.Switch k))) (value_of env here e) (case_label env.aggregates k at)
      (value_is law s (nest_of number b l (choice.Switch k)) env here tells e f)
      (λ x o. subst (λ rs. IfGood (case_label rs k at x) (IsStatement s (nest_of number b l (choice.Switch k)))) (sym tells.aggregates) (case_label_is k at x o))
  case_is env here tells at e f choice.Alt =
      after (IsTyped s) (IsStatement s (nest_of number b l choice.Alt)) (dropped_value env here e) (alt_case at)
      (dropped_is law s (nest_of number b l choice.Alt) env here tells e f) (λ v h. alt_case_is at v h)

-- ---- how many cases there are

one_more : (m n : ℕ) → m ≡ n → suc m ≡ 1 + n
one_more m n h = omega arith

cases_same : (xs : List TStmt) → alt_cases xs ≡ cases_in xs
unfolding is_alt_case
cases_same [] = refl
cases_same (AltCase _ ∷ rest) = one_more (alt_cases rest) (cases_in rest) (cases_same rest)
cases_same (Empty _ ∷ rest) = cases_same rest
cases_same (Block' _ _ _ ∷ rest) = cases_same rest
cases_same (Declare _ _ ∷ rest) = cases_same rest
cases_same (Value _ _ _ ∷ rest) = cases_same rest
cases_same (Label' _ _ _ _ ∷ rest) = cases_same rest
cases_same (If' _ _ _ _ _ ∷ rest) = cases_same rest
cases_same (While' _ _ _ _ ∷ rest) = cases_same rest
cases_same (Do' _ _ _ _ ∷ rest) = cases_same rest
cases_same (For' _ _ _ _ _ _ ∷ rest) = cases_same rest
cases_same (Switch' _ _ _ _ ∷ rest) = cases_same rest
cases_same (Case _ _ ∷ rest) = cases_same rest
cases_same (Default ∷ rest) = cases_same rest
cases_same (Alt' _ _ _ ∷ rest) = cases_same rest
cases_same (Par _ _ ∷ rest) = cases_same rest
cases_same (Rescue' _ _ _ _ ∷ rest) = cases_same rest
cases_same (Raise _ _ ∷ rest) = cases_same rest
cases_same (Goto _ _ ∷ rest) = cases_same rest
cases_same (Return _ _ ∷ rest) = cases_same rest
cases_same (Become _ _ ∷ rest) = cases_same rest
cases_same (Break _ _ ∷ rest) = cases_same rest
cases_same (Continue _ _ ∷ rest) = cases_same rest
cases_same (Alloc _ _ ∷ rest) = cases_same rest
cases_same (Unalloc _ _ ∷ rest) = cases_same rest
cases_same (Check _ _ ∷ rest) = cases_same rest
cases_same (Proc _ _ ∷ rest) = cases_same rest
cases_same (Task _ _ ∷ rest) = cases_same rest

has_cases : (n : ℕ) → rule_53_has_cases n ≡ true → (1 ≤ n) × (n ≤ 64)
unfolding rule_53_has_cases
has_cases n h = let b = and_both (nat_le 1 n) (nat_le n 64) h in (leb-true 1 n b.0, leb-true n 64 b.1)

pub alt_of_is : (s : Scope) (number b l : ℕ) (c : Choice) (at : Place) (ss : List TStmt) → rules.EachStatement s (nest_of number (b + 1) l choice.Alt) ss
    → IfGood (alt_of at ss) (IsStatement s (nest_of number b l c))
unfolding case_faults
alt_of_is s number b l c at ss h =
    asked (IsStatement s (nest_of number b l c)) 53 at (rule_53_has_cases (alt_cases ss)) (stmt.Alt at.line ss)
    (λ q. let r = has_cases (cases_in ss) (sym (ap rule_53_has_cases (cases_same ss)) ∙ q) in rw (rules.IsStatement-Alt s (nest_of number b l c) at.line ss) ((r.0, (r.1, h))))

-- ---- the value of a switch

abbrev pub IsSwitched : Scope → TExpr → Type 0
IsSwitched s v = IsValue s v × ((k : Kind) × ((type_of v ≡ ty.Integer k) × (promoted k ≡ k)))

switched_value_is : (law : Laws) (s : Scope) (at : Place) (e : TExpr) → IsUsable s e → IfGood (switched_value at e) (IsSwitched s)
unfolding switched_value switched_on rule_56_is_integer
switched_value_is law s at e u =
    asked (IsSwitched s) 56 at (is_integer (type_of e)) (in_kind (promoted_kind (type_of e)) e)
    (λ q. let i = law.operands.in_kind s (promoted_kind (type_of e)) e u (integer_converts (type_of e) (promoted_kind (type_of e)) q) in
    (i.usable.value, (promoted_kind (type_of e), (i.is, promoted-promoted_kind (type_of e)))))

pub switched_is : (law : Laws) (s : Scope) (at : Place) (x : Operand) → IsOperand s x → IfGood (switched at x) (IsSwitched s)
unfolding switched
switched_is law s at x o = after (IsUsable s) (IsSwitched s) (plain x) (switched_value at) (plain_usable law s x o) (λ e u. switched_value_is law s at e u)

-- by its kind
pub switched_kind : (s : Scope) (v : TExpr) (k : Kind) → IsSwitched s v → kind_of (type_of v) ≡ Some k → IsValue s v × ((type_of v ≡ ty.Integer k) × (promoted k ≡ k))
switched_kind s v k h q =
    let same : h.1.0 ≡ k = some_is (sym (kind_of-Integer h.1.0) ∙ sym (ap kind_of h.1.1.0) ∙ q) in
    (h.0, (integer_is (type_of v) k q, subst (λ j. promoted j ≡ j) same h.1.1.1))
