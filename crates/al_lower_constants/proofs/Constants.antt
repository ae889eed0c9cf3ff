-- A constant expression gives its constant, at once.
use Rattle.std.proofs.Common.{◌≡◌, ℕ, ◌≤◌, ◌<◌, ◌^◌, nat_le, List, [], ◌∷◌, Option, Some, None, refl, sym, ap, ap₂, ◌∙◌, subst, arith}
use Rattle.std.specs.Prelude.{Bool, true, false, ◌==◌, ◌&&◌, ◌||◌, not, if◌then◌else◌, option_and_then, option_map}
use Rattle.std.proofs.lemmas.Grind.{common_steps}
use Rattle.al_base.specs.Arith.{width_of, integer_of, wrapped}
use Rattle.al_base.specs.declared.arith.Kind.{Kind}
use Rattle.al_base.specs.declared.arith.Kind.TheVariants as kind
use Rattle.al_typed.specs.declared.ty.Ty.{Ty, Void, Integer, Pointer', Array', Chan', Tuple', Aggregate, Function', Row_of-Ty}
use Rattle.al_typed.specs.declared.ty.Ty.TheVariants as ty
use Rattle.al_typed.specs.declared.ty.Ty.TheViews.{out-Ty}
use denote.Hole.Carrier.{out}
use Rattle.al_typed.specs.declared.expression.UnaryOp.{UnaryOp}
use Rattle.al_typed.specs.declared.expression.BinaryOp.{BinaryOp}
use Rattle.al_typed.specs.declared.expression.Logic.{Logic}
use Rattle.al_typed.specs.declared.expression.Logic.TheVariants as logic
use Rattle.al_typed.specs.declared.expression.TExpr.{TExpr, Constant, SizeofType}
use Rattle.al_typed.specs.declared.expression.TPlace.{TPlace}
use Rattle.al_typed.specs.ExpressionForms as form
use Rattle.al_typed.specs.Types.{int}
use Rattle.al_typed.specs.Layout.{size_of}
use Rattle.al_typed.specs.Typed.{type_of, place_type}
use Rattle.al_typed.specs.WellTyped.{IsPromoted, AreBitsOf, result_kind}
use Rattle.al_convert.specs.Kinds.{kind_of}
use Rattle.al_constant.specs.Constants.{constant, size_constant, operated, operated_at, negated, decided, cast, cast_between, both, truth as truth_bits}
use Rattle.al_meaning.specs.Words.{bits_of, integer_words, computed, operated_once, converted, is_zero, truth}
use Rattle.al_meaning.specs.Shown as shown
use Rattle.al_meaning.specs.Tasks.{Still, Env, Rest, Task, Ways}
use Rattle.al_meaning.specs.Told.{told, value, needed, quotient, logical_by}
use Rattle.al_lower_constants.proofs.Operators.{wrapped_within, bits_are, zero_are, kind_some, kind_shown, some_is, once_is, computed_is, computed_within}

integer_same : (a b : Kind) → ty.Integer a ≡ ty.Integer b → a ≡ b
integer_same a b e = sym (kind_shown a) ∙ (ap shown.kind_of e ∙ kind_shown b)

integer_is : (t : Ty) (j : Kind) → kind_of t ≡ Some j → t ≡ ty.Integer j
unfolding kind_of out-Ty out
integer_is (Integer i) j e = let same : i ≡ j = cc in ap ty.Integer same
integer_is Void j e = absurd (cc)
integer_is (Pointer' _ to) j e = absurd (cc)
integer_is (Array' _ element count) j e = absurd (cc)
integer_is (Chan' _ element capacity) j e = absurd (cc)
integer_is (Tuple' _ parts) j e = absurd (cc)
integer_is (Aggregate number) j e = absurd (cc)
integer_is (Function' _ returns _ parameters) j e = absurd (cc)

one_word : (b : Bool) → truth b ≡ truth_bits b ∷ []
one_word true = refl
one_word false = refl

truth_small : (b : Bool) → truth_bits b < 2 ^ 32
truth_small true = omega arith
truth_small false = omega arith

module _ (w : Ways) where
  -- it gives these bits of its kind, whatever is stored
  pub record Means (e : TExpr) (bits : ℕ) : Type 0 where
    pub kind : Kind
    pub type : type_of e ≡ ty.Integer kind
    pub small : bits < 2 ^ width_of kind
    pub means : (env : Env) (s : Still) (next : Option (List ℕ) → Rest) → told e w env s next ≡ next (Some (integer_words kind bits)) env s

  abbrev pub IsConstant : TExpr → Type 0
  IsConstant e = (bits : ℕ) → constant w.program.aggregates e ≡ Some bits → Means e bits

  pub constant_is : (t : Ty) (n : ℕ) → AreBitsOf t n → IsConstant (Constant t n)
  unfolding constant
  constant_is t n (j, (tj, lt)) bits e =
      let same : n ≡ bits = some_is n bits e in
      record {
        kind = j;
        type = tj;
        small = subst (λ m. m < 2 ^ width_of j) same lt;
        means = λ env s next. ap₂ (λ q m. next (Some (integer_words q m)) env s) (ap shown.kind_of tj ∙ kind_shown j) same;
      }

  sized : (of : Ty) (bits : ℕ) → size_constant w.program.aggregates of ≡ Some bits → (size_of w.program.aggregates of ≡ bits) × (bits < 2 ^ 32)
  unfolding size_constant
  sized of bits e = on (nat_le (size_of w.program.aggregates of) 268435456) refl e
    where
      on : (b : Bool) → nat_le (size_of w.program.aggregates of) 268435456 ≡ b → (if b then Some (size_of w.program.aggregates of) else None) ≡ Some bits → (size_of w.program.aggregates of ≡ bits) × (bits < 2 ^ 32)
      on true q x =
          let is = some_is _ bits x in
          let le : size_of w.program.aggregates of ≤ 268435456 = grind (arith, common_steps, q) in
          (is, omega (arith, is, le))
      on false q x = absurd (cc)

  pub sizeof_type_is : (t of : Ty) → t ≡ int → IsConstant (SizeofType t of)
  unfolding constant
  sizeof_type_is t of ti bits e = let x = sized of bits e in record { kind = kind.Int; type = ti; small = x.1; means = λ env s next. ap (λ n. next (Some (n ∷ [])) env s) x.0 }

  pub sizeof_place_is : (t : Ty) (place : TPlace) → t ≡ int → IsConstant (form.sizeof_place t place)
  unfolding constant
  sizeof_place_is t place ti bits e = let x = sized (place_type place) bits e in record { kind = kind.Int; type = ti; small = x.1; means = λ env s next. ap (λ n. next (Some (n ∷ [])) env s) x.0 }

  pub sizeof_value_is : (t : Ty) (of : TExpr) → t ≡ int → IsConstant (form.sizeof_value t of)
  unfolding constant
  sizeof_value_is t of ti bits e = let x = sized (type_of of) bits e in record { kind = kind.Int; type = ti; small = x.1; means = λ env s next. ap (λ n. next (Some (n ∷ [])) env s) x.0 }

  pub unary_is : (t : Ty) (op : UnaryOp) (of : TExpr) → IsPromoted t → type_of of ≡ t → IsConstant of → IsConstant (form.unary t op of)
  unfolding constant operated_at
  unary_is t op of (j, (tj, pj)) same h bits e = on (constant w.program.aggregates of) refl e
    where
      on : (c : Option ℕ) → constant w.program.aggregates of ≡ c → option_and_then (operated_at op (kind_of t)) c ≡ Some bits → Means (form.unary t op of) bits
      on None q x = absurd (cc)
      on (Some a) q x =
          let m = h a q in
          let kinds : m.kind ≡ j = integer_same m.kind j (sym m.type ∙ (same ∙ tj)) in
          let known : operated_at op (kind_of t) a ≡ operated_at op (Some j) a = ap (λ o. operated_at op o a) (ap kind_of tj ∙ kind_some j) in
          let y = once_is op j a bits (subst (λ q. a < 2 ^ width_of q) kinds m.small) (sym known ∙ x) in
          record {
            kind = j;
            type = tj;
            small = y.1;
            means = λ env s next.
                m.means env s (λ o env s. needed o env s (λ v env s. next (Some (operated_once op (shown.kind_of t) v)) env s))
                ∙ (ap₂ (λ p q. next (Some (operated_once op p (integer_words q a))) env s) (ap shown.kind_of tj ∙ kind_shown j) kinds ∙ ap (λ v. next (Some v) env s) y.0);
          }

  pub negation_is : (t : Ty) (of : TExpr) → t ≡ int → IsConstant of → IsConstant (form.negation t of)
  unfolding constant negated
  negation_is t of ti h bits e = on (constant w.program.aggregates of) refl e
    where
      on : (c : Option ℕ) → constant w.program.aggregates of ≡ c → option_and_then negated c ≡ Some bits → Means (form.negation t of) bits
      on None q x = absurd (cc)
      on (Some a) q x =
          let m = h a q in
          let is : truth_bits (a == 0) ≡ bits = some_is _ bits x in
          record {
            kind = kind.Int;
            type = ti;
            small = subst (λ n. n < 2 ^ 32) is (truth_small (a == 0));
            means = λ env s next.
                m.means env s (λ o env s. needed o env s (λ v env s. next (Some (truth (is_zero v))) env s))
                ∙ (ap (λ b. next (Some (truth b)) env s) (zero_are m.kind a) ∙ (ap (λ v. next (Some v) env s) (one_word (a == 0)) ∙ ap (λ n. next (Some (n ∷ [])) env s) is));
          }

  pub binary_is : (t : Ty) (op : BinaryOp) (j : Kind) (left right : TExpr) → t ≡ ty.Integer (result_kind op j) → IsConstant left → IsConstant right → IsConstant (form.binary t op j left right)
  unfolding constant
  binary_is t op j left right tj hl hr bits e = on (constant w.program.aggregates left) (constant w.program.aggregates right) refl refl e
    where
      on : (c d : Option ℕ) → constant w.program.aggregates left ≡ c → constant w.program.aggregates right ≡ d → both (operated op j) c d ≡ Some bits → Means (form.binary t op j left right) bits
      on None d p q x = absurd (cc)
      on (Some a) None p q x = absurd (cc)
      on (Some a) (Some b) p q x =
          let m = hl a p in
          let n = hr b q in
          let is : computed op j a b ≡ Some bits = sym (computed_is op j a b) ∙ x in
          let words : computed op j (bits_of (integer_words m.kind a)) (bits_of (integer_words n.kind b)) ≡ Some bits = ap₂ (computed op j) (bits_are m.kind a) (bits_are n.kind b) ∙ is in
          record {
            kind = result_kind op j;
            type = tj;
            small = computed_within op j a b bits is;
            means = λ env s next.
                m.means env s (λ o env s. needed o env s (λ u env s. value (told right w) env s (λ v env s. quotient w (option_map (integer_words (result_kind op j)) (computed op j (bits_of u) (bits_of v))) env s next)))
                ∙ (n.means env s (λ o env s. needed o env s (λ v env s. quotient w (option_map (integer_words (result_kind op j)) (computed op j (bits_of (integer_words m.kind a)) (bits_of v))) env s next))
                ∙ ap (λ c. quotient w (option_map (integer_words (result_kind op j)) c) env s next) words);
          }

  -- the right side is found only where it decides
  abbrev right_truth : TExpr → Task (Option (List ℕ))
  right_truth right env s next = value (told right w) env s (λ v env s. next (Some (truth (not (is_zero v)))) env s)

  abbrev known_truth : Bool → Task (Option (List ℕ))
  known_truth b env s next = next (Some (truth b)) env s

  decides_and : (right : TExpr) (a b : ℕ) (u : List ℕ) → is_zero u ≡ (a == 0) → Means right b → (env : Env) (s : Still) (next : Option (List ℕ) → Rest) → logical_by w true u (value (told right w)) env s next ≡ next (Some (truth_bits (not (a == 0) && not (b == 0)) ∷ [])) env s
  decides_and right a b u z n env s next = ap (λ q. (if q then known_truth false else right_truth right) env s next) z ∙ on (a == 0)
    where
      on : (q : Bool) → (if q then known_truth false else right_truth right) env s next ≡ next (Some (truth_bits (not q && not (b == 0)) ∷ [])) env s
      on true = refl
      on false = n.means env s (λ o env s. needed o env s (λ v env s. next (Some (truth (not (is_zero v)))) env s)) ∙ (ap (λ q. next (Some (truth (not q))) env s) (zero_are n.kind b) ∙ ap (λ v. next (Some v) env s) (one_word (not (b == 0))))

  decides_or : (right : TExpr) (a b : ℕ) (u : List ℕ) → is_zero u ≡ (a == 0) → Means right b → (env : Env) (s : Still) (next : Option (List ℕ) → Rest) → logical_by w false u (value (told right w)) env s next ≡ next (Some (truth_bits (not (a == 0) || not (b == 0)) ∷ [])) env s
  decides_or right a b u z n env s next = ap (λ q. (if q then right_truth right else known_truth true) env s next) z ∙ on (a == 0)
    where
      on : (q : Bool) → (if q then right_truth right else known_truth true) env s next ≡ next (Some (truth_bits (not q || not (b == 0)) ∷ [])) env s
      on false = refl
      on true = n.means env s (λ o env s. needed o env s (λ v env s. next (Some (truth (not (is_zero v)))) env s)) ∙ (ap (λ q. next (Some (truth (not q))) env s) (zero_are n.kind b) ∙ ap (λ v. next (Some v) env s) (one_word (not (b == 0))))

  pub and_is : (t : Ty) (left right : TExpr) → t ≡ int → IsConstant left → IsConstant right → IsConstant (form.logical t logic.And left right)
  unfolding constant decided
  and_is t left right ti hl hr bits e = on (constant w.program.aggregates left) (constant w.program.aggregates right) refl refl e
    where
      on : (c d : Option ℕ) → constant w.program.aggregates left ≡ c → constant w.program.aggregates right ≡ d → both (decided logic.And) c d ≡ Some bits → Means (form.logical t logic.And left right) bits
      on None d p q x = absurd (cc)
      on (Some a) None p q x = absurd (cc)
      on (Some a) (Some b) p q x =
          let m = hl a p in
          let is : truth_bits (not (a == 0) && not (b == 0)) ≡ bits = some_is _ bits x in
          record {
            kind = kind.Int;
            type = ti;
            small = subst (λ n. n < 2 ^ 32) is (truth_small (not (a == 0) && not (b == 0)));
            means = λ env s next. m.means env s (λ o env s. needed o env s (λ u env s. logical_by w true u (value (told right w)) env s next)) ∙ (decides_and right a b (integer_words m.kind a) (zero_are m.kind a) (hr b q) env s next ∙ ap (λ n. next (Some (n ∷ [])) env s) is);
          }

  pub or_is : (t : Ty) (left right : TExpr) → t ≡ int → IsConstant left → IsConstant right → IsConstant (form.logical t logic.Or left right)
  unfolding constant decided
  or_is t left right ti hl hr bits e = on (constant w.program.aggregates left) (constant w.program.aggregates right) refl refl e
    where
      on : (c d : Option ℕ) → constant w.program.aggregates left ≡ c → constant w.program.aggregates right ≡ d → both (decided logic.Or) c d ≡ Some bits → Means (form.logical t logic.Or left right) bits
      on None d p q x = absurd (cc)
      on (Some a) None p q x = absurd (cc)
      on (Some a) (Some b) p q x =
          let m = hl a p in
          let is : truth_bits (not (a == 0) || not (b == 0)) ≡ bits = some_is _ bits x in
          record {
            kind = kind.Int;
            type = ti;
            small = subst (λ n. n < 2 ^ 32) is (truth_small (not (a == 0) || not (b == 0)));
            means = λ env s next. m.means env s (λ o env s. needed o env s (λ u env s. logical_by w false u (value (told right w)) env s next)) ∙ (decides_or right a b (integer_words m.kind a) (zero_are m.kind a) (hr b q) env s next ∙ ap (λ n. next (Some (n ∷ [])) env s) is);
          }

  -- from one kind to another
  cast_means : (t : Ty) (of : TExpr) (a bits : ℕ) → Means of a → cast (type_of of) t a ≡ Some bits → (i : Kind) × ((t ≡ ty.Integer i) × ((bits < 2 ^ width_of i) × ((env : Env) (s : Still) (next : Option (List ℕ) → Rest) → value (told of w) env s (λ v env s. next (Some (converted w.program.aggregates (type_of of) t v)) env s) ≡ next (Some (integer_words i bits)) env s)))
  unfolding cast
  cast_means t of a bits m e = on (kind_of t) refl (sym (ap (λ o. cast_between o (kind_of t) a) (ap kind_of m.type ∙ kind_some m.kind)) ∙ e)
    where
      on : (o : Option Kind) → kind_of t ≡ o → cast_between (Some m.kind) o a ≡ Some bits → (i : Kind) × ((t ≡ ty.Integer i) × ((bits < 2 ^ width_of i) × ((env : Env) (s : Still) (next : Option (List ℕ) → Rest) → value (told of w) env s (λ v env s. next (Some (converted w.program.aggregates (type_of of) t v)) env s) ≡ next (Some (integer_words i bits)) env s)))
      on None q x = absurd (cc)
      on (Some i) q x =
          let is : wrapped (width_of i) (integer_of m.kind a) ≡ bits = some_is _ bits x in
          let ti : t ≡ ty.Integer i = integer_is t i q in (
            i,
            (
              ti,
              (
                subst (λ n. n < 2 ^ width_of i) is (wrapped_within (width_of i) (integer_of m.kind a)),
                λ env s next.
                    m.means env s (λ o env s. needed o env s (λ v env s. next (Some (converted w.program.aggregates (type_of of) t v)) env s))
                    ∙ (ap₂ (λ p q. next (Some (converted w.program.aggregates p q (integer_words m.kind a))) env s) m.type ti
                    ∙ ap (λ n. next (Some (integer_words i n)) env s) (ap (λ n. wrapped (width_of i) (integer_of m.kind n)) (bits_are m.kind a) ∙ is)),
              ),
            ),
          )

  pub cast_is : (t : Ty) (of : TExpr) → IsConstant of → IsConstant (form.cast t of)
  unfolding constant
  cast_is t of h bits e = on (constant w.program.aggregates of) refl e
    where
      on : (c : Option ℕ) → constant w.program.aggregates of ≡ c → option_and_then (cast (type_of of) t) c ≡ Some bits → Means (form.cast t of) bits
      on None q x = absurd (cc)
      on (Some a) q x = let y = cast_means t of a bits (h a q) x in record { kind = y.0; type = y.1.0; small = y.1.1.0; means = y.1.1.1 }

  pub convert_is : (t : Ty) (of : TExpr) → IsConstant of → IsConstant (form.convert t of)
  unfolding constant
  convert_is t of h bits e = on (constant w.program.aggregates of) refl e
    where
      on : (c : Option ℕ) → constant w.program.aggregates of ≡ c → option_and_then (cast (type_of of) t) c ≡ Some bits → Means (form.convert t of) bits
      on None q x = absurd (cc)
      on (Some a) q x = let y = cast_means t of a bits (h a q) x in record { kind = y.0; type = y.1.0; small = y.1.1.0; means = y.1.1.1 }
