-- What a value alone starts a part of a global with.
use Rattle.std.proofs.Common.{◌≡◌, inl, inr, ℕ, ◌+◌, ◌/◌, ◌%◌, ◌^◌, ◌<◌, Bool, true, false, List, [], ◌∷◌, Option, Some, None, refl, sym, ap, ◌∙◌, subst, arith, zero, suc, zero-lt-suc, suc-le-suc, ℤ, pos, negsuc, lit<}
use Rattle.std.specs.Prelude.{All, Contains, ◌⊎◌, if◌then◌else◌, is_some, ◌||◌, option_map, option_and_then, unsigned_abs}
use Rattle.std.specs.Int.{int_rem_euclid}
use Rattle.std.proofs.lemmas.List.Elements.{All-cons, All-nil, All-weaker}
use Rattle.al_base.specs.Arith.{integer_of, width_of, wrapped}
use Rattle.al_base.specs.declared.arith.Kind.{Kind}
use Rattle.al_base.specs.declared.arith.Kind.TheVariants as kind
use Rattle.al_base.specs.declared.place.Place.{Place}
use Rattle.al_rules.specs.Outcome.{Good, ask, judge}
use Rattle.al_typed.specs.declared.ty.Ty.{Ty, roll-Ty}
use Rattle.al_typed.specs.declared.ty.Ty.TheOpen.{Ty-F}
use Rattle.al_typed.specs.declared.ty.Ty.TheVariants as ty
use Rattle.al_typed.specs.declared.ty.Ty.TheViews.{out-Ty, roll-out-Ty}
use Rattle.al_typed.specs.declared.layout.Unit.{Unit}
use Rattle.al_typed.specs.declared.program.Aggregate.{Aggregate}
use Rattle.al_typed.specs.declared.program.Global.{Global}
use Rattle.al_typed.specs.declared.program.Program.{Program}
use Rattle.al_typed.specs.declared.program.StartValue.{StartValue}
use Rattle.al_typed.specs.declared.program.StartWord.{StartWord}
use Rattle.al_typed.specs.declared.program.StartWord.TheVariants as word
use Rattle.al_typed.specs.declared.expression.TExpr.{TExpr}
use Rattle.al_typed.specs.Types.{bytes_of, is_scalar, is_scalar_at}
use Rattle.al_typed.specs.Typed.{type_of}
use Rattle.al_typed.specs.Layout.{Layout, moved, of_bytes, unit_at, units_of}
use Rattle.al_typed.specs.WellTyped.{FitsIn, Starts}
use Rattle.al_typed.proofs.Layouts.{layout-Chan, layout-Integer, layout-Pointer}
use Rattle.al_typed.proofs.Placing.{moved-none}
use Rattle.al_convert.specs.declared.literal.Literal.{Literal, out-Literal, roll-Literal, fold-Literal, fold-roll-Literal}
use Rattle.al_convert.specs.declared.literal.Literal.TheViews.{roll-out-Literal}
use Rattle.al_convert.specs.declared.literal.Literal.TheOpen.{Literal-F}
use Rattle.al_convert.specs.Conversions.{Conversion, converts, converts_step, takes_nil}
use Rattle.al_convert.specs.Kinds.{is_channel, kind_at, kind_of}
use Rattle.al_convert.specs.Same.{pointed}
use Rattle.al_constant.specs.Constants.{cast_between, constant}
use Rattle.al_operands.specs.declared.operand.Operand.{Operand}
use Rattle.al_operands.specs.Rules.{is_byte_at, is_text, rule_33_converts}
use Rattle.al_sound_programs.specs.Unnamed.{Start}
use Rattle.al_initial.specs.Start.{constant_start, integer_bits, integer_start, is_null, is_null_at, start_in, start_of, started, text_of, text_word, value, values_at, word_of}
use Rattle.al_sound_programs.specs.Starts.{AreStarts, StartsIn, TextIsThere}
use Rattle.al_sound_operators.proofs.Outcomes.{and_then_good, judge_good}
use Rattle.al_sound_operators.proofs.TypeForms.{a_channel, a_pointer, integer_is}

good_is : {A : Type 0} {a b : A} → Good a ≡ Good b → a ≡ b
good_is h = cc

some_is : {A : Type 0} {a b : A} → Some a ≡ Some b → a ≡ b
some_is h = cc

mapped_some : {A B : Type 0} (f : A → B) (o : Option A) (b : B) → option_map f o ≡ Some b → (a : A) × (o ≡ Some a) × (f a ≡ b)
mapped_some f (Some a) b e = (a, refl, some_is e)
mapped_some f None b e = absurd (cc)

-- ---- bits

rem_below : (z : ℤ) (n : ℕ) → 0 < n → unsigned_abs (int_rem_euclid z (pos n)) < n
rem_below (pos a) n some = omega arith
rem_below (negsuc a) n some = omega arith

wrapped_below : (k : Kind) (z : ℤ) → wrapped (width_of k) z < 2 ^ width_of k
wrapped_below kind.Byte z = rem_below z (2 ^ 8) (lit< tt)
wrapped_below kind.Sint z = rem_below z (2 ^ 16) (lit< tt)
wrapped_below kind.Usint z = rem_below z (2 ^ 16) (lit< tt)
wrapped_below kind.Int z = rem_below z (2 ^ 32) (lit< tt)
wrapped_below kind.Uint z = rem_below z (2 ^ 32) (lit< tt)
wrapped_below kind.Lint z = rem_below z (2 ^ 64) (lit< tt)
wrapped_below kind.Ulint z = rem_below z (2 ^ 64) (lit< tt)

cast_below : (from : Option Kind) (k : Kind) (a b : ℕ) → cast_between from (Some k) a ≡ Some b → b < 2 ^ width_of k
cast_below None k a b e = absurd (cc)
cast_below (Some from) k a b e = subst (λ n. n < 2 ^ width_of k) (some_is e) (wrapped_below k (integer_of from a))

then_below : (from : Option Kind) (k : Kind) (o : Option ℕ) (b : ℕ) → option_and_then (cast_between from (Some k)) o ≡ Some b → b < 2 ^ width_of k
then_below from k (Some a) b e = cast_below from k a b e
then_below from k None b e = absurd (cc)

bits_below : (rows : List Aggregate) (k : Kind) (x : TExpr) (b : ℕ) → integer_bits rows k x ≡ Some b → b < 2 ^ width_of k
unfolding integer_bits
bits_below rows k x b e = then_below (kind_of (type_of x)) k (constant rows x) b e

-- ---- units

first_in : (u v : Unit) (us : List Unit) → v ≡ u → Contains (v ∷ us) u
first_in u v us e = (zero, zero-lt-suc _, e)

second_in : (u v : Unit) → Contains (v ∷ u ∷ []) u
second_in u v = (suc zero, suc-le-suc (zero-lt-suc _), refl)

module _ (p : Program) (t : Ty) (offset : ℕ) where
  moved_is : (us : List Unit) → units_of p.aggregates t ≡ us → moved offset us ≡ moved offset (units_of p.aggregates t)
  moved_is us e = ap (moved offset) (sym e)

  front : (size : ℕ) → unit_at (offset + 0) size ≡ unit_at offset size
  front size = ap (λ n. unit_at n size) (omega arith)

  -- a type of one unit
  one_starts : (size : ℕ) (w : StartWord) → units_of p.aggregates t ≡ unit_at 0 size ∷ [] → FitsIn p size w → AreStarts p t offset (value offset size w ∷ [])
  one_starts size w us fits =
      All-cons (StartsIn p t offset) (value offset size w) []
      (subst (λ l. Contains l (unit_at offset size)) (moved_is (unit_at 0 size ∷ []) us) (first_in (unit_at offset size) (unit_at (offset + 0) size) [] (front size)), fits)
      (All-nil (StartsIn p t offset))

  -- an integer of 8 bytes, of two
  two_start : (low high : ℕ) → units_of p.aggregates t ≡ unit_at 0 4 ∷ unit_at 4 4 ∷ [] → low < 2 ^ 32 → high < 2 ^ 32 → AreStarts p t offset (value offset 4 (word.Number low) ∷ value (offset + 4) 4 (word.Number high) ∷ [])
  two_start low high us small large =
      let at = moved_is (unit_at 0 4 ∷ unit_at 4 4 ∷ []) us in
      let a : StartValue = value offset 4 (word.Number low) in
      let b : StartValue = value (offset + 4) 4 (word.Number high) in
      All-cons (StartsIn p t offset) a (b ∷ [])
      (subst (λ l. Contains l (unit_at offset 4)) at (first_in (unit_at offset 4) (unit_at (offset + 0) 4) (unit_at (offset + 4) 4 ∷ []) (front 4)), small)
      (All-cons (StartsIn p t offset) b []
      (subst (λ l. Contains l (unit_at (offset + 4) 4)) at (second_in (unit_at (offset + 4) 4) (unit_at (offset + 0) 4)), large)
      (All-nil (StartsIn p t offset)))

high_below : (n : ℕ) → n < 2 ^ 64 → n / 2 ^ 32 < 2 ^ 32
high_below n h = omega arith

low_below : (n : ℕ) → n % 2 ^ 32 < 2 ^ 32
low_below n = omega arith

units_of_kind : (p : Program) (k : Kind) (us : List Unit) → (of_bytes (bytes_of k)).units ≡ us → units_of p.aggregates (ty.Integer k) ≡ us
units_of_kind p k us e = ap (λ (l : Layout). l.units) (layout-Integer p.aggregates k) ∙ e

integer_starts : (p : Program) (k : Kind) (offset bits : ℕ) → bits < 2 ^ width_of k → AreStarts p (ty.Integer k) offset (values_at offset (integer_start k bits))
integer_starts p kind.Byte offset bits h = one_starts p (ty.Integer kind.Byte) offset 1 (word.Number bits) (units_of_kind p kind.Byte (unit_at 0 1 ∷ []) refl) h
integer_starts p kind.Sint offset bits h = one_starts p (ty.Integer kind.Sint) offset 2 (word.Number bits) (units_of_kind p kind.Sint (unit_at 0 2 ∷ []) refl) h
integer_starts p kind.Usint offset bits h = one_starts p (ty.Integer kind.Usint) offset 2 (word.Number bits) (units_of_kind p kind.Usint (unit_at 0 2 ∷ []) refl) h
integer_starts p kind.Int offset bits h = one_starts p (ty.Integer kind.Int) offset 4 (word.Number bits) (units_of_kind p kind.Int (unit_at 0 4 ∷ []) refl) h
integer_starts p kind.Uint offset bits h = one_starts p (ty.Integer kind.Uint) offset 4 (word.Number bits) (units_of_kind p kind.Uint (unit_at 0 4 ∷ []) refl) h
integer_starts p kind.Lint offset bits h =
    two_start p (ty.Integer kind.Lint) offset (bits % 2 ^ 32) (bits / 2 ^ 32) (units_of_kind p kind.Lint (unit_at 0 4 ∷ unit_at 4 4 ∷ []) refl) (low_below bits) (high_below bits h)
integer_starts p kind.Ulint offset bits h =
    two_start p (ty.Integer kind.Ulint) offset (bits % 2 ^ 32) (bits / 2 ^ 32) (units_of_kind p kind.Ulint (unit_at 0 4 ∷ unit_at 4 4 ∷ []) refl) (low_below bits) (high_below bits h)

-- ---- words

abbrev IsWord : Program → Ty → Type 0
IsWord p t = units_of p.aggregates t ≡ unit_at 0 4 ∷ []

word-Pointer : (p : Program) (to : Ty) → IsWord p (ty.Pointer to)
word-Pointer p to = ap (λ (l : Layout). l.units) (layout-Pointer p.aggregates to)

word-Chan : (p : Program) (element : Ty) (capacity : ℕ) → IsWord p (ty.Chan element capacity)
word-Chan p element capacity = ap (λ (l : Layout). l.units) (layout-Chan p.aggregates element capacity)

scalar_word : (p : Program) (t : Ty) → is_scalar t ≡ true → kind_of t ≡ None → IsWord p t
unfolding is_scalar kind_of
scalar_word p t h k = subst (IsWord p) (roll-out-Ty t) (at (out-Ty t) h k)
  where
    at : (y : Ty-F Ty) → is_scalar_at y ≡ true → kind_at y ≡ None → IsWord p (roll-Ty y)
    at (Ty-F.Pointer to) h k = subst (IsWord p) (sym (ty.rolls-Pointer to)) (word-Pointer p to)
    at (Ty-F.Chan element capacity) h k = subst (IsWord p) (sym (ty.rolls-Chan element capacity)) (word-Chan p element capacity)
    at (Ty-F.Integer kind) h k = absurd (cc)
    at _ h k = absurd (cc)

pointer_word : (p : Program) (t : Ty) → is_some (pointed t) ≡ true → IsWord p t
pointer_word p t h = let x = a_pointer t h in subst (IsWord p) (sym x.1) (word-Pointer p x.0)

channel_word : (p : Program) (t : Ty) → is_channel t ≡ true → IsWord p t
channel_word p t h = let x = a_channel t h in subst (IsWord p) (sym x.2) (word-Chan p x.0 x.1)

nil_word : (p : Program) (t : Ty) (a b : Bool) → is_some (pointed t) ≡ a → is_channel t ≡ b → (a || b) ≡ true → IsWord p t
nil_word p t true b e f h = pointer_word p t e
nil_word p t false true e f h = channel_word p t f
nil_word p t false false e f h = absurd (cc)

null_converts : (l : Literal) (from to : Ty) → is_null l ≡ true → converts l from to ≡ true → (is_scalar to ≡ true) ⊎ (takes_nil to ≡ true)
unfolding is_null converts
null_converts l from to n h = at (out-Literal l) n (subst (λ m. fold-Literal Conversion converts_step m from to ≡ true) (sym (roll-out-Literal l)) h)
  where
    at : (y : Literal-F Literal) → is_null_at y ≡ true → fold-Literal Conversion converts_step (roll-Literal y) from to ≡ true → (is_scalar to ≡ true) ⊎ (takes_nil to ≡ true)
    at (Literal-F.Nil p) n h = inr (sym (ap (λ (c : Conversion). c from to) (fold-roll-Literal Conversion converts_step (Literal-F.Nil p))) ∙ h)
    at Literal-F.Zero n h = inl (sym (ap (λ (c : Conversion). c from to) (fold-roll-Literal Conversion converts_step Literal-F.Zero)) ∙ h)
    at _ n h = absurd (cc)

null_word : (p : Program) (t : Ty) → kind_of t ≡ None → (is_scalar t ≡ true) ⊎ (takes_nil t ≡ true) → IsWord p t
null_word p t k (inl h) = scalar_word p t h k
null_word p t k (inr h) = nil_word p t (is_some (pointed t)) (is_channel t) refl refl h

some_of : (o : Option Ty) → is_byte_at o ≡ true → is_some o ≡ true
some_of (Some t) h = refl
some_of None h = absurd (cc)

module _ (p : Program) (t : Ty) (x : Operand) (there_is : TextIsThere p x.value) where
  -- a string for a `byte*`
  text_by : (b : Bool) (w : StartWord) → is_text t ≡ b → text_word b x.value ≡ Some w → IsWord p t × FitsIn p 4 w
  text_by true w e h =
      let m = mapped_some word.Text (text_of x.value) w h in
      (pointer_word p t (some_of (pointed t) e), subst (FitsIn p 4) m.2 (refl, there_is m.0 m.1))
  text_by false w e h = absurd (cc)

  word_by : (null : Bool) (w : StartWord) → is_null x.written ≡ null → kind_of t ≡ None → rule_33_converts x t ≡ true
      → (if null then Some (word.Number 0) else text_word (is_text t) x.value) ≡ Some w → IsWord p t × FitsIn p 4 w
  unfolding rule_33_converts
  word_by true w n k c h = (null_word p t k (null_converts x.written (type_of x.value) t n c), subst (FitsIn p 4) (some_is h) (lit< tt))
  word_by false w n k c h = text_by (is_text t) w refl h

  start_by : (k : Option Kind) (s : Start) (offset : ℕ) → kind_of t ≡ k → rule_33_converts x t ≡ true → start_in p.aggregates k t x ≡ Some s → AreStarts p t offset (values_at offset s)
  unfolding word_of
  start_by (Some k) s offset e c h =
      let m = mapped_some (integer_start k) (integer_bits p.aggregates k x.value) s h in
      subst (λ u. AreStarts p u offset (values_at offset s)) (sym (integer_is t k e))
      (subst (λ r. AreStarts p (ty.Integer k) offset (values_at offset r)) m.2 (integer_starts p k offset m.0 (bits_below p.aggregates k x.value m.0 m.1)))
  start_by None s offset e c h =
      let m = mapped_some _ (word_of t x) s h in
      let w = word_by (is_null x.written) m.0 refl e c m.1 in
      subst (λ r. AreStarts p t offset (values_at offset r)) m.2 (one_starts p t offset 4 m.0 w.0 w.1)

constant_good : (at : Place) (o : Option Start) (s : Start) → constant_start at o ≡ Good s → o ≡ Some s
constant_good at (Some r) s e = ap Some (good_is e)
constant_good at None s e = absurd (cc)

pub values_start : (p : Program) (at : Place) (t : Ty) (x : Operand) (s : Start) (offset : ℕ) → TextIsThere p x.value → started p.aggregates at t x ≡ Good s
    → AreStarts p t offset (values_at offset s)
unfolding started start_of
values_start p at t x s offset there_is e =
    let a = and_then_good (judge (ask 33 at (rule_33_converts x t)) (start_of p.aggregates t x)) (constant_start at) s e in
    let j = judge_good 33 at (rule_33_converts x t) (start_of p.aggregates t x) a.0 a.1 in
    start_by p t x there_is (kind_of t) s offset refl j.0 (j.1 ∙ constant_good at a.0 s a.2)

-- ---- of a global

pub starts_of_global : (p : Program) (g : Global) (vs : List StartValue) → AreStarts p g.ty 0 vs → All (Starts p g) vs
starts_of_global p g vs h =
    All-weaker (StartsIn p g.ty 0) (Starts p g) (λ v k. (subst (λ l. Contains l (unit_at v.at v.size)) (moved-none (units_of p.aggregates g.ty)) k.0, k.1)) vs h
