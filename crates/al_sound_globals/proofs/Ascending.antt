-- What an initializer starts a part of a global with stands in that part, in ascending order.
use Rattle.std.proofs.Common.{◌≡◌, ℕ, zero, suc, ◌+◌, ◌*◌, ◌<◌, ◌≤◌, ◌^◌, Bool, true, List, [], ◌∷◌, ◌++◌, map, length, Option, Some, None, refl, sym, ap, ◌∙◌, subst, arith}
use Rattle.std.specs.Prelude.{All, AllPairs, Contains, option_map, ⊤}
use Rattle.std.specs.List.{range_with_len}
use Rattle.std.proofs.lemmas.List.Elements.{All-cons, All-head, All-nil, All-weaker}
use Rattle.std.proofs.lemmas.List.Kept.{AllPairs-cons}
use Rattle.al_base.specs.declared.arith.Kind.{Kind}
use Rattle.al_base.specs.declared.arith.Kind.TheVariants as kind
use Rattle.al_base.specs.declared.place.Place.{Place}
use Rattle.al_tree.specs.declared.item.Initializer.{Initializer, fold-roll-Initializer, map-Initializer, roll-Initializer}
use Rattle.al_tree.specs.declared.item.Initializer.TheFolds.{ind-Initializer}
use Rattle.al_tree.specs.declared.item.Initializer.TheOpen.{Initializer-F}
use Rattle.al_rules.specs.Outcome.{Good, ask, judge, and_then}
use Rattle.al_scope.specs.Expressions.{place}
use Rattle.al_typed.specs.declared.layout.Unit.{Unit}
use Rattle.al_typed.specs.declared.ty.Ty.{Ty}
use Rattle.al_typed.specs.declared.ty.Ty.TheOpen.{Ty-F}
use Rattle.al_typed.specs.declared.ty.Ty.TheViews.{out-Ty}
use Rattle.al_typed.specs.declared.program.Aggregate.{Aggregate}
use Rattle.al_typed.specs.declared.program.Program.{Program}
use Rattle.al_typed.specs.declared.program.StartValue.{StartValue}
use Rattle.al_typed.specs.declared.expression.TExpr.{TExpr}
use Rattle.al_typed.specs.Capped.{capped}
use Rattle.al_typed.specs.Types.{bytes_of}
use Rattle.al_typed.specs.Layout.{IsLaidOut, Layout, Member, layout, moved, of_bytes, offsets_from, rounded, size_of, unit_at, units_of}
use Rattle.al_typed.specs.WellTyped.{is_stored}
use Rattle.al_typed.proofs.CappedLemmas.{length-moved, rounded_above}
use Rattle.al_typed.proofs.Fitting.{layout_fits}
use Rattle.al_typed.proofs.Layouts.{layout-Integer}
use Rattle.al_convert.specs.Kinds.{kind_of}
use Rattle.al_environment.specs.declared.environment.Environment.{Environment}
use Rattle.al_environment.specs.declared.environment.Here.{Here}
use Rattle.al_operands.specs.declared.operand.Operand.{Operand}
use Rattle.al_operands.specs.Rules.{rule_33_converts}
use Rattle.al_type_expr.specs.Nodes.{value_of}
use Rattle.al_sound_programs.specs.Unnamed.{Start}
use Rattle.al_initial.specs.Rules.{rule_18_stands, rule_21_has_parts}
use Rattle.al_initial.specs.Start.{constant_start, integer_bits, integer_start, placed, start_in, start_of, started, text_of, value, values_at, word_of}
use Rattle.al_initial.specs.Initializers.{Way, aggr_members, all_started, braces, elements, in_parts_if, initializer, members, part, parts_at, parts_of, standing, step, value_started}
use Rattle.al_sound_operators.proofs.Outcomes.{and_then_good, both_good, judge_good}
use Rattle.al_sound_operators.proofs.TypeForms.{integer_is}
use Rattle.al_sound_programs.specs.Starts.{AreStarts, MembersAreStored, StartsIn, TextIsThere}
use Rattle.al_sound_programs.proofs.PartsStand.{AreParts, parts_are}
use Rattle.al_sound_programs.proofs.StartsAre.{values_start}

good_is : {A : Type 0} {a b : A} → Good a ≡ Good b → a ≡ b
good_is h = cc

some_is : {A : Type 0} {a b : A} → Some a ≡ Some b → a ≡ b
some_is h = cc

-- ---- values in ascending order between two bytes

abbrev pub Ascend : ℕ → ℕ → List StartValue → Type 0
Ascend low high [] = ⊤
Ascend low high (v ∷ vs) = (low ≤ v.at) × ((v.at < high) × Ascend (v.at + 1) high vs)

pub wider : (low high from to : ℕ) (vs : List StartValue) → from ≤ low → high ≤ to → Ascend low high vs → Ascend from to vs
wider low high from to [] a b h = tt
wider low high from to (v ∷ vs) a b h = let l = h.0 in let u = h.1.0 in (omega arith, (omega arith, wider (v.at + 1) high (v.at + 1) to vs (omega arith) b h.1.1))

both_ascend : (low mid high : ℕ) (xs ys : List StartValue) → low ≤ mid → mid ≤ high → Ascend low mid xs → Ascend mid high ys → Ascend low high (xs ++ ys)
both_ascend low mid high [] ys a b h k = wider mid high low high ys a (omega arith) k
both_ascend low mid high (v ∷ vs) ys a b h k =
    let l = h.0 in
    let u = h.1.0 in
    (l, (omega arith, both_ascend (v.at + 1) mid high vs ys (omega arith) b h.1.1 k))

all_above : (low high : ℕ) (vs : List StartValue) → Ascend low high vs → All (λ (v : StartValue). low ≤ v.at) vs
all_above low high [] h = All-nil (λ (v : StartValue). low ≤ v.at)
all_above low high (v ∷ vs) h = let l = h.0 in All-cons (λ (w : StartValue). low ≤ w.at) v vs l (all_above low high vs (wider (v.at + 1) high low high vs (omega arith) (omega arith) h.1.1))

no_pairs : {A : Type 0} (R : A → A → Type 0) → AllPairs R []
no_pairs R i j d lt len = absurd (omega (arith, len))

pub ascending : (low high : ℕ) (vs : List StartValue) → Ascend low high vs → AllPairs (λ (a b : StartValue). a.at < b.at) vs
ascending low high [] h = no_pairs (λ (a b : StartValue). a.at < b.at)
ascending low high (v ∷ vs) h =
    AllPairs-cons (λ (a b : StartValue). a.at < b.at) v vs
    (All-weaker (λ (w : StartValue). v.at + 1 ≤ w.at) (λ (w : StartValue). v.at < w.at) (λ w k. omega (arith, k)) vs (all_above (v.at + 1) high vs h.1.1)) (ascending (v.at + 1) high vs h.1.1)

-- ---- a value alone

mapped_some : {A B : Type 0} (f : A → B) (o : Option A) (b : B) → option_map f o ≡ Some b → (a : A) × (o ≡ Some a) × (f a ≡ b)
mapped_some f (Some a) b e = (a, refl, some_is e)
mapped_some f None b e = absurd (cc)

constant_good : (at : Place) (o : Option Start) (s : Start) → constant_start at o ≡ Good s → o ≡ Some s
constant_good at (Some r) s e = ap Some (good_is e)
constant_good at None s e = absurd (cc)

integer_ascends : (k : Kind) (offset bits : ℕ) → Ascend offset (offset + bytes_of k) (values_at offset (integer_start k bits))
integer_ascends kind.Byte offset bits = (omega arith, (omega arith, tt))
integer_ascends kind.Sint offset bits = (omega arith, (omega arith, tt))
integer_ascends kind.Usint offset bits = (omega arith, (omega arith, tt))
integer_ascends kind.Int offset bits = (omega arith, (omega arith, tt))
integer_ascends kind.Uint offset bits = (omega arith, (omega arith, tt))
integer_ascends kind.Lint offset bits = (omega arith, (omega arith, (omega arith, (omega arith, tt))))
integer_ascends kind.Ulint offset bits = (omega arith, (omega arith, (omega arith, (omega arith, tt))))

-- so many strings
strings : ℕ → List (List ℕ)
strings zero = []
strings (suc n) = [] ∷ strings n

many : (n : ℕ) → length (strings n) ≡ n
unfolding strings
many zero = refl
many (suc n) = ap suc (many n)

-- a program with these types that has the string constant
abbrev with_strings : List Aggregate → ℕ → Program
with_strings rows n = record { aggregates = rows; globals = []; strings = strings n; elements = []; functions = []; main = 0 }

abbrev enough : Option ℕ → ℕ
enough None = 0
enough (Some n) = n + 1

text_there : (rows : List Aggregate) (e : TExpr) → TextIsThere (with_strings rows (enough (text_of e))) e
text_there rows e n is =
    let many_of : length (strings (enough (text_of e))) ≡ enough (text_of e) = many (enough (text_of e)) in
    let few : enough (text_of e) ≡ n + 1 = ap enough is in
    subst (λ k. n < k) (sym many_of) (omega (arith, few))

some_units : (us : List Unit) (u : Unit) → Contains us u → 1 ≤ length us
some_units us u c = let lt = c.1 in omega (arith, lt)

one_ascends : (rows : List Aggregate) (t : Ty) (offset size : ℕ) (w : _) (q : Program) → q.aggregates ≡ rows → AreStarts q t offset (value offset size w ∷ []) → Ascend offset (offset + size_of rows t) (value offset size w ∷ [])
one_ascends rows t offset size w q same h =
    let v : StartValue = value offset size w in
    let there = (All-head (StartsIn q t offset) v [] h).0 in
    let some = some_units (moved offset (units_of q.aggregates t)) (unit_at offset size) there in
    let count = length-moved offset (units_of q.aggregates t) in
    let few = (layout_fits q.aggregates t).few in
    let size_is : size_of q.aggregates t ≡ size_of rows t = ap (λ r. size_of r t) same in
    (omega arith, (omega (arith, some, count, few, size_is), tt))

integer_size : (k : Kind) → (of_bytes (bytes_of k)).size ≡ bytes_of k
integer_size kind.Byte = refl
integer_size kind.Sint = refl
integer_size kind.Usint = refl
integer_size kind.Int = refl
integer_size kind.Uint = refl
integer_size kind.Lint = refl
integer_size kind.Ulint = refl

module _ (rows : List Aggregate) (at : Place) (t : Ty) (x : Operand) where
  start_ascends : (o : Option Kind) (s : Start) (offset : ℕ) → kind_of t ≡ o → start_in rows o t x ≡ Some s → started rows at t x ≡ Good s → Ascend offset (offset + size_of rows t) (values_at offset s)
  start_ascends (Some k) s offset is e all =
      let m = mapped_some (integer_start k) (integer_bits rows k x.value) s e in
      let size : bytes_of k ≡ size_of rows t = sym (integer_size k) ∙ sym (ap (λ (l : Layout). l.size) (layout-Integer rows k)) ∙ ap (size_of rows) (sym (integer_is t k is)) in
      subst (λ n. Ascend offset (offset + n) (values_at offset s)) size
      (subst (λ r. Ascend offset (offset + bytes_of k) (values_at offset r)) m.2 (integer_ascends k offset m.0))
  start_ascends None s offset is e all =
      let m = mapped_some _ (word_of t x) s e in
      let q = with_strings rows (enough (text_of x.value)) in
      let there = values_start q at t x s offset (text_there rows x.value) all in
      subst (λ r. Ascend offset (offset + size_of rows t) (values_at offset r)) m.2
      (one_ascends rows t offset 4 m.0 q refl (subst (λ r. AreStarts q t offset (values_at offset r)) (sym m.2) there))

  value_ascends : (s : Start) (offset : ℕ) → started rows at t x ≡ Good s → Ascend offset (offset + size_of rows t) (values_at offset s)
  unfolding started start_of
  value_ascends s offset e =
      let a = and_then_good (judge (ask 33 at (rule_33_converts x t)) (start_of rows t x)) (constant_start at) s e in
      let j = judge_good 33 at (rule_33_converts x t) (start_of rows t x) a.0 a.1 in
      start_ascends (kind_of t) s offset refl (j.1 ∙ constant_good at a.0 s a.2) e

-- ---- parts in their order

abbrev InOrder : List Aggregate → ℕ → List Member → Type 0
InOrder rows low [] = ⊤
InOrder rows low (m ∷ ms) = (low ≤ m.at) × InOrder rows (m.at + size_of rows m.ty) ms

elements_ordered : (rows : List Aggregate) (element : Ty) (a n low : ℕ) → low ≤ a * size_of rows element → InOrder rows low (map (λ i. part element (i * size_of rows element)) (range_with_len a n))
elements_ordered rows element a zero low h = tt
elements_ordered rows element a (suc n) low h =
    (h, elements_ordered rows element (a + 1) n (a * size_of rows element + size_of rows element) (next a (size_of rows element)))
  where
    next : (a size : ℕ) → a * size + size ≤ (a + 1) * size
    next a size = grind arith

members_ordered : (rows : List Aggregate) (ts : List Ty) (at : ℕ) → InOrder rows at (standing ts (offsets_from at (map (layout rows) ts)))
members_ordered rows [] at = tt
members_ordered rows (t ∷ ts) at =
    (rounded_above at (layout rows t).align (layout_fits rows t).low, members_ordered rows ts (rounded at (layout rows t).align + (layout rows t).size))

parts_ordered : (rows : List Aggregate) (adts : List Bool) (t : Ty) (ms : List Member) → parts_of rows adts t ≡ Some ms → InOrder rows 0 ms
unfolding parts_of members elements
parts_ordered rows adts t ms e = on (out-Ty t) e
  where
    all : (o : Option (List Ty)) → option_map (members rows) o ≡ Some ms → InOrder rows 0 ms
    all None e = absurd (cc)
    all (Some ts) e = subst (InOrder rows 0) (some_is e) (members_ordered rows ts 0)

    on : (y : Ty-F Ty) → parts_at rows adts y ≡ Some ms → InOrder rows 0 ms
    on (Ty-F.Array element count) e = subst (InOrder rows 0) (some_is e) (elements_ordered rows element 0 count 0 (omega arith))
    on (Ty-F.Aggregate n) e = all (aggr_members rows adts n) e
    on _ e = absurd (cc)

-- ---- every initializer

module _ (env : Environment) (here : Here) (adts : List Bool) (laid : IsLaidOut env.aggregates) (members_stored : MembersAreStored env.aggregates) where
  abbrev rows : List Aggregate
  rows = env.aggregates

  abbrev Holds : Initializer → Type 0
  Holds i = (t : Ty) (offset : ℕ) (vs : List StartValue) → is_stored rows t ≡ true → offset + size_of rows t ≤ 2 ^ 28 → initializer env here adts i t offset ≡ Good vs → Ascend offset (offset + size_of rows t) vs

  abbrev Checked : Type 0
  Checked = (i : Initializer) × Holds i

  abbrev tree_of : Initializer-F Checked → Initializer-F Initializer
  tree_of y = map-Initializer Checked Initializer (λ c. c.0) y

  abbrev ways_of : List Checked → List Way
  ways_of ws = map (initializer env here adts) (map (λ (c : Checked). c.0) ws)

  initializer_roll : (z : Initializer-F Initializer) → initializer env here adts (roll-Initializer z) ≡ step env here adts (map-Initializer Initializer Way (initializer env here adts) z)
  unfolding initializer
  initializer_roll z = fold-roll-Initializer Way (step env here adts) z

  each_ascends : (t : Ty) (offset low : ℕ) (ws : List Checked) (ms : List Member) (vs : List StartValue) → offset + size_of rows t ≤ 2 ^ 28 → low ≤ size_of rows t → AreParts rows t ms → InOrder rows low ms
      → all_started (ways_of ws) ms offset ≡ Good vs → Ascend (offset + low) (offset + size_of rows t) vs
  unfolding all_started
  each_ascends t offset low [] ms vs small within h o e = subst (Ascend (offset + low) (offset + size_of rows t)) (good_is e) tt
  each_ascends t offset low (w ∷ ws) [] vs small within h o e = subst (Ascend (offset + low) (offset + size_of rows t)) (good_is e) tt
  each_ascends t offset low (w ∷ ws) (m ∷ ms) vs small within h o e =
      let b = both_good (initializer env here adts w.0 m.ty (capped (offset + m.at))) (all_started (ways_of ws) ms offset) (λ vs rest. Good (vs ++ rest)) vs e in
      let inside = h.0.within in
      let above = o.0 in
      let at : capped (offset + m.at) ≡ offset + m.at = omega arith in
      let size = size_of rows m.ty in
      let first : Ascend (offset + m.at) (offset + m.at + size) b.0 =
      w.1 m.ty (offset + m.at) b.0 h.0.stored (omega arith) (subst (λ n. initializer env here adts w.0 m.ty n ≡ Good b.0) at b.2) in
      let rest : Ascend (offset + (m.at + size)) (offset + size_of rows t) b.1 = each_ascends t offset (m.at + size) ws ms b.1 small inside h.1 o.1 b.3 in
      subst (Ascend (offset + low) (offset + size_of rows t)) (good_is b.4)
      (both_ascend (offset + low) (offset + m.at + size) (offset + size_of rows t) b.0 b.1 (omega arith) (omega arith)
      (wider (offset + m.at) (offset + m.at + size) (offset + low) (offset + m.at + size) b.0 (omega arith) (omega arith) first)
      (wider (offset + (m.at + size)) (offset + size_of rows t) (offset + m.at + size) (offset + size_of rows t) b.1 (omega arith) (omega arith) rest))

  parts_ascend : (at : Place) (t : Ty) (offset : ℕ) (ws : List Checked) (o : Option (List Member)) (vs : List StartValue) → is_stored rows t ≡ true → offset + size_of rows t ≤ 2 ^ 28
      → parts_of rows adts t ≡ o → in_parts_if at (ways_of ws) offset o ≡ Good vs → Ascend offset (offset + size_of rows t) vs
  parts_ascend at t offset ws None vs stored small is e = absurd (cc)
  parts_ascend at t offset ws (Some ms) vs stored small is e =
      let ways : List Way = ways_of ws in
      let a = and_then_good (judge (ask 21 at (rule_21_has_parts (length ways) (length ms))) ms) (λ ns. all_started ways ns offset) vs e in
      let j = judge_good 21 at (rule_21_has_parts (length ways) (length ms)) ms a.0 a.1 in
      let all = each_ascends t offset 0 ws ms vs small (omega arith) (parts_are rows laid members_stored adts t ms stored is) (parts_ordered rows adts t ms is)
      (subst (λ ns. all_started ways ns offset ≡ Good vs) (sym j.1) a.2) in
      wider (offset + 0) (offset + size_of rows t) offset (offset + size_of rows t) vs (omega arith) (omega arith) all

  step_ascends : (y : Initializer-F Checked) (t : Ty) (offset : ℕ) (vs : List StartValue) → is_stored rows t ≡ true → offset + size_of rows t ≤ 2 ^ 28
      → step env here adts (map-Initializer Initializer Way (initializer env here adts) (tree_of y)) t offset ≡ Good vs → Ascend offset (offset + size_of rows t) vs
  unfolding value_started braces placed
  step_ascends (Initializer-F.Value e) t offset vs stored small g =
      let a = and_then_good (and_then (value_of env here e) (started rows (place e) t)) (placed (place e) offset) vs g in
      let s : Start = a.0 in
      let b = and_then_good (value_of env here e) (started rows (place e) t) s a.1 in
      let x : Operand = b.0 in
      let j = judge_good 18 (place e) (rule_18_stands offset) (values_at offset s) vs a.2 in
      subst (Ascend offset (offset + size_of rows t)) j.1 (value_ascends rows (place e) t x s offset b.2)
  step_ascends (Initializer-F.Braces at ws) t offset vs stored small g = parts_ascend at t offset ws (parts_of rows adts t) vs stored small refl g

  roll_ascends : (y : Initializer-F Checked) → Holds (roll-Initializer (tree_of y))
  roll_ascends y t offset vs stored small e = step_ascends y t offset vs stored small (sym (ap (λ (w : Way). w t offset) (initializer_roll (tree_of y))) ∙ e)

  pub initializers_ascend : (i : Initializer) → Holds i
  initializers_ascend = ind-Initializer Holds (λ x y is. subst (λ z. Holds (roll-Initializer z)) is (roll_ascends y))
