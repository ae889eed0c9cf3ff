-- What initializers start globals with: a value alone what it starts, and braces the parts of an array or an aggr.
use Rattle.std.proofs.Common.{◌≡◌, ℕ, ◌+◌, ◌^◌, ◌≤◌, Bool, true, List, [], ◌∷◌, ◌++◌, map, length, Option, Some, None, refl, sym, ap, ◌∙◌, subst, arith}
use Rattle.std.specs.Prelude.{All, Contains}
use Rattle.std.specs.List.{AllByRecursion, flat_map}
use Rattle.std.proofs.lemmas.List.Elements.{All-append, All-contains, All-contains_itself, All-from_recursion, All-head, All-map, All-nil, All-weaker, recursion_from_All}
use Rattle.al_base.specs.declared.place.Place.{Place}
use Rattle.al_tree.specs.declared.expression.Expr.{Expr}
use Rattle.al_tree.specs.declared.item.Initializer.{Initializer, fold-roll-Initializer, map-Initializer, roll-Initializer}
use Rattle.al_tree.specs.declared.item.Initializer.TheFolds.{ind-Initializer}
use Rattle.al_tree.specs.declared.item.Initializer.TheOpen.{Initializer-F}
use Rattle.al_rules.specs.Outcome.{Good, ask, judge, and_then}
use Rattle.al_scope.specs.Expressions.{place}
use Rattle.al_typed.specs.declared.layout.Unit.{Unit}
use Rattle.al_typed.specs.declared.ty.Ty.{Ty}
use Rattle.al_typed.specs.declared.program.Program.{Program}
use Rattle.al_typed.specs.declared.program.StartValue.{StartValue}
use Rattle.al_typed.specs.Capped.{capped}
use Rattle.al_typed.specs.Layout.{IsLaidOut, Member, moved, size_of, unit_at, units_of}
use Rattle.al_typed.specs.WellTyped.{is_stored}
use Rattle.al_typed.proofs.Placing.{moved-moved}
use Rattle.al_environment.specs.declared.environment.Environment.{Environment}
use Rattle.al_environment.specs.declared.environment.Here.{Here}
use Rattle.al_operands.specs.declared.operand.Operand.{Operand}
use Rattle.al_type_expr.specs.Nodes.{value_of}
use Rattle.al_sound_programs.specs.Unnamed.{Start}
use Rattle.al_initial.specs.Rules.{rule_18_stands, rule_21_has_parts}
use Rattle.al_initial.specs.Start.{placed, started, values_at}
use Rattle.al_initial.specs.Initializers.{Way, all_started, braces, in_parts_if, initializer, parts_of, step, value_started}
use Rattle.al_sound_operators.proofs.Outcomes.{and_then_good, both_good, judge_good}
use Rattle.al_sound_programs.specs.Starts.{AreStarts, MembersAreStored, StartsIn, TextIsThere, TextsAreThere, values_in, values_step}
use Rattle.al_sound_programs.proofs.PartsStand.{AreParts, IsPartOf, contains-map, parts_are}
use Rattle.al_sound_programs.proofs.StartsAre.{values_start}

good_is : {A : Type 0} {a b : A} → Good a ≡ Good b → a ≡ b
good_is h = cc

-- the first and the last of a list
front_by : {A : Type 0} (P : A → Type 0) (xs ys : List A) → AllByRecursion P (xs ++ ys) → AllByRecursion P xs
front_by P [] ys h = tt
front_by P (x ∷ xs) ys h = (h.0, front_by P xs ys h.1)

back_by : {A : Type 0} (P : A → Type 0) (xs ys : List A) → AllByRecursion P (xs ++ ys) → AllByRecursion P ys
back_by P [] ys h = h
back_by P (x ∷ xs) ys h = back_by P xs ys h.1

pub All-front : {A : Type 0} (P : A → Type 0) (xs ys : List A) → All P (xs ++ ys) → All P xs
All-front P xs ys h = All-from_recursion P xs (front_by P xs ys (recursion_from_All P (xs ++ ys) h))

pub All-back : {A : Type 0} (P : A → Type 0) (xs ys : List A) → All P (xs ++ ys) → All P ys
All-back P xs ys h = All-from_recursion P ys (back_by P xs ys (recursion_from_All P (xs ++ ys) h))

-- what all elements have that are mapped
all-map : {A B : Type 0} (P : B → Type 0) (f : A → B) (xs : List A) → ((x : A) → Contains xs x → P (f x)) → All P (map f xs)
all-map P f xs h = All-map P f xs (All-weaker (Contains xs) (λ x. P (f x)) h xs (All-contains_itself xs))

-- a unit of a part is one of the whole
of_part : (offset at : ℕ) (us vs : List Unit) (v : Unit) → ((u : Unit) → Contains us u → Contains vs (unit_at (at + u.at) u.size)) → Contains (moved (offset + at) us) v → Contains (moved offset vs) v
of_part offset at us vs v h c =
    All-contains (Contains (moved offset vs)) (moved offset (moved at us)) v
    (all-map (Contains (moved offset vs)) (λ (u : Unit). unit_at (offset + u.at) u.size) (moved at us)
    (λ w d. contains-map (λ (u : Unit). unit_at (offset + u.at) u.size) vs w
    (All-contains (Contains vs) (moved at us) w (all-map (Contains vs) (λ (u : Unit). unit_at (at + u.at) u.size) us h) d)))
    (subst (λ l. Contains l v) (sym (moved-moved offset at us)) c)

module _ (p : Program) (env : Environment) (here : Here) (adts : List Bool) (same : env.aggregates ≡ p.aggregates) (laid : IsLaidOut p.aggregates)
    (members : MembersAreStored p.aggregates) where
  abbrev Holds : Initializer → Type 0
  Holds i = (t : Ty) (offset : ℕ) (vs : List StartValue) → TextsAreThere p env here (values_in i) → is_stored p.aggregates t ≡ true → offset + size_of p.aggregates t ≤ 2 ^ 28 → initializer env here adts i t offset ≡ Good vs → AreStarts p t offset vs

  abbrev Checked : Type 0
  Checked = (i : Initializer) × Holds i

  abbrev tree_of : Initializer-F Checked → Initializer-F Initializer
  tree_of y = map-Initializer Checked Initializer (λ c. c.0) y

  values_roll : (z : Initializer-F Initializer) → values_in (roll-Initializer z) ≡ values_step (map-Initializer Initializer (List Expr) values_in z)
  unfolding values_in
  values_roll z = fold-roll-Initializer (List Expr) values_step z

  -- the values in these
  abbrev all_values : List Checked → List Expr
  all_values ws = flat_map (λ es. es) (map values_in (map (λ (c : Checked). c.0) ws))

  abbrev Texts : List Expr → Type 0
  Texts = TextsAreThere p env here

  abbrev Text : Expr → Type 0
  Text e = (x : Operand) → value_of env here e ≡ Good x → TextIsThere p x.value

  initializer_roll : (z : Initializer-F Initializer) → initializer env here adts (roll-Initializer z) ≡ step env here adts (map-Initializer Initializer Way (initializer env here adts) z)
  unfolding initializer
  initializer_roll z = fold-roll-Initializer Way (step env here adts) z

  from_part : (t : Ty) (offset : ℕ) (m : Member) (vs : List StartValue) → IsPartOf p.aggregates (size_of p.aggregates t) (units_of p.aggregates t) m → AreStarts p m.ty (offset + m.at) vs → AreStarts p t offset vs
  from_part t offset m vs h s =
      All-weaker (StartsIn p m.ty (offset + m.at)) (StartsIn p t offset)
      (λ v k. (of_part offset m.at (units_of p.aggregates m.ty) (units_of p.aggregates t) (unit_at v.at v.size) h.stands k.0, k.1)) vs s

  each_starts : (t : Ty) (offset : ℕ) (ws : List Checked) (ms : List Member) (vs : List StartValue) → Texts (all_values ws) → offset + size_of p.aggregates t ≤ 2 ^ 28 → AreParts p.aggregates t ms
      → all_started (map (initializer env here adts) (map (λ (c : Checked). c.0) ws)) ms offset ≡ Good vs → AreStarts p t offset vs
  unfolding all_started
  each_starts t offset [] ms vs texts small h e = subst (AreStarts p t offset) (good_is e) (All-nil (StartsIn p t offset))
  each_starts t offset (w ∷ ws) [] vs texts small h e = subst (AreStarts p t offset) (good_is e) (All-nil (StartsIn p t offset))
  each_starts t offset (w ∷ ws) (m ∷ ms) vs texts small h e =
      let b = both_good (initializer env here adts w.0 m.ty (capped (offset + m.at))) (all_started (map (initializer env here adts) (map (λ (c : Checked). c.0) ws)) ms offset) (λ vs rest. Good (vs ++ rest)) vs e in
      let within = h.0.within in
      let at : capped (offset + m.at) ≡ offset + m.at = omega arith in
      let first : AreStarts p m.ty (offset + m.at) b.0 =
      w.1 m.ty (offset + m.at) b.0 (All-front Text (values_in w.0) (all_values ws) texts) h.0.stored (omega arith) (subst (λ n. initializer env here adts w.0 m.ty n ≡ Good b.0) at b.2) in
      subst (AreStarts p t offset) (good_is b.4)
      (All-append (StartsIn p t offset) b.0 b.1 (from_part t offset m b.0 h.0 first) (each_starts t offset ws ms b.1 (All-back Text (values_in w.0) (all_values ws) texts) small h.1 b.3))

  parts_start : (at : Place) (t : Ty) (offset : ℕ) (ws : List Checked) (o : Option (List Member)) (vs : List StartValue) → Texts (all_values ws) → is_stored p.aggregates t ≡ true → offset + size_of p.aggregates t ≤ 2 ^ 28
      → parts_of p.aggregates adts t ≡ o → in_parts_if at (map (initializer env here adts) (map (λ (c : Checked). c.0) ws)) offset o ≡ Good vs → AreStarts p t offset vs
  parts_start at t offset ws None vs texts stored small is e = absurd (cc)
  parts_start at t offset ws (Some ms) vs texts stored small is e =
      let ways : List Way = map (initializer env here adts) (map (λ (c : Checked). c.0) ws) in
      let a = and_then_good (judge (ask 21 at (rule_21_has_parts (length ways) (length ms))) ms) (λ ns. all_started ways ns offset) vs e in
      let j = judge_good 21 at (rule_21_has_parts (length ways) (length ms)) ms a.0 a.1 in
      each_starts t offset ws ms vs texts small (parts_are p.aggregates laid members adts t ms stored is) (subst (λ ns. all_started ways ns offset ≡ Good vs) (sym j.1) a.2)

  step_starts : (y : Initializer-F Checked) (t : Ty) (offset : ℕ) (vs : List StartValue) → Texts (values_step (map-Initializer Initializer (List Expr) values_in (tree_of y))) → is_stored p.aggregates t ≡ true → offset + size_of p.aggregates t ≤ 2 ^ 28
      → step env here adts (map-Initializer Initializer Way (initializer env here adts) (tree_of y)) t offset ≡ Good vs → AreStarts p t offset vs
  unfolding value_started braces placed
  step_starts (Initializer-F.Value e) t offset vs texts stored small g =
      let a = and_then_good (and_then (value_of env here e) (started env.aggregates (place e) t)) (placed (place e) offset) vs g in
      let s : Start = a.0 in
      let b = and_then_good (value_of env here e) (started env.aggregates (place e) t) s a.1 in
      let x : Operand = b.0 in
      let j = judge_good 18 (place e) (rule_18_stands offset) (values_at offset s) vs a.2 in
      subst (AreStarts p t offset) j.1
      (values_start p (place e) t x s offset (All-head Text e [] texts x b.1) (subst (λ rows. started rows (place e) t x ≡ Good s) same b.2))
  step_starts (Initializer-F.Braces at ws) t offset vs texts stored small g =
      parts_start at t offset ws (parts_of p.aggregates adts t) vs texts stored small refl
      (subst (λ rows. in_parts_if at (map (initializer env here adts) (map (λ (c : Checked). c.0) ws)) offset (parts_of rows adts t) ≡ Good vs) same g)

  roll_starts : (y : Initializer-F Checked) → Holds (roll-Initializer (tree_of y))
  roll_starts y t offset vs texts stored small e = step_starts y t offset vs (subst Texts (values_roll (tree_of y)) texts) stored small (sym (ap (λ (w : Way). w t offset) (initializer_roll (tree_of y))) ∙ e)

  pub initializers_start : (i : Initializer) → Holds i
  initializers_start = ind-Initializer Holds (λ x y is. subst (λ z. Holds (roll-Initializer z)) is (roll_starts y))
