-- Where the jumps of a statement lead, and how its labels and rescues are numbered.
use Rattle.std.proofs.Common.{◌≡◌, ℕ, zero, suc, ◌+◌, ◌-◌, ◌≤◌, Bool, true, false, cond, List, [], ◌∷◌, ◌++◌, map, length, Option, Some, None, refl, sym, ap, ◌∙◌, subst, ◌⊎◌, inl, inr, append_assoc, add-zero, arith}
use Rattle.std.specs.Prelude.{◌&&◌, ◌||◌, Contains, nat_le, not, is_some, slice_get}
use Rattle.std.specs.List.{flat_map}
use Rattle.std.proofs.lemmas.Grind.{common_steps}
use Rattle.std.proofs.lemmas.List.Sums.{fold-append}
use Rattle.std.proofs.lemmas.List.{append-nil, length-append, length-map}
use Rattle.std.proofs.lemmas.List.Elements.{Contains-append_cases}
use Rattle.al_base.specs.declared.place.Place.{Place}
use Rattle.al_rules.specs.declared.fault.TypeFault.{TypeFault}
use Rattle.al_rules.specs.Outcome.{ask}
use Rattle.al_tree.specs.declared.expression.Expr.{Expr}
use Rattle.al_tree.specs.declared.expression.Name.{Name}
use Rattle.al_tree.specs.declared.statement.Stmt.{Stmt, fold-roll-Stmt, map-Stmt, out-Stmt, para-roll-Stmt, roll-Stmt}
use Rattle.al_tree.specs.declared.statement.Stmt.TheFolds.{ind-Stmt}
use Rattle.al_tree.specs.declared.statement.Stmt.TheOpen.{Stmt-F}
use Rattle.al_tree.specs.declared.statement.Stmt.TheViews.{out-roll-Stmt}
use Rattle.al_tree_walks.specs.Statements.{Standing, branches, branches_with, each_standing, inner_step, standing, standing_step, tree_of}
use Rattle.al_tree_walks.specs.Statements as walks
use Rattle.al_tree_places.specs.Jumps.{jump_places}
use Rattle.al_environment.specs.declared.environment.Environment.{Environment}
use Rattle.al_environment.specs.declared.environment.Here.{Here}
use Rattle.al_flow.specs.declared.around.Enclosing.{Enclosing}
use Rattle.al_flow.specs.declared.around.Enclosing.TheVariants as enclosing
use Rattle.al_flow.specs.declared.mark.Mark.{Mark}
use Rattle.al_flow.specs.declared.mark.Mark.TheVariants as mark
use Rattle.al_flow.specs.declared.target.Target.{Target}
use Rattle.al_flow.specs.declared.walk.Walk.{Walk}
use Rattle.al_flow.specs.Around.{count_of, is_loop, loops_in, outside_of}
use Rattle.al_flow.specs.Flow.{Part, all, asked, begun, block, branch, broken_off, given, gone, gone_on, inside, labelled, left, marks, part, part_step, parted, passed, raised, rescue, rescue_of, rescued, target_at, walk}
use Rattle.al_flow.specs.Flow as flow
use Rattle.al_flow.specs.Marks.{label_named, number_of}
use Rattle.al_flow.specs.Rules.{has_branches, has_targets, stays_inside}
use Rattle.al_flow.specs.Targets.{number_at}
use Rattle.al_type_stmt.specs.declared.within.Choice.{Choice}
use Rattle.al_type_stmt.specs.declared.within.Choice.TheVariants as choice
use Rattle.al_type_stmt.specs.declared.within.Within.{Within}
use Rattle.al_type_stmt.specs.Statements as typed
use Rattle.al_sound_operators.specs.Typed.{IfGood}
use Rattle.al_sound_operators.proofs.Outcomes.{if_good}
use Rattle.al_sound_flow.specs.Flow.{HasTargets, Leads, label_numbers, rescue_numbers}
use Rattle.al_sound_flow.proofs.Numbers.{label_is, next_one, rescue_is, rescue_there}
use Rattle.al_sound_flow.proofs.Places.{StandApart, number_is}
use Rattle.al_sound_flow.proofs.Ways.{Adds, Walked, adds_then, branches_list_go, labels, list_goes, none_left, none_right, own_of, places_in, rescues, statement_goes}
use Rattle.al_sound_flow.proofs.Typed.{AreNumbered, IsNumbered}
use Rattle.al_sound_flow.proofs.Simple as simple
use Rattle.al_sound_flow.proofs.Compound as compound

-- ---- lists

none_in : {A X : Type 0} (x : A) → Contains [] x → X
none_in x c = absurd (omega (arith, c.1))

one_of : {A : Type 0} (x y : A) (xs : List A) → Contains (x ∷ xs) y → (x ≡ y) ⊎ Contains xs y
one_of x y xs (zero, lt, q) = inl q
one_of x y xs (suc k, lt, q) = inr (k, omega (arith, lt), q)

holds_if_unasked : (rule : ℕ) (at : Place) (b : Bool) → ask rule at b ≡ [] → b ≡ true
holds_if_unasked rule at true e = refl
holds_if_unasked rule at false e = absurd (cc)

some_is : {A : Type 0} {a b : A} → Some a ≡ Some b → a ≡ b
some_is e = cc

none_before : (n : ℕ) → 0 + n ≡ n
none_before n = omega arith

-- ---- numbers of loops

and_parts : (a b : Bool) → (a && b) ≡ true → (a ≡ true) × (b ≡ true)
and_parts true true e = (refl, refl)
and_parts true false e = absurd (cc)
and_parts false b e = absurd (cc)

one_of_two : (a b : Bool) → (a || not b) ≡ true → b ≡ true → a ≡ true
one_of_two true b e h = refl
one_of_two false true e h = absurd (cc)
one_of_two false false e h = absurd (cc)

at_most : (n m : ℕ) → nat_le n m ≡ true → n ≤ m
at_most n m e = grind (arith, common_steps, e)

-- a break or continue that keeps the rules stays inside of what is round it here
stays : (n count outside here : ℕ) → count ≡ outside + here → has_targets n count ≡ true → stays_inside n count outside ≡ true → (1 ≤ n) × (n ≤ here)
unfolding has_targets stays_inside
stays n count outside here e h k =
    let both = and_parts (nat_le 1 n) (nat_le n count) h in
    let within = at_most n (count - outside) (one_of_two (nat_le n (count - outside)) (nat_le 1 n && nat_le n count) k h) in
    (at_most 1 n both.0, omega (arith, within, e))

loop_more : (es : List Enclosing) → loops_in (es ++ enclosing.Loop ∷ []) ≡ loops_in es + 1
loop_more es = fold-append (λ n (e : Enclosing). n + cond (is_loop e) 1 0) 0 es (enclosing.Loop ∷ [])

choice_more : (es : List Enclosing) → loops_in (es ++ enclosing.Choice ∷ []) ≡ loops_in es
choice_more es = fold-append (λ n (e : Enclosing). n + cond (is_loop e) 1 0) 0 es (enclosing.Choice ∷ []) ∙ add-zero (loops_in es)

one_longer : {A : Type 0} (xs : List A) (x : A) → length (xs ++ x ∷ []) ≡ length xs + 1
one_longer xs x = length-append xs (x ∷ [])

-- ---- statements

abbrev Typing : Type 0
Typing = Within → Environment → Here → typed.Part

abbrev Typings : Type 0
Typings = Within → Environment → Here → List typed.Part

abbrev typing_of : Stmt → Typing
typing_of s w env here = typed.part w env here s

abbrev with_standing : Stmt → Stmt × walks.Way
with_standing s = (s, standing s)

abbrev with_branches : Stmt → Stmt × List Stmt
with_branches s = (s, branches s)

abbrev standing_all : List Stmt → ℕ → ℕ → List Standing
standing_all ss b l = each_standing (map with_standing ss) b l

abbrev branches_all : List Stmt → List Stmt
branches_all ss = flat_map (λ (p : Stmt × List Stmt). p.1) (map with_branches ss)

abbrev branches_of_par : List Stmt → List Stmt
branches_of_par ss = flat_map (λ (p : Stmt × List Stmt). p.0 ∷ p.1) (map with_branches ss)

module _ (final : List Target) (apart : StandApart final) where
  -- A walk stands in a function or branch with these labels and rescues, before some of them, inside so many loops, switches and
  -- alts of it.
  record At (m : List Mark) (w : Walk) (own later : List Mark) (b l : ℕ) : Type 0 where
    marks : m ≡ w.passed ++ (own ++ later)
    breaks : length w.around ≡ w.outside.left + b
    loops : loops_in w.around ≡ w.outside.loops + l
    closest : (n : ℕ) → w.closest ≡ Some n → Contains (rescue_numbers 0 m) n

  -- no rule is broken up to here, and what is found here is among what is found in the end
  record Ends (u : Walk) : Type 0 where
    none : u.faults ≡ []
    more : Adds u.targets final

  ends_before : (own : List Mark) (ats : List Place) (w u : Walk) → Walked own ats w u → Ends u → Ends w
  ends_before own ats w u h e = record {
    none = none_left w.faults h.faults.0 (sym h.faults.1 ∙ e.none);
    more = adds_then w.targets u.targets final h.targets e.more;
  }

  -- the number that was found at a place
  there_is : (ts : List Target) (at : Place) (n : ℕ) (u : Walk) → u.targets ≡ ts ++ target_at at (Some n) → Ends u → number_at final at ≡ Some n
  there_is ts at n u e ends =
      let t : Target = record { at = at; number = n } in
      let rest = ends.more.0 in
      let is : final ≡ ts ++ t ∷ rest = ends.more.1 ∙ ap (λ l. l ++ rest) e ∙ append_assoc ts (t ∷ []) rest in
      ap (λ l. number_at l at) is ∙ number_is ts rest t (subst StandApart is apart)

  found : (ts : List Target) (at : Place) (n k : ℕ) (u : Walk) → u.targets ≡ ts ++ target_at at (Some n) → Ends u → number_at final at ≡ Some k → n ≡ k
  found ts at n k u e ends q = some_is (sym (there_is ts at n u e ends) ∙ q)

  abbrev LeadsAt : List Mark → Standing → Type 0
  LeadsAt m x = Leads final (label_numbers 0 m) (rescue_numbers 0 m) x.breaks x.loops (out-Stmt x.tree)

  abbrev IsTyped : (from : ℕ) → List Mark → Typing → Type 0
  IsTyped from own p = (w : Within) (env : Environment) (here : Here) → w.targets ≡ final → (c : Choice) → IfGood ((p w env here).way c) (IsNumbered from own)

  abbrev AreTyped : (from : ℕ) → List Mark → Typings → Type 0
  AreTyped from own ps =
      (w : Within) (env : Environment) (here : Here) → w.targets ≡ final → (c : Choice) → IfGood (typed.of_each (typed.in_choice c) (ps w env here)) (AreNumbered from own)

  -- what is true of statements that stand there, of the branches in them, and of the walk behind them
  record Stands (m : List Mark) (u : Walk) (xs : List Standing) (bs : List Stmt) : Type 0 where
    leads : (x : Standing) → Contains xs x → LeadsAt m x
    inner : (s : Stmt) → Contains bs s → HasTargets final s
    closest : (n : ℕ) → u.closest ≡ Some n → Contains (rescue_numbers 0 m) n

  record Facts (m : List Mark) (from : ℕ) (own : List Mark) (u : Walk) (xs : List Standing) (bs : List Stmt) (p : Typing) : Type 0 where
    stands : Stands m u xs bs
    typed : IsTyped from own p

  record FactsOfAll (m : List Mark) (from : ℕ) (own : List Mark) (u : Walk) (xs : List Standing) (bs : List Stmt) (ps : Typings) : Type 0 where
    stands : Stands m u xs bs
    typed : AreTyped from own ps

  abbrev Good : Stmt → Type 0
  Good s = (m : List Mark) (w : Walk) (later : List Mark) (b l : ℕ) → At m w (part s).own later b l → Ends ((part s).way m w)
      → Facts m (length w.passed) (part s).own ((part s).way m w) (standing s b l) (branches s) (typing_of s)

  abbrev Checked : Type 0
  Checked = (s : Stmt) × Good s

  abbrev plain : List Checked → List Stmt
  plain ys = map (λ (y : Checked). y.0) ys

  -- ---- one after the other

  stand_none : (m : List Mark) (u : Walk) → ((n : ℕ) → u.closest ≡ Some n → Contains (rescue_numbers 0 m) n) → Stands m u [] []
  stand_none m u h = record { leads = λ x c. none_in x c; inner = λ s c. none_in s c; closest = h }

  stand_both : (m : List Mark) (u v : Walk) (xs ys : List Standing) (bs cs : List Stmt) → Stands m u xs bs → Stands m v ys cs → Stands m v (xs ++ ys) (bs ++ cs)
  stand_both m u v xs ys bs cs h k = record {
    leads = λ x c. leads_in x (Contains-append_cases xs ys x c);
    inner = λ s c. inner_in s (Contains-append_cases bs cs s c);
    closest = k.closest;
  }
    where
      leads_in : (x : Standing) → Contains xs x ⊎ Contains ys x → LeadsAt m x
      leads_in x (inl c) = h.leads x c
      leads_in x (inr c) = k.leads x c

      inner_in : (s : Stmt) → Contains bs s ⊎ Contains cs s → HasTargets final s
      inner_in s (inl c) = h.inner s c
      inner_in s (inr c) = k.inner s c

  -- the first of some stands there, and the others behind it
  first_at : (m : List Mark) (w : Walk) (own more later : List Mark) (b l : ℕ) → At m w (own ++ more) later b l → At m w own (more ++ later) b l
  first_at m w own more later b l h = record {
    marks = h.marks ∙ ap (λ ms. w.passed ++ ms) (append_assoc own more later);
    breaks = h.breaks;
    loops = h.loops;
    closest = h.closest;
  }

  rest_at : (m : List Mark) (w u : Walk) (own more later : List Mark) (ats : List Place) (b l : ℕ) → At m w (own ++ more) later b l → Walked own ats w u
      → ((n : ℕ) → u.closest ≡ Some n → Contains (rescue_numbers 0 m) n) → At m u more later b l
  rest_at m w u own more later ats b l h k closest = record {
    marks =
        h.marks ∙ ap (λ ms. w.passed ++ ms) (append_assoc own more later) ∙ sym (append_assoc w.passed own (more ++ later)) ∙ ap (λ ms. ms ++ (more ++ later)) (sym k.passed);
    breaks = ap length k.around ∙ h.breaks ∙ ap (λ o. o.left + b) (sym k.outside);
    loops = ap loops_in k.around ∙ h.loops ∙ ap (λ o. o.loops + l) (sym k.outside);
    closest = closest;
  }

  further : (own : List Mark) (ats : List Place) (w u : Walk) → Walked own ats w u → length u.passed ≡ length w.passed + length own
  further own ats w u h = ap length h.passed ∙ length-append w.passed own

  all_facts : (ys : List Checked) (m : List Mark) (w : Walk) (later : List Mark) (b l : ℕ) → At m w (own_of (plain ys)) later b l → Ends (all (map part (plain ys)) m w)
      → FactsOfAll m (length w.passed) (own_of (plain ys)) (all (map part (plain ys)) m w) (standing_all (plain ys) b l) (branches_all (plain ys)) (λ v env here. map (typed.part v env here) (plain ys))
  all_facts [] m w later b l at ends = record { stands = stand_none m w at.closest; typed = λ v env here e c. compound.each_none c (length w.passed) }
  all_facts (y ∷ ys) m w later b l at ends =
      let own = (part y.0).own in
      let more = own_of (plain ys) in
      let u = (part y.0).way m w in
      let end = all (map part (plain ys)) m u in
      let walked = statement_goes y.0 m w in
      let one = y.1 m w (more ++ later) b l (first_at m w own more later b l at) (ends_before more (places_in (plain ys)) u end (list_goes (plain ys) m u) ends) in
      let rest = all_facts ys m u later b l (rest_at m w u own more later (jump_places y.0) b l at walked one.stands.closest) ends in
      let typings : Typings = λ v env here. map (typed.part v env here) (plain ys) in
      let there : AreTyped (length w.passed + length own) more typings = subst (λ n. AreTyped n more typings) (further own (jump_places y.0) w u walked) rest.typed in
      record {
        stands = stand_both m u end (standing y.0 b l) (standing_all (plain ys) b l) (branches y.0) (branches_all (plain ys)) one.stands rest.stands;
        typed = λ v env here e c.
            compound.each_more c (length w.passed) own more (typed.part v env here y.0) (map (typed.part v env here) (plain ys)) (one.typed v env here e c) (there v env here e c);
      }

  -- ---- branches of a par

  branch_facts : (y : Checked) (w : Walk) → Ends (branch (part y.0) w) → HasTargets final y.0 × ((s : Stmt) → Contains (branches y.0) s → HasTargets final s)
  unfolding branch
  branch_facts y w ends =
      let own = (part y.0).own in
      let start : Walk = record w { passed = []; closest = None; outside = outside_of w.around } in
      let f = y.1 own start [] 0 0 (record {
        marks = sym (append-nil own);
        breaks = sym (add-zero (length w.around));
        loops = sym (add-zero (loops_in w.around));
        closest = λ n e. absurd (cc);
      }) (record { none = ends.none; more = ends.more }) in (
        record {
          leads = λ x c. f.stands.leads x c;
          labels = λ v env here t e q.
              let k = if_good (IsNumbered 0 own) (typed.statement v env here y.0) t (f.typed v env here e choice.Neither) q in (k.labels, k.rescues);
        },
        f.stands.inner,
      )

  par_facts : (ys : List Checked) (w : Walk) → Ends (flow.branches (λ (p : Part). p) (map part (plain ys)) w) → (s : Stmt) → Contains (branches_of_par (plain ys)) s → HasTargets final s
  par_facts [] w ends s c = none_in s c
  par_facts (y ∷ ys) w ends s c =
      let u = branch (part y.0) w in
      let end = flow.branches (λ (p : Part). p) (map part (plain ys)) u in
      let one = branch_facts y w (ends_before [] (places_in (plain ys)) u end (branches_list_go (plain ys) u) ends) in
      of_either one (par_facts ys u ends) (Contains-append_cases (y.0 ∷ branches y.0) (branches_of_par (plain ys)) s c)
    where
      of_one : HasTargets final y.0 × ((s : Stmt) → Contains (branches y.0) s → HasTargets final s) → (y.0 ≡ s) ⊎ Contains (branches y.0) s → HasTargets final s
      of_one h (inl e) = subst (HasTargets final) e h.0
      of_one h (inr c) = h.1 s c

      of_either : HasTargets final y.0 × ((s : Stmt) → Contains (branches y.0) s → HasTargets final s) → ((s : Stmt) → Contains (branches_of_par (plain ys)) s → HasTargets final s)
          → Contains (y.0 ∷ branches y.0) s ⊎ Contains (branches_of_par (plain ys)) s → HasTargets final s
      of_either h k (inl c) = of_one h (one_of y.0 s (branches y.0) c)
      of_either h k (inr c) = k s c

  -- ---- jumps

  -- what is given a number where it has one
  named_found : (P : ℕ → Type 0) (ts : List Target) (fs : List TypeFault) (rule : ℕ) (at : Place) (o : Option ℕ) (u : Walk) → u.targets ≡ ts ++ target_at at o
      → u.faults ≡ fs ++ ask rule at (is_some o) → Ends u → ((n : ℕ) → o ≡ Some n → P n) → (k : ℕ) → number_at final at ≡ Some k → P k
  named_found P ts fs rule at (Some n) u e f ends h k q = subst P (found ts at n k u e ends q) (h n refl)
  named_found P ts fs rule at None u e f ends h k q = broken (none_right fs (ask rule at false) (sym f ∙ ends.none))
    where
      broken : {X : Type 0} → ask rule at false ≡ [] → X
      broken e = absurd (cc)

  left_found : (ts : List Target) (fs : List TypeFault) (at : Place) (n count outside here : ℕ) (u : Walk) → u.targets ≡ ts ++ target_at at (Some n)
      → u.faults ≡ (fs ++ ask 49 at (has_targets n count)) ++ ask 54 at (stays_inside n count outside) → count ≡ outside + here → Ends u
      → (k : ℕ) → number_at final at ≡ Some k → (1 ≤ k) × (k ≤ here)
  left_found ts fs at n count outside here u e f c ends k q =
      let none = sym f ∙ ends.none in
      let first = none_left (fs ++ ask 49 at (has_targets n count)) (ask 54 at (stays_inside n count outside)) none in
      subst (λ m. (1 ≤ m) × (m ≤ here)) (found ts at n k u e ends q)
      (stays n count outside here c (holds_if_unasked 49 at (has_targets n count) (none_right fs (ask 49 at (has_targets n count)) first))
      (holds_if_unasked 54 at (stays_inside n count outside) (none_right (fs ++ ask 49 at (has_targets n count)) (ask 54 at (stays_inside n count outside)) none)))

  goto_leads : (at : Place) (name : ℕ) (m : List Mark) (w : Walk) → Ends (gone at name m w) → (k : ℕ) → number_at final at ≡ Some k → Contains (label_numbers 0 m) k
  unfolding gone
  goto_leads at name m w ends =
      named_found (Contains (label_numbers 0 m)) w.targets w.faults 50 at (label_named m name) (gone at name m w) refl refl ends (λ n e. label_is m name n e)

  raised_to : (m : List Mark) (closest name : Option ℕ) → ((n : ℕ) → closest ≡ Some n → Contains (rescue_numbers 0 m) n) → (n : ℕ) → rescue_of m closest name ≡ Some n
      → Contains (rescue_numbers 0 m) n
  unfolding rescue_of
  raised_to m closest None h n e = h n e
  raised_to m closest (Some name) h n e = rescue_is m name n e

  raise_leads : (at : Place) (name : Option ℕ) (m : List Mark) (w : Walk) → ((n : ℕ) → w.closest ≡ Some n → Contains (rescue_numbers 0 m) n) → Ends (raised at name m w)
      → (k : ℕ) → number_at final at ≡ Some k → Contains (rescue_numbers 0 m) k
  unfolding raised
  raise_leads at name m w h ends =
      named_found (Contains (rescue_numbers 0 m)) w.targets w.faults 51 at (rescue_of m w.closest name) (raised at name m w) refl refl ends (raised_to m w.closest name h)

  break_leads : (at : Place) (count : Option ℕ) (w : Walk) (b : ℕ) → length w.around ≡ w.outside.left + b → Ends (broken_off at count w)
      → (k : ℕ) → number_at final at ≡ Some k → (1 ≤ k) × (k ≤ b)
  unfolding broken_off left
  break_leads at count w b e ends = left_found w.targets w.faults at (count_of count) (length w.around) w.outside.left b (broken_off at count w) refl refl e ends

  continue_leads : (at : Place) (count : Option ℕ) (w : Walk) (l : ℕ) → loops_in w.around ≡ w.outside.loops + l → Ends (gone_on at count w)
      → (k : ℕ) → number_at final at ≡ Some k → (1 ≤ k) × (k ≤ l)
  unfolding gone_on left
  continue_leads at count w l e ends = left_found w.targets w.faults at (count_of count) (loops_in w.around) w.outside.loops l (gone_on at count w) refl refl e ends

  -- ---- by the kind of a statement

  abbrev with_ways : Stmt-F Stmt → Stmt-F (Stmt × walks.Way)
  with_ways z = map-Stmt Stmt (Stmt × walks.Way) with_standing z

  abbrev own_tree : Stmt-F Stmt → Stmt-F Stmt
  own_tree z = map-Stmt (Stmt × walks.Way) Stmt (λ p. p.0) (with_ways z)

  abbrev own_at : Stmt-F Stmt → ℕ → ℕ → Standing
  own_at z b l = record { tree = tree_of (with_ways z); breaks = b; loops = l }

  -- the statement itself before those in it
  with_own : (m : List Mark) (u : Walk) (z : Stmt-F Stmt) (b l : ℕ) (xs : List Standing) (bs : List Stmt) → Leads final (label_numbers 0 m) (rescue_numbers 0 m) b l (own_tree z)
      → Stands m u xs bs → Stands m u (own_at z b l ∷ xs) bs
  with_own m u z b l xs bs h k = record { leads = λ x c. leads_in x (one_of (own_at z b l) x xs c); inner = k.inner; closest = k.closest }
    where
      leads_in : (x : Standing) → (own_at z b l ≡ x) ⊎ Contains xs x → LeadsAt m x
      leads_in x (inl e) =
          subst (LeadsAt m) e (subst (Leads final (label_numbers 0 m) (rescue_numbers 0 m) b l) (sym (out-roll-Stmt (own_tree z))) h)
      leads_in x (inr c) = k.leads x c

  abbrev Step : Stmt-F Stmt → Type 0
  Step z = (m : List Mark) (w : Walk) (later : List Mark) (b l : ℕ) → At m w (flow.own_step (map-Stmt Stmt Part part z)) later b l
      → Ends (flow.way_step (map-Stmt Stmt Part part z) m w)
      → Facts m (length w.passed) (flow.own_step (map-Stmt Stmt Part part z)) (flow.way_step (map-Stmt Stmt Part part z) m w) (standing_step (with_ways z) b l)
      (branches_with (flat_map (λ (p : Stmt × List Stmt). p.0 ∷ p.1)) (map-Stmt Stmt (Stmt × List Stmt) with_branches z))
      (λ v env here. typed.part_step v env here (map-Stmt Stmt typed.Part (typed.part v env here) z))

  -- a statement that the walk goes past
  past : (m : List Mark) (w u : Walk) (z : Stmt-F Stmt) (b l : ℕ) → u.closest ≡ w.closest → ((n : ℕ) → w.closest ≡ Some n → Contains (rescue_numbers 0 m) n)
      → Leads final (label_numbers 0 m) (rescue_numbers 0 m) b l (own_tree z) → Stands m u (own_at z b l ∷ []) []
  past m w u z b l e h k = with_own m u z b l [] [] k (stand_none m u (λ n q. h n (sym e ∙ q)))

  goto_is : (at : Place) (name : Name) → Step (Stmt-F.Goto at name)
  unfolding gone
  goto_is at name m w later b l at_ ends = record {
    stands = past m w (gone at name.name m w) (Stmt-F.Goto at name) b l refl at_.closest (goto_leads at name.name m w ends);
    typed = λ v env here e c. simple.goto_plain (length w.passed) v at;
  }

  raise_is : (at : Place) (name : Option Name) → Step (Stmt-F.Raise at name)
  unfolding raised
  raise_is at name m w later b l at_ ends = record {
    stands = past m w (raised at (number_of name) m w) (Stmt-F.Raise at name) b l refl at_.closest (raise_leads at (number_of name) m w at_.closest ends);
    typed = λ v env here e c. simple.raise_plain (length w.passed) v at;
  }

  break_is : (at : Place) (count : Option ℕ) → Step (Stmt-F.Break at count)
  unfolding broken_off left
  break_is at count m w later b l at_ ends = record {
    stands = past m w (broken_off at count w) (Stmt-F.Break at count) b l refl at_.closest (break_leads at count w b at_.breaks ends);
    typed = λ v env here e c. simple.break_plain (length w.passed) v at;
  }

  continue_is : (at : Place) (count : Option ℕ) → Step (Stmt-F.Continue at count)
  unfolding gone_on left
  continue_is at count m w later b l at_ ends = record {
    stands = past m w (gone_on at count w) (Stmt-F.Continue at count) b l refl at_.closest (continue_leads at count w l at_.loops ends);
    typed = λ v env here e c. simple.continue_plain (length w.passed) v at;
  }

  -- ---- statements in statements

  abbrev plain_tree : Stmt-F Checked → Stmt-F Stmt
  plain_tree y = map-Stmt Checked Stmt (λ c. c.0) y

  -- inside of a loop, switch or alt
  inner_at : (e : Enclosing) (m : List Mark) (w : Walk) (own later : List Mark) (b l k : ℕ) → loops_in (w.around ++ e ∷ []) ≡ loops_in w.around + k → At m w own later b l
      → At m (record w { around = w.around ++ e ∷ [] }) own later (b + 1) (l + k)
  inner_at e m w own later b l k more h = record {
    marks = h.marks;
    breaks = (let long = one_longer w.around e in let at = h.breaks in omega arith);
    loops = (let at = h.loops in omega (arith, more));
    closest = h.closest;
  }

  inner_ends : (e : Enclosing) (way : flow.Way) (m : List Mark) (w : Walk) → Ends (inside e way m w) → Ends (way m (record w { around = w.around ++ e ∷ [] }))
  unfolding inside
  inner_ends e way m w h = record { none = h.none; more = h.more }

  inner_closest : (e : Enclosing) (way : flow.Way) (m : List Mark) (w : Walk) → (inside e way m w).closest ≡ (way m (record w { around = w.around ++ e ∷ [] })).closest
  unfolding inside
  inner_closest e way m w = refl

  -- what stands there is the same behind a walk with the same rescue closest
  stand_so : (m : List Mark) (u v : Walk) (xs : List Standing) (bs : List Stmt) → v.closest ≡ u.closest → Stands m u xs bs → Stands m v xs bs
  stand_so m u v xs bs e h = record { leads = h.leads; inner = h.inner; closest = λ n q. h.closest n (sym e ∙ q) }

  loop_stands : (z : Stmt-F Stmt) (y : Checked) (m : List Mark) (w : Walk) (later : List Mark) (b l : ℕ) → Leads final (label_numbers 0 m) (rescue_numbers 0 m) b l (own_tree z)
      → At m w (part y.0).own later b l → Ends (inside enclosing.Loop (part y.0).way m w)
      → Facts m (length w.passed) (part y.0).own (inside enclosing.Loop (part y.0).way m w) (own_at z b l ∷ standing y.0 (b + 1) (l + 1)) (branches y.0) (typing_of y.0)
  loop_stands z y m w later b l h at ends =
      let start : Walk = record w { around = w.around ++ enclosing.Loop ∷ [] } in
      let u = (part y.0).way m start in
      let v = inside enclosing.Loop (part y.0).way m w in
      let f = y.1 m start later (b + 1) (l + 1) (inner_at enclosing.Loop m w (part y.0).own later b l 1 (loop_more w.around) at) (inner_ends enclosing.Loop (part y.0).way m w ends) in
      record {
        stands = with_own m v z b l (standing y.0 (b + 1) (l + 1)) (branches y.0) h
            (stand_so m u v (standing y.0 (b + 1) (l + 1)) (branches y.0) (inner_closest enclosing.Loop (part y.0).way m w) f.stands);
        typed = f.typed;
      }

  choice_stands : (z : Stmt-F Stmt) (ys : List Checked) (m : List Mark) (w : Walk) (later : List Mark) (b l : ℕ) → Leads final (label_numbers 0 m) (rescue_numbers 0 m) b l (own_tree z)
      → At m w (own_of (plain ys)) later b l → Ends (inside enclosing.Choice (all (map part (plain ys))) m w)
      → FactsOfAll m (length w.passed) (own_of (plain ys)) (inside enclosing.Choice (all (map part (plain ys))) m w) (own_at z b l ∷ standing_all (plain ys) (b + 1) l) (branches_all (plain ys))
      (λ v env here. map (typed.part v env here) (plain ys))
  choice_stands z ys m w later b l h at ends =
      let start : Walk = record w { around = w.around ++ enclosing.Choice ∷ [] } in
      let way = all (map part (plain ys)) in
      let u = way m start in
      let v = inside enclosing.Choice way m w in
      let there = inner_at enclosing.Choice m w (own_of (plain ys)) later b l 0 (choice_more w.around ∙ sym (add-zero (loops_in w.around))) at in
      let f = all_facts ys m start later (b + 1) l (subst (At m start (own_of (plain ys)) later (b + 1)) (add-zero l) there) (inner_ends enclosing.Choice way m w ends) in
      record {
        stands = with_own m v z b l (standing_all (plain ys) (b + 1) l) (branches_all (plain ys)) h
            (stand_so m u v (standing_all (plain ys) (b + 1) l) (branches_all (plain ys)) (inner_closest enclosing.Choice way m w) f.stands);
        typed = f.typed;
      }

  block_is : (at : Place) (ys : List Checked) → Step (Stmt-F.Block at (plain ys))
  unfolding block
  block_is at ys m w later b l at_ ends =
      let way = all (map part (plain ys)) in
      let u = way m w in
      let f = all_facts ys m w later b l at_ (record { none = ends.none; more = ends.more }) in
      let end = block way m w in
      record {
        stands = with_own m end (Stmt-F.Block at (plain ys)) b l (standing_all (plain ys) b l) (branches_all (plain ys)) tt
            (record { leads = f.stands.leads; inner = f.stands.inner; closest = at_.closest });
        typed = λ v env here e c.
            compound.block_has (length w.passed) (own_of (plain ys)) at (map (typed.part v env here) (plain ys)) (f.typed v env here e choice.Neither);
      }

  -- ---- labels and rescues

  mark_there : (m : List Mark) (passed own later : List Mark) (x : Mark) → m ≡ passed ++ ((x ∷ own) ++ later) → slice_get m (length passed) ≡ Some x
  mark_there m passed own later x e = ap (λ ms. slice_get ms (length passed)) e ∙ next_one passed (own ++ later) x

  label_found : (at : Place) (name : ℕ) (w : Walk) → Ends (labelled at name w) → number_at final at ≡ Some (length w.passed)
  unfolding labelled
  label_found at name w ends = there_is w.targets at (length w.passed) (labelled at name w) refl ends

  label_closest : (at : Place) (name : ℕ) (m : List Mark) (w : Walk) → ((n : ℕ) → w.closest ≡ Some n → Contains (rescue_numbers 0 m) n)
      → (n : ℕ) → (labelled at name w).closest ≡ Some n → Contains (rescue_numbers 0 m) n
  unfolding labelled
  label_closest at name m w h = h

  rescue_found : (at : Place) (name : Option ℕ) (w : Walk) → Ends (rescued at name w) → number_at final at ≡ Some (length w.passed)
  unfolding rescued
  rescue_found at name w ends = there_is w.targets at (length w.passed) (rescued at name w) refl ends

  rescue_closest : (at : Place) (name : Option ℕ) (m : List Mark) (w : Walk) → ((n : ℕ) → w.closest ≡ Some n → Contains (rescue_numbers 0 m) n)
      → (n : ℕ) → (rescued at name w).closest ≡ Some n → Contains (rescue_numbers 0 m) n
  unfolding rescued
  rescue_closest at name m w h = h

  label_step : (at : Place) (name : ℕ) (y : Checked) → Step (Stmt-F.Label at name y.0)
  label_step at name y m w later b l at_ ends =
      let own = (part y.0).own in
      let u = labelled at name w in
      let end = (part y.0).way m u in
      let walked = labels at name w in
      let f = y.1 m u later b l (rest_at m w u (mark.Label name ∷ []) own later (at ∷ []) b l at_ walked (label_closest at name m w at_.closest)) ends in
      let there = label_found at name w (ends_before own (jump_places y.0) u end (statement_goes y.0 m u) ends) in
      let is_typed : IsTyped (length w.passed + 1) own (typing_of y.0) = subst (λ n. IsTyped n own (typing_of y.0)) (further (mark.Label name ∷ []) (at ∷ []) w u walked) f.typed in
      record {
        stands = with_own m end (Stmt-F.Label at name y.0) b l (standing y.0 b l) (branches y.0) tt f.stands;
        typed = λ v env here e c.
            compound.label_has (length w.passed) own v at (ap (λ ts. number_at ts at) e ∙ there) (typed.inner (typed.part v env here y.0)) (is_typed v env here e choice.Neither) name;
      }

  rescue_step : (at : Place) (name : Option Name) (y : Checked) → Step (Stmt-F.Rescue at name y.0)
  unfolding rescue
  rescue_step at name y m w later b l at_ ends =
      let own = (part y.0).own in
      let x = mark.Rescue (number_of name) in
      let u = rescued at (number_of name) w in
      let end = (part y.0).way m u in
      let walked = rescues at (number_of name) w in
      let last : Ends end = record { none = ends.none; more = ends.more } in
      let f = y.1 m u later b l (rest_at m w u (x ∷ []) own later (at ∷ []) b l at_ walked (rescue_closest at (number_of name) m w at_.closest)) last in
      let there = rescue_found at (number_of name) w (ends_before own (jump_places y.0) u end (statement_goes y.0 m u) last) in
      let is_typed : IsTyped (length w.passed + 1) own (typing_of y.0) = subst (λ n. IsTyped n own (typing_of y.0)) (further (x ∷ []) (at ∷ []) w u walked) f.typed in
      let is_rescue = subst (Contains (rescue_numbers 0 m)) (none_before (length w.passed)) (rescue_there 0 m (length w.passed) (number_of name) (mark_there m w.passed own later x at_.marks)) in
      let v : Walk = record end { closest = Some (length w.passed) } in
      record {
        stands = with_own m v (Stmt-F.Rescue at name y.0) b l (standing y.0 b l) (branches y.0) tt
            (record { leads = f.stands.leads; inner = f.stands.inner; closest = λ n q. subst (Contains (rescue_numbers 0 m)) (some_is q) is_rescue });
        typed = λ v env here e c.
            compound.rescue_has (length w.passed) own v at (ap (λ ts. number_at ts at) e ∙ there) (typed.inner (typed.part v env here y.0)) (is_typed v env here e choice.Neither)
            (number_of name);
      }

  -- ---- if

  if_alone : (at : Place) (e : Expr) (y : Checked) → Step (Stmt-F.If at e y.0 None)
  if_alone at e y m w later b l at_ ends =
      let own = (part y.0).own in
      let u = (part y.0).way m w in
      let f = y.1 m w later b l (first_at m w own [] later b l at_) ends in
      record {
        stands = with_own m u (Stmt-F.If at e y.0 None) b l (standing y.0 b l ++ []) (branches y.0 ++ []) tt
            (stand_both m u u (standing y.0 b l) [] (branches y.0) [] f.stands (stand_none m u f.stands.closest));
        typed = λ v env here q c.
            compound.if_has (length w.passed) own [] at (typed.condition_of env here e) (typed.inner (typed.part v env here y.0)) (typed.optional typed.inner None) (f.typed v env here q choice.Neither)
            (compound.no_other (length w.passed) own);
      }

  if_else : (at : Place) (e : Expr) (y z : Checked) → Step (Stmt-F.If at e y.0 (Some z.0))
  if_else at e y z m w later b l at_ ends =
      let own = (part y.0).own in
      let more = (part z.0).own in
      let u = (part y.0).way m w in
      let end = (part z.0).way m u in
      let walked = statement_goes y.0 m w in
      let f = y.1 m w (more ++ later) b l (first_at m w own more later b l at_) (ends_before more (jump_places z.0) u end (statement_goes z.0 m u) ends) in
      let g = z.1 m u later b l (rest_at m w u own more later (jump_places y.0) b l at_ walked f.stands.closest) ends in
      let is_typed : IsTyped (length w.passed + length own) more (typing_of z.0) = subst (λ n. IsTyped n more (typing_of z.0)) (further own (jump_places y.0) w u walked) g.typed in
      record {
        stands = with_own m end (Stmt-F.If at e y.0 (Some z.0)) b l (standing y.0 b l ++ standing z.0 b l) (branches y.0 ++ branches z.0) tt
            (stand_both m u end (standing y.0 b l) (standing z.0 b l) (branches y.0) (branches z.0) f.stands g.stands);
        typed = λ v env here q c.
            compound.if_has (length w.passed) own more at (typed.condition_of env here e) (typed.inner (typed.part v env here y.0))
            (typed.optional typed.inner (Some (typed.part v env here z.0))) (f.typed v env here q choice.Neither)
            (compound.other_has (length w.passed) own more (typed.inner (typed.part v env here z.0)) (is_typed v env here q choice.Neither));
      }

  -- ---- par

  branch_closest : (p : Part) (w : Walk) → (branch p w).closest ≡ w.closest
  unfolding branch
  branch_closest p w = refl

  branches_closest : (ss : List Stmt) (w : Walk) → (flow.branches (λ (p : Part). p) (map part ss) w).closest ≡ w.closest
  branches_closest [] w = refl
  branches_closest (s ∷ ss) w = branches_closest ss (branch (part s) w) ∙ branch_closest (part s) w

  parted_closest : (at : Place) (n : ℕ) (w : Walk) → (parted at n w).closest ≡ w.closest
  unfolding parted
  parted_closest at n w = refl

  parted_holds : (at : Place) (n : ℕ) (w : Walk) → Ends (parted at n w) → has_branches n ≡ true
  unfolding parted
  parted_holds at n w ends = holds_if_unasked 54 at (has_branches n) (none_right w.faults (ask 54 at (has_branches n)) ends.none)

  are_few : (n k : ℕ) → n ≡ k → has_branches n ≡ true → (1 ≤ k) × (k ≤ 64)
  unfolding has_branches
  are_few n k e h = let both = and_parts (nat_le 1 n) (nat_le n 64) h in subst (λ i. (1 ≤ i) × (i ≤ 64)) e (at_most 1 n both.0, at_most n 64 both.1)

  par_step : (at : Place) (ys : List Checked) → Step (Stmt-F.Par at (plain ys))
  par_step at ys m w later b l at_ ends =
      let ss = plain ys in
      let n = length (map part ss) in
      let u = parted at n w in
      let end = flow.branches (λ (p : Part). p) (map part ss) u in
      let few = parted_holds at n w (ends_before [] (places_in ss) u end (branches_list_go ss u) ends) in
      let count : n ≡ length (map (λ (p : Stmt × walks.Way). p.0) (map with_standing ss)) = length-map ss part ∙ sym (length-map ss with_standing) ∙ sym (length-map (map with_standing ss) (λ (p : Stmt × walks.Way). p.0)) in
      let closest = branches_closest ss u ∙ parted_closest at n w in
      record {
        stands = with_own m end (Stmt-F.Par at ss) b l [] (branches_of_par ss) (are_few n _ count few)
            (record { leads = λ x c. none_in x c; inner = par_facts ys u ends; closest = λ k q. at_.closest k (sym closest ∙ q) });
        typed = λ v env here e c. simple.par_plain (length w.passed) v at _;
      }

  -- ---- each statement

  alone : (z : Stmt-F Stmt) (m : List Mark) (w : Walk) (own later : List Mark) (b l : ℕ) → At m w own later b l → Leads final (label_numbers 0 m) (rescue_numbers 0 m) b l (own_tree z)
      → Stands m w (own_at z b l ∷ []) []
  alone z m w own later b l at_ h = past m w w z b l refl at_.closest h

  step_is : (y : Stmt-F Checked) → Step (plain_tree y)
  step_is (Stmt-F.Empty at) m w later b l at_ ends = record {
    stands = alone (Stmt-F.Empty at) m w [] later b l at_ tt;
    typed = λ v env here e c. record { labels = refl; rescues = refl };
  }
  step_is (Stmt-F.Block at body) m w later b l at_ ends = block_is at body m w later b l at_ ends
  step_is (Stmt-F.Declare at base variables) m w later b l at_ ends = record {
    stands = alone (Stmt-F.Declare at base variables) m w [] later b l at_ tt;
    typed = λ v env here e c. simple.declared_plain (length w.passed) env here at.line variables;
  }
  step_is (Stmt-F.Value at x) m w later b l at_ ends = record {
    stands = alone (Stmt-F.Value at x) m w [] later b l at_ tt;
    typed = λ v env here e c. simple.value_plain (length w.passed) env here at.line x;
  }
  step_is (Stmt-F.Label at name body) m w later b l at_ ends = label_step at name body m w later b l at_ ends
  step_is (Stmt-F.If at x met None) m w later b l at_ ends = if_alone at x met m w later b l at_ ends
  step_is (Stmt-F.If at x met (Some other)) m w later b l at_ ends = if_else at x met other m w later b l at_ ends
  step_is (Stmt-F.While at x body) m w later b l at_ ends =
      let f = loop_stands (Stmt-F.While at x body.0) body m w later b l tt at_ ends in record {
        stands = f.stands;
        typed = λ v env here e c. compound.while_has (length w.passed) (part body.0).own env here at x (typed.inner (typed.part v env here body.0)) (f.typed v env here e choice.Neither);
      }
  step_is (Stmt-F.Do at body x) m w later b l at_ ends =
      let f = loop_stands (Stmt-F.Do at body.0 x) body m w later b l tt at_ ends in record {
        stands = f.stands;
        typed = λ v env here e c. compound.do_has (length w.passed) (part body.0).own env here at (typed.inner (typed.part v env here body.0)) x (f.typed v env here e choice.Neither);
      }
  step_is (Stmt-F.For at start x next body) m w later b l at_ ends =
      let f = loop_stands (Stmt-F.For at start x next body.0) body m w later b l tt at_ ends in record {
        stands = f.stands;
        typed = λ v env here e c.
            compound.for_has (length w.passed) (part body.0).own env here at start x next (typed.inner (typed.part v env here body.0)) (f.typed v env here e choice.Neither);
      }
  step_is (Stmt-F.Switch at x body) m w later b l at_ ends =
      let f = choice_stands (Stmt-F.Switch at x (plain body)) body m w later b l tt at_ ends in record {
        stands = f.stands;
        typed = λ v env here e c. compound.switch_has (length w.passed) (own_of (plain body)) env here at x (map (typed.part v env here) (plain body)) (λ k. f.typed v env here e k);
      }
  step_is (Stmt-F.Alt at body) m w later b l at_ ends =
      let f = choice_stands (Stmt-F.Alt at (plain body)) body m w later b l tt at_ ends in record {
        stands = f.stands;
        typed = λ v env here e c. compound.alt_has (length w.passed) (own_of (plain body)) at (map (typed.part v env here) (plain body)) (f.typed v env here e choice.Alt);
      }
  step_is (Stmt-F.Case at x) m w later b l at_ ends = record {
    stands = alone (Stmt-F.Case at x) m w [] later b l at_ tt;
    typed = λ v env here e c. simple.case_plain (length w.passed) env here at x c;
  }
  step_is (Stmt-F.Default at) m w later b l at_ ends = record {
    stands = alone (Stmt-F.Default at) m w [] later b l at_ tt;
    typed = λ v env here e c. simple.default_plain (length w.passed) at c;
  }
  step_is (Stmt-F.Par at bodies) m w later b l at_ ends = par_step at bodies m w later b l at_ ends
  step_is (Stmt-F.Rescue at name body) m w later b l at_ ends = rescue_step at name body m w later b l at_ ends
  step_is (Stmt-F.Raise at name) m w later b l at_ ends = raise_is at name m w later b l at_ ends
  step_is (Stmt-F.Return at x) m w later b l at_ ends = record {
    stands = alone (Stmt-F.Return at x) m w [] later b l at_ tt;
    typed = λ v env here e c. simple.return_plain (length w.passed) v env here at x;
  }
  step_is (Stmt-F.Become at x) m w later b l at_ ends = record {
    stands = alone (Stmt-F.Become at x) m w [] later b l at_ tt;
    typed = λ v env here e c. simple.become_plain (length w.passed) v env here at x;
  }
  step_is (Stmt-F.Break at count) m w later b l at_ ends = break_is at count m w later b l at_ ends
  step_is (Stmt-F.Continue at count) m w later b l at_ ends = continue_is at count m w later b l at_ ends
  step_is (Stmt-F.Goto at name) m w later b l at_ ends = goto_is at name m w later b l at_ ends
  step_is (Stmt-F.Alloc at es) m w later b l at_ ends = record {
    stands = alone (Stmt-F.Alloc at es) m w [] later b l at_ tt;
    typed = λ v env here e c. simple.alloc_plain (length w.passed) env here at es;
  }
  step_is (Stmt-F.Unalloc at es) m w later b l at_ ends = record {
    stands = alone (Stmt-F.Unalloc at es) m w [] later b l at_ tt;
    typed = λ v env here e c. simple.unalloc_plain (length w.passed) env here at es;
  }
  step_is (Stmt-F.Check at x text) m w later b l at_ ends = record {
    stands = alone (Stmt-F.Check at x text) m w [] later b l at_ tt;
    typed = λ v env here e c. simple.check_plain (length w.passed) env here at x;
  }
  step_is (Stmt-F.Proc at es) m w later b l at_ ends = record {
    stands = alone (Stmt-F.Proc at es) m w [] later b l at_ tt;
    typed = λ v env here e c. simple.proc_plain (length w.passed) env here at es;
  }
  step_is (Stmt-F.Task at es) m w later b l at_ ends = record {
    stands = alone (Stmt-F.Task at es) m w [] later b l at_ tt;
    typed = λ v env here e c. simple.task_plain (length w.passed) env here at es;
  }

  -- ---- trees

  abbrev GoodSo : Stmt → Part → walks.Way → List Stmt → Type 0
  GoodSo s p stands bs = (m : List Mark) (w : Walk) (later : List Mark) (b l : ℕ) → At m w p.own later b l → Ends (p.way m w)
      → Facts m (length w.passed) p.own (p.way m w) (stands b l) bs (typing_of s)

  rolled : (z : Stmt-F Stmt) → Step z
      → GoodSo (roll-Stmt z) (part_step (map-Stmt Stmt Part part z)) (standing_step (with_ways z)) (branches_with (flat_map (λ (p : Stmt × List Stmt). p.0 ∷ p.1)) (map-Stmt Stmt (Stmt × List Stmt) with_branches z))
  unfolding typed.part
  rolled z h m w later b l at_ ends =
      let f = h m w later b l at_ ends in record {
        stands = f.stands;
        typed = λ v env here e c.
            subst (λ (p : typed.Part). IfGood (p.way c) (IsNumbered (length w.passed) (flow.own_step (map-Stmt Stmt Part part z))))
            (sym (fold-roll-Stmt typed.Part (typed.part_step v env here) z)) (f.typed v env here e c);
      }

  by_parts : (y : Stmt-F Checked) → Good (roll-Stmt (plain_tree y))
  unfolding part standing branches
  by_parts y =
      let z = plain_tree y in
      let s = roll-Stmt z in
      let par : List (Stmt × List Stmt) → List Stmt = flat_map (λ (p : Stmt × List Stmt). p.0 ∷ p.1) in
      subst (λ (p : Part). GoodSo s p (standing s) (branches s)) (sym (fold-roll-Stmt Part part_step z))
      (subst (λ (st : walks.Way). GoodSo s (part_step (map-Stmt Stmt Part part z)) st (branches s)) (sym (para-roll-Stmt walks.Way standing_step z))
      (subst (λ (bs : List Stmt). GoodSo s (part_step (map-Stmt Stmt Part part z)) (standing_step (with_ways z)) bs) (sym (para-roll-Stmt (List Stmt) (branches_with par) z))
      (rolled z (step_is y))))

  statement_is : (s : Stmt) → Good s
  statement_is = ind-Stmt Good (λ x y is. subst (λ z. Good (roll-Stmt z)) is (by_parts y))

-- ---- a body

-- where no rule is broken, the targets of a body stand at the places of its jumps
pub body_facts : (body : Stmt) (ts : List Target) → (apart : StandApart ts) → (walk body (marks body) begun).faults ≡ [] → (walk body (marks body) begun).targets ≡ ts
    → HasTargets ts body × ((s : Stmt) → Contains (branches body) s → HasTargets ts s)
body_facts body ts apart none is =
    let own = marks body in
    let f = statement_is ts apart body own begun [] 0 0 (record {
      marks = sym (append-nil own);
      breaks = refl;
      loops = refl;
      closest = λ n e. absurd (cc);
    }) (record { none = none; more = ([], sym is ∙ sym (append-nil (walk body own begun).targets)) }) in (
      record {
        leads = f.stands.leads;
        labels = λ v env here t e q.
            let k = if_good (IsNumbered 0 own) (typed.statement v env here body) t (f.typed v env here e choice.Neither) q in (k.labels, k.rescues);
      },
      f.stands.inner,
    )
