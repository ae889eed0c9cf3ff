-- What the walk through a statement keeps, and what it adds.
use Rattle.std.proofs.Common.{◌≡◌, ℕ, false, List, [], ◌∷◌, ◌++◌, map, take, length, Option, Some, None, refl, sym, ap, ◌∙◌, subst, append_assoc}
use Rattle.std.specs.List.{flat_map}
use Rattle.std.specs.Prelude.{is_some}
use Rattle.std.proofs.lemmas.List.{append-nil, map-append}
use Rattle.al_base.specs.declared.place.Place.{Place}
use Rattle.al_rules.specs.declared.fault.TypeFault.{TypeFault}
use Rattle.al_rules.specs.Outcome.{ask}
use Rattle.al_tree.specs.declared.statement.Stmt.{Stmt, fold-roll-Stmt, map-Stmt, roll-Stmt}
use Rattle.al_tree.specs.declared.statement.Stmt.TheFolds.{ind-Stmt}
use Rattle.al_tree.specs.declared.statement.Stmt.TheOpen.{Stmt-F}
use Rattle.al_flow.specs.declared.around.Enclosing.{Enclosing}
use Rattle.al_flow.specs.declared.around.Enclosing.TheVariants as enclosing
use Rattle.al_flow.specs.declared.mark.Mark.{Mark}
use Rattle.al_flow.specs.declared.mark.Mark.TheVariants as mark
use Rattle.al_flow.specs.declared.target.Target.{Target}
use Rattle.al_flow.specs.declared.walk.Walk.{Walk}
use Rattle.al_flow.specs.Around.{outside_of}
use Rattle.al_flow.specs.Marks.{label_named, number_of}
use Rattle.al_flow.specs.Rules.{has_targets, stays_inside}
use Rattle.al_flow.specs.Flow.{Part, Way, all, asked, block, branch, branches, broken_off, given, gone, gone_on, inside, labelled, left, own_step, part, part_step, parted, passed, raised, rescue, rescue_of, rescued, target_at, way_step}
use Rattle.al_tree_walks.specs.Expressions.{all_places}
use Rattle.al_tree_places.specs.Jumps.{jump_step, jump_places}

-- ---- more of a list

abbrev pub Adds : {A : Type 0} → List A → List A → Type 0
Adds xs ys = (zs : List _) × (ys ≡ xs ++ zs)

pub adds_none : {A : Type 0} (xs : List A) → Adds xs xs
adds_none xs = ([], sym (append-nil xs))

pub adds_more : {A : Type 0} (xs zs : List A) → Adds xs (xs ++ zs)
adds_more xs zs = (zs, refl)

pub none_left : {A : Type 0} (xs ys : List A) → xs ++ ys ≡ [] → xs ≡ []
none_left [] ys e = refl
none_left (x ∷ xs) ys e = absurd (cc)

pub none_right : {A : Type 0} (xs ys : List A) → xs ++ ys ≡ [] → ys ≡ []
none_right [] ys e = e
none_right (x ∷ xs) ys e = absurd (cc)

pub adds_then : {A : Type 0} (xs ys zs : List A) → Adds xs ys → Adds ys zs → Adds xs zs
adds_then xs ys zs h k = (h.0 ++ k.0, k.1 ∙ ap (λ l. l ++ k.0) h.1 ∙ append_assoc xs h.0 k.0)

take_front : {A : Type 0} (xs ys : List A) → take (length xs) (xs ++ ys) ≡ xs
take_front [] ys = refl
take_front (x ∷ xs) ys = ap (λ l. x ∷ l) (take_front xs ys)

abbrev pub places : List Target → List Place
places ts = map (λ (t : Target). t.at) ts

-- ---- a walk goes on, past these labels and rescues. Where no rule is broken it finds what stands at these places.

pub record Walked (own : List Mark) (ats : List Place) (w u : Walk) : Type 0 where
  pub passed : u.passed ≡ w.passed ++ own
  pub around : u.around ≡ w.around
  pub outside : u.outside ≡ w.outside
  pub faults : Adds w.faults u.faults
  pub targets : Adds w.targets u.targets
  pub placed : u.faults ≡ [] → places u.targets ≡ places w.targets ++ ats

pub walked_none : (w : Walk) → Walked [] [] w w
walked_none w = record {
  passed = sym (append-nil w.passed);
  around = refl;
  outside = refl;
  faults = adds_none w.faults;
  targets = adds_none w.targets;
  placed = λ e. sym (append-nil (places w.targets));
}

pub walked_then : (ms ns : List Mark) (ats bts : List Place) (w u v : Walk) → Walked ms ats w u → Walked ns bts u v → Walked (ms ++ ns) (ats ++ bts) w v
walked_then ms ns ats bts w u v h k = record {
  passed = k.passed ∙ ap (λ l. l ++ ns) h.passed ∙ append_assoc w.passed ms ns;
  around = k.around ∙ h.around;
  outside = k.outside ∙ h.outside;
  faults = adds_then w.faults u.faults v.faults h.faults k.faults;
  targets = adds_then w.targets u.targets v.targets h.targets k.targets;
  placed = λ e.
      k.placed e ∙ ap (λ l. l ++ bts) (h.placed (none_left u.faults k.faults.0 (sym k.faults.1 ∙ e))) ∙ append_assoc (places w.targets) ats bts;
}

abbrev pub Goes : List Mark → List Place → Way → Type 0
Goes own ats way = (m : List Mark) (w : Walk) → Walked own ats w (way m w)

-- ---- single statements

asks : (fs : List TypeFault) (w : Walk) → Walked [] [] w (asked fs w)
asks fs w = record {
  passed = sym (append-nil w.passed);
  around = refl;
  outside = refl;
  faults = adds_more w.faults fs;
  targets = adds_none w.targets;
  placed = λ e. sym (append-nil (places w.targets));
}

one_place : (ts : List Target) (at : Place) (n : ℕ) → places (ts ++ target_at at (Some n)) ≡ places ts ++ at ∷ []
one_place ts at n = map-append (λ (t : Target). t.at) ts (record { at = at; number = n } ∷ [])

-- the number of what stands at a place, where it is there exactly where a rule holds
gives : (rule : ℕ) (at : Place) (n : Option ℕ) (w : Walk) → Walked [] (at ∷ []) w (given at n (asked (ask rule at (is_some n)) w))
gives rule at (Some n) w = record {
  passed = sym (append-nil w.passed);
  around = refl;
  outside = refl;
  faults = adds_more w.faults [];
  targets = adds_more w.targets (target_at at (Some n));
  placed = λ e. one_place w.targets at n;
}
gives rule at None w = record {
  passed = sym (append-nil w.passed);
  around = refl;
  outside = refl;
  faults = adds_more w.faults (ask rule at false);
  targets = adds_more w.targets [];
  placed = λ e. broken (none_right w.faults (ask rule at false) e);
}
  where
    broken : {X : Type 0} → ask rule at false ≡ [] → X
    broken e = absurd (cc)

passes : (at : Place) (m : Mark) (fs : List TypeFault) (w : Walk) → Walked (m ∷ []) (at ∷ []) w (passed at m (asked fs w))
passes at m fs w = record {
  passed = refl;
  around = refl;
  outside = refl;
  faults = adds_more w.faults fs;
  targets = adds_more w.targets _;
  placed = λ e. one_place w.targets at (length w.passed);
}

pub labels : (at : Place) (name : ℕ) (w : Walk) → Walked (mark.Label name ∷ []) (at ∷ []) w (labelled at name w)
unfolding labelled
labels at name w = passes at (mark.Label name) _ w

pub rescues : (at : Place) (name : Option ℕ) (w : Walk) → Walked (mark.Rescue name ∷ []) (at ∷ []) w (rescued at name w)
unfolding rescued
rescues at name w = passes at (mark.Rescue name) _ w

goes_to : (at : Place) (name : ℕ) → Goes [] (at ∷ []) (gone at name)
unfolding gone
goes_to at name m w = gives 50 at (label_named m name) w

raises : (at : Place) (name : Option ℕ) → Goes [] (at ∷ []) (raised at name)
unfolding raised
raises at name m w = gives 51 at (rescue_of m w.closest name) w

leaves : (at : Place) (n count outside : ℕ) (w : Walk) → Walked [] (at ∷ []) w (left at n count outside w)
unfolding left
leaves at n count outside w =
    let u = asked (ask 49 at (has_targets n count)) w in
    let v = asked (ask 54 at (stays_inside n count outside)) u in
    walked_then [] [] [] (at ∷ []) w u _ (asks _ w) (walked_then [] [] [] (at ∷ []) u v _ (asks _ u) (record {
      passed = sym (append-nil v.passed);
      around = refl;
      outside = refl;
      faults = adds_none v.faults;
      targets = adds_more v.targets (target_at at (Some n));
      placed = λ e. one_place v.targets at n;
    }))

breaks : (at : Place) (count : Option ℕ) (w : Walk) → Walked [] (at ∷ []) w (broken_off at count w)
unfolding broken_off
breaks at count w = leaves at _ _ _ w

continues : (at : Place) (count : Option ℕ) (w : Walk) → Walked [] (at ∷ []) w (gone_on at count w)
unfolding gone_on
continues at count w = leaves at _ _ _ w

pub parts : (at : Place) (n : ℕ) (w : Walk) → Walked [] [] w (parted at n w)
unfolding parted
parts at n w = asks _ w

-- ---- statements in statements

in_block : (own : List Mark) (ats : List Place) (way : Way) → Goes own ats way → Goes own ats (block way)
unfolding block
in_block own ats way h m w =
    let k = h m w in record { passed = k.passed; around = k.around; outside = k.outside; faults = k.faults; targets = k.targets; placed = k.placed }

in_inside : (e : Enclosing) (own : List Mark) (ats : List Place) (way : Way) → Goes own ats way → Goes own ats (inside e way)
unfolding inside
in_inside e own ats way h m w =
    let k = h m (record w { around = w.around ++ e ∷ [] }) in record {
      passed = k.passed;
      around = ap (take (length w.around)) k.around ∙ take_front w.around (e ∷ []);
      outside = k.outside;
      faults = k.faults;
      targets = k.targets;
      placed = k.placed;
    }

in_rescue : (at : Place) (name : Option ℕ) (own : List Mark) (ats : List Place) (way : Way) → Goes own ats way → Goes (mark.Rescue name ∷ own) (at ∷ ats) (rescue at name way)
unfolding rescue
in_rescue at name own ats way h m w =
    let k = walked_then (mark.Rescue name ∷ []) own (at ∷ []) ats w (rescued at name w) (way m (rescued at name w)) (rescues at name w) (h m (rescued at name w)) in record {
      passed = k.passed;
      around = k.around;
      outside = k.outside;
      faults = k.faults;
      targets = k.targets;
      placed = k.placed;
    }

pub in_branch : (own : List Mark) (ats : List Place) (p : Part) → Goes own ats p.way → (w : Walk) → Walked [] ats w (branch p w)
unfolding branch
in_branch own ats p h w =
    let k = h p.own (record w { passed = []; closest = None; outside = outside_of w.around }) in record {
      passed = sym (append-nil w.passed);
      around = k.around;
      outside = refl;
      faults = k.faults;
      targets = k.targets;
      placed = k.placed;
    }

-- ---- by the kind of a statement

abbrev pub Good : Stmt → Type 0
Good s = Goes (part s).own (jump_places s) (part s).way

abbrev pub places_in : List Stmt → List Place
places_in ss = all_places (map jump_places ss)

abbrev pub own_of : List Stmt → List Mark
own_of ss = flat_map (λ (p : Part). p.own) (map part ss)

abbrev Checked : Type 0
Checked = (s : Stmt) × Good s

abbrev plain : List Checked → List Stmt
plain ys = map (λ (y : Checked). y.0) ys

abbrev tree_of : Stmt-F Checked → Stmt-F Stmt
tree_of y = map-Stmt Checked Stmt (λ c. c.0) y

all_go : (ys : List Checked) → Goes (own_of (plain ys)) (places_in (plain ys)) (all (map part (plain ys)))
all_go [] m w = walked_none w
all_go (y ∷ ys) m w =
    let u = (part y.0).way m w in
    walked_then (part y.0).own (own_of (plain ys)) (jump_places y.0) (places_in (plain ys)) w u (all (map part (plain ys)) m u) (y.1 m w) (all_go ys m u)

branches_go : (ys : List Checked) (w : Walk) → Walked [] (places_in (plain ys)) w (branches (λ (p : Part). p) (map part (plain ys)) w)
branches_go [] w = walked_none w
branches_go (y ∷ ys) w =
    let u = branch (part y.0) w in
    walked_then [] [] (jump_places y.0) (places_in (plain ys)) w u (branches (λ (p : Part). p) (map part (plain ys)) u)
    (in_branch (part y.0).own (jump_places y.0) (part y.0) y.1 w) (branches_go ys u)

step_goes : (y : Stmt-F Checked)
    → Goes (own_step (map-Stmt Stmt Part part (tree_of y))) (jump_step (map-Stmt Stmt (List Place) jump_places (tree_of y))) (way_step (map-Stmt Stmt Part part (tree_of y)))
step_goes (Stmt-F.Empty at) m w = walked_none w
step_goes (Stmt-F.Block at body) m w = in_block (own_of (plain body)) (places_in (plain body)) (all (map part (plain body))) (all_go body) m w
step_goes (Stmt-F.Declare at base variables) m w = walked_none w
step_goes (Stmt-F.Value at e) m w = walked_none w
step_goes (Stmt-F.Label at name body) m w =
    let u = labelled at name w in
    walked_then (mark.Label name ∷ []) (part body.0).own (at ∷ []) (jump_places body.0) w u ((part body.0).way m u) (labels at name w) (body.1 m u)
step_goes (Stmt-F.If at e met None) m w =
    let u = (part met.0).way m w in walked_then (part met.0).own [] (jump_places met.0) [] w u u (met.1 m w) (walked_none u)
step_goes (Stmt-F.If at e met (Some other)) m w =
    let u = (part met.0).way m w in
    walked_then (part met.0).own (part other.0).own (jump_places met.0) (jump_places other.0) w u ((part other.0).way m u) (met.1 m w) (other.1 m u)
step_goes (Stmt-F.While at e body) m w = in_inside enclosing.Loop (part body.0).own (jump_places body.0) (part body.0).way body.1 m w
step_goes (Stmt-F.Do at body e) m w = in_inside enclosing.Loop (part body.0).own (jump_places body.0) (part body.0).way body.1 m w
step_goes (Stmt-F.For at start e next body) m w = in_inside enclosing.Loop (part body.0).own (jump_places body.0) (part body.0).way body.1 m w
step_goes (Stmt-F.Switch at e body) m w = in_inside enclosing.Choice (own_of (plain body)) (places_in (plain body)) (all (map part (plain body))) (all_go body) m w
step_goes (Stmt-F.Alt at body) m w = in_inside enclosing.Choice (own_of (plain body)) (places_in (plain body)) (all (map part (plain body))) (all_go body) m w
step_goes (Stmt-F.Case at e) m w = walked_none w
step_goes (Stmt-F.Default at) m w = walked_none w
step_goes (Stmt-F.Par at bodies) m w =
    let n = length (map part (plain bodies)) in
    walked_then [] [] [] (places_in (plain bodies)) w (parted at n w) (branches (λ (p : Part). p) (map part (plain bodies)) (parted at n w)) (parts at n w) (branches_go bodies (parted at n w))
step_goes (Stmt-F.Rescue at name body) m w = in_rescue at (number_of name) (part body.0).own (jump_places body.0) (part body.0).way body.1 m w
step_goes (Stmt-F.Raise at name) m w = raises at (number_of name) m w
step_goes (Stmt-F.Return at e) m w = walked_none w
step_goes (Stmt-F.Become at e) m w = walked_none w
step_goes (Stmt-F.Break at count) m w = breaks at count w
step_goes (Stmt-F.Continue at count) m w = continues at count w
step_goes (Stmt-F.Goto at name) m w = goes_to at name.name m w
step_goes (Stmt-F.Alloc at es) m w = walked_none w
step_goes (Stmt-F.Unalloc at es) m w = walked_none w
step_goes (Stmt-F.Check at e text) m w = walked_none w
step_goes (Stmt-F.Proc at es) m w = walked_none w
step_goes (Stmt-F.Task at es) m w = walked_none w

by_parts : (y : Stmt-F Checked) → Good (roll-Stmt (tree_of y))
unfolding part jump_places
by_parts y =
    let z = tree_of y in
    subst (λ (p : Part). Goes p.own (jump_places (roll-Stmt z)) p.way) (sym (fold-roll-Stmt Part part_step z))
    (subst (λ (ats : List Place). Goes (own_step (map-Stmt Stmt Part part z)) ats (way_step (map-Stmt Stmt Part part z))) (sym (fold-roll-Stmt (List Place) jump_step z)) (step_goes y))

pub statement_goes : (s : Stmt) → Good s
statement_goes = ind-Stmt Good (λ x y is. subst (λ z. Good (roll-Stmt z)) is (by_parts y))

-- ---- lists of statements

pub list_goes : (ss : List Stmt) → Goes (own_of ss) (places_in ss) (all (map part ss))
list_goes [] m w = walked_none w
list_goes (s ∷ ss) m w =
    let u = (part s).way m w in
    walked_then (part s).own (own_of ss) (jump_places s) (places_in ss) w u (all (map part ss) m u) (statement_goes s m w) (list_goes ss m u)

pub branches_list_go : (ss : List Stmt) (w : Walk) → Walked [] (places_in ss) w (branches (λ (p : Part). p) (map part ss) w)
branches_list_go [] w = walked_none w
branches_list_go (s ∷ ss) w =
    let u = branch (part s) w in
    walked_then [] [] (jump_places s) (places_in ss) w u (branches (λ (p : Part). p) (map part ss) u)
    (in_branch (part s).own (jump_places s) (part s) (statement_goes s) w) (branches_list_go ss u)
