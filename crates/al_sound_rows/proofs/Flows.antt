-- Where the rules of jumps hold of a body, each par in it has 1 to 64 branches.
use Rattle.std.proofs.Common.{◌≡◌, ℕ, ◌+◌, true, List, [], ◌∷◌, ◌++◌, map, length, Option, Some, None, refl, sym, ap, ◌∙◌, subst}
use Rattle.std.specs.Prelude.{All}
use Rattle.std.specs.List.{flat_map}
use Rattle.std.proofs.lemmas.List.{length-map}
use Rattle.std.proofs.lemmas.List.Elements.{All-append, All-cons, All-nil}
use Rattle.al_base.specs.declared.place.Place.{Place}
use Rattle.al_tree.specs.declared.expression.Expr.{Expr}
use Rattle.al_tree.specs.declared.expression.Name.{Name}
use Rattle.al_tree.specs.declared.statement.Stmt.{Stmt, fold-roll-Stmt, map-Stmt, para-roll-Stmt, roll-Stmt}
use Rattle.al_tree.specs.declared.statement.Stmt.TheFolds.{ind-Stmt}
use Rattle.al_tree.specs.declared.statement.Stmt.TheOpen.{Stmt-F}
use Rattle.al_tree_walks.specs.Statements.{branches, branches_with, inner_step, standing, standing_step}
use Rattle.al_tree_walks.specs.Statements.{Way as StandingWay}
use Rattle.al_rules.specs.declared.fault.TypeFault.{TypeFault}
use Rattle.al_rules.specs.Outcome.{Good, ask}
use Rattle.al_flow.specs.declared.mark.Mark.{Mark}
use Rattle.al_flow.specs.declared.target.Target.{Target}
use Rattle.al_flow.specs.declared.walk.Walk.{Walk}
use Rattle.al_flow.specs.declared.around.Enclosing.TheVariants as enclosing
use Rattle.al_flow.specs.Around.{count_of, loops_in, outside_of}
use Rattle.al_flow.specs.Marks.{number_of}
use Rattle.al_flow.specs.Rules.{has_branches, has_label, has_rescue, has_targets, is_new_label, is_new_rescue, stays_inside}
use Rattle.al_flow.specs.Flow.{Part, Way, all, begun, block, branch, broken_off, each, gone, gone_on, inside, labelled, left, marks, part, part_step, parted, raised, rescue, rescue_of, rescued, targets, walk, way_step}
use Rattle.al_flow.specs.Flow.{branches as flow_branches}
use Rattle.al_sound_rows.proofs.Outcomes.{asked_none, judged_good, none_left}
use Rattle.al_sound_rows.proofs.Trees.{all_of, all_par, second}
use Rattle.al_sound_rows.proofs.Pars.{AllPars, OfPars, again, head_is, same_bodies, stand}

-- a par with so many branches
abbrev pub AreFew : List Stmt → Type 0
AreFew bodies = has_branches (length bodies) ≡ true

-- each par that stands in the statement, and in the branches in it
pub record HasFew (s : Stmt) : Type 0 where
  pub itself : AllPars AreFew s
  pub inner : All (AllPars AreFew) (branches s)

-- what a walk leaves faultless had no faults before
abbrev Holds : Stmt → Type 0
Holds s = (ms : List Mark) (w : Walk) → (walk s ms w).faults ≡ [] → (w.faults ≡ []) × HasFew s

abbrev Checked : Type 0
Checked = (s : Stmt) × Holds s

abbrev plain : List Checked → List Stmt
plain ys = map (λ (y : Checked). y.0) ys

abbrev tree_of : Stmt-F Checked → Stmt-F Stmt
tree_of y = map-Stmt Checked Stmt (λ (c : Checked). c.0) y

abbrev Pair : Type 0
Pair = Stmt × StandingWay

-- those of several statements
record HaveFew (ys : List Checked) : Type 0 where
  each_of : (b l : ℕ) → All (OfPars AreFew) (flat_map (λ (p : Pair). p.1 b l) (map stand (plain ys)))
  inner_of : All (AllPars AreFew) (flat_map second (map all_of (plain ys)))

none_few : HaveFew []
none_few = record { each_of = λ b l. All-nil (OfPars AreFew); inner_of = All-nil (AllPars AreFew) }

more_few : (y : Checked) (ys : List Checked) → HasFew y.0 → HaveFew ys → HaveFew (y ∷ ys)
more_few y ys h k = record {
  each_of = λ b l. All-append (OfPars AreFew) (standing y.0 b l) (flat_map (λ (p : Pair). p.1 b l) (map stand (plain ys))) (h.itself b l) (k.each_of b l);
  inner_of = All-append (AllPars AreFew) (branches y.0) (flat_map second (map all_of (plain ys))) h.inner k.inner_of;
}

abbrev way_of : Part → Way
way_of p = p.way

each_holds : (ys : List Checked) (ms : List Mark) (w : Walk) → (each way_of (map part (plain ys)) ms w).faults ≡ [] → (w.faults ≡ []) × HaveFew ys
each_holds [] ms w e = (e, none_few)
each_holds (y ∷ ys) ms w e =
    let rest = each_holds ys ms (walk y.0 ms w) e in
    let first = y.1 ms w rest.0 in
    (first.0, more_few y ys first.1 rest.1)

-- the branches of a par
record BranchesFew (ys : List Checked) : Type 0 where
  branches_of : All (AllPars AreFew) (all_par (map all_of (plain ys)))

one_branch : (y : Checked) (w : Walk) → (branch (part y.0) w).faults ≡ [] → (w.faults ≡ []) × HasFew y.0
unfolding branch
one_branch y w e = y.1 (part y.0).own (record w { passed = []; closest = None; outside = outside_of w.around }) e

branches_hold : (ys : List Checked) (w : Walk) → (flow_branches (λ p. p) (map part (plain ys)) w).faults ≡ [] → (w.faults ≡ []) × BranchesFew ys
branches_hold [] w e = (e, record { branches_of = All-nil (AllPars AreFew) })
branches_hold (y ∷ ys) w e =
    let rest = branches_hold ys (branch (part y.0) w) e in
    let first = one_branch y w rest.0 in (
      first.0,
      record {
        branches_of = All-cons (AllPars AreFew) y.0 (branches y.0 ++ all_par (map all_of (plain ys))) first.1.itself
            (All-append (AllPars AreFew) (branches y.0) (all_par (map all_of (plain ys))) first.1.inner rest.1.branches_of);
      },
    )

-- ---- each kind

record StepFew (y : Stmt-F Checked) : Type 0 where
  itself_of : (b l : ℕ) → All (OfPars AreFew) (standing_step (map-Stmt Stmt Pair stand (tree_of y)) b l)
  branches_in : All (AllPars AreFew) (branches_with all_par (map-Stmt Stmt (Stmt × List Stmt) all_of (tree_of y)))

abbrev StepHolds : Stmt-F Checked → Type 0
StepHolds y = (ms : List Mark) (w : Walk) → (way_step (map-Stmt Stmt Part part (tree_of y)) ms w).faults ≡ [] → (w.faults ≡ []) × StepFew y

abbrev StepOf : Stmt-F Checked → Walk → Type 0
StepOf y w = (w.faults ≡ []) × StepFew y

-- what is itself no par, with those in it
with_those : (y : Stmt-F Checked) → ((at : Place) (bodies : List Stmt) → tree_of y ≡ Stmt-F.Par at bodies → AreFew bodies)
    → ((b l : ℕ) → All (OfPars AreFew) (inner_step (map-Stmt Stmt Pair stand (tree_of y)) b l))
    → All (AllPars AreFew) (branches_with all_par (map-Stmt Stmt (Stmt × List Stmt) all_of (tree_of y))) → StepFew y
with_those y few inner rest = record {
  itself_of = λ b l.
      All-cons (OfPars AreFew) (record { tree = roll-Stmt (again (tree_of y)); breaks = b; loops = l }) (inner_step (map-Stmt Stmt Pair stand (tree_of y)) b l)
      (head_is AreFew (tree_of y) b l few) (inner b l);
  branches_in = rest;
}

none_in : (b l : ℕ) → All (OfPars AreFew) []
none_in b l = All-nil (OfPars AreFew)

no_inner : All (AllPars AreFew) []
no_inner = All-nil (AllPars AreFew)

-- faults are only added
asked_before : (w : Walk) (fs : List TypeFault) → w.faults ≡ [] → fs ≡ [] → w.faults ++ fs ≡ []
asked_before w fs e f = ap (λ l. l ++ fs) e ∙ f

earlier : (xs ys : List TypeFault) → xs ++ ys ≡ [] → xs ≡ []
earlier xs ys e = (none_left xs ys e).0

labelled_before : (at : Place) (name : ℕ) (w : Walk) → (labelled at name w).faults ≡ [] → w.faults ≡ []
unfolding labelled
labelled_before at name w e = earlier w.faults (ask 50 at (is_new_label w.passed name)) e

rescued_before : (at : Place) (name : Option ℕ) (w : Walk) → (rescued at name w).faults ≡ [] → w.faults ≡ []
unfolding rescued
rescued_before at name w e = earlier w.faults (ask 51 at (is_new_rescue w.passed name)) e

gone_before : (at : Place) (name : ℕ) (ms : List Mark) (w : Walk) → (gone at name ms w).faults ≡ [] → w.faults ≡ []
unfolding gone
gone_before at name ms w e = earlier w.faults (ask 50 at (has_label ms name)) e

raised_before : (at : Place) (name : Option ℕ) (ms : List Mark) (w : Walk) → (raised at name ms w).faults ≡ [] → w.faults ≡ []
unfolding raised
raised_before at name ms w e = earlier w.faults (ask 51 at (has_rescue (rescue_of ms w.closest name))) e

left_before : (at : Place) (n count outside : ℕ) (w : Walk) → (left at n count outside w).faults ≡ [] → w.faults ≡ []
unfolding left
left_before at n count outside w e =
    earlier w.faults (ask 49 at (has_targets n count)) (earlier (w.faults ++ ask 49 at (has_targets n count)) (ask 54 at (stays_inside n count outside)) e)

broken_before : (at : Place) (count : Option ℕ) (w : Walk) → (broken_off at count w).faults ≡ [] → w.faults ≡ []
unfolding broken_off
broken_before at count w e = left_before at (count_of count) (length w.around) w.outside.left w e

continued_before : (at : Place) (count : Option ℕ) (w : Walk) → (gone_on at count w).faults ≡ [] → w.faults ≡ []
unfolding gone_on
continued_before at count w e = left_before at (count_of count) (loops_in w.around) w.outside.loops w e

parted_before : (at : Place) (n : ℕ) (w : Walk) → (parted at n w).faults ≡ [] → (w.faults ≡ []) × (has_branches n ≡ true)
unfolding parted
parted_before at n w e = let k = none_left w.faults (ask 54 at (has_branches n)) e in (k.0, asked_none 54 at (has_branches n) k.1)

-- ---- those that have statements in them

-- one statement in it, of which nothing is asked itself
one_inside : (c : Checked) (y : Stmt-F Checked) (ms : List Mark) (w u : Walk) → ((at : Place) (bodies : List Stmt) → tree_of y ≡ Stmt-F.Par at bodies → AreFew bodies)
    → ((h : HasFew c.0) → (b l : ℕ) → All (OfPars AreFew) (inner_step (map-Stmt Stmt Pair stand (tree_of y)) b l))
    → (branches c.0 ≡ branches_with all_par (map-Stmt Stmt (Stmt × List Stmt) all_of (tree_of y))) → (u.faults ≡ [] → w.faults ≡ []) → (walk c.0 ms u).faults ≡ [] → StepOf y w
one_inside c y ms w u kind inner same before e =
    let k = c.1 ms u e in
    (before k.0, with_those y kind (inner k.1) (subst (All (AllPars AreFew)) same k.1.inner))

-- statements in it
all_inside : (cs : List Checked) (y : Stmt-F Checked) (ms : List Mark) (w u : Walk) → ((at : Place) (bodies : List Stmt) → tree_of y ≡ Stmt-F.Par at bodies → AreFew bodies)
    → ((h : HaveFew cs) → (b l : ℕ) → All (OfPars AreFew) (inner_step (map-Stmt Stmt Pair stand (tree_of y)) b l))
    → (flat_map second (map all_of (plain cs)) ≡ branches_with all_par (map-Stmt Stmt (Stmt × List Stmt) all_of (tree_of y))) → (u.faults ≡ [] → w.faults ≡ [])
    → (each way_of (map part (plain cs)) ms u).faults ≡ [] → StepOf y w
all_inside cs y ms w u kind inner same before e =
    let k = each_holds cs ms u e in
    (before k.0, with_those y kind (inner k.1) (subst (All (AllPars AreFew)) same k.1.inner_of))

block_holds : (at : Place) (body : List Checked) (ms : List Mark) (w : Walk) → (block (all (map part (plain body))) ms w).faults ≡ [] → StepOf (Stmt-F.Block at body) w
unfolding block
block_holds at body ms w e = all_inside body (Stmt-F.Block at body) ms w w (λ to us q. absurd (cc)) (λ h b l. h.each_of b l) refl (λ k. k) e

switch_holds : (at : Place) (v : Expr) (body : List Checked) (ms : List Mark) (w : Walk) → (inside enclosing.Choice (all (map part (plain body))) ms w).faults ≡ [] → StepOf (Stmt-F.Switch at v body) w
unfolding inside
switch_holds at v body ms w e =
    all_inside body (Stmt-F.Switch at v body) ms w (record w { around = w.around ++ enclosing.Choice ∷ [] }) (λ to us q. absurd (cc)) (λ h b l. h.each_of (b + 1) l) refl (λ k. k) e

alt_holds : (at : Place) (body : List Checked) (ms : List Mark) (w : Walk) → (inside enclosing.Choice (all (map part (plain body))) ms w).faults ≡ [] → StepOf (Stmt-F.Alt at body) w
unfolding inside
alt_holds at body ms w e =
    all_inside body (Stmt-F.Alt at body) ms w (record w { around = w.around ++ enclosing.Choice ∷ [] }) (λ to us q. absurd (cc)) (λ h b l. h.each_of (b + 1) l) refl (λ k. k) e

while_holds : (at : Place) (v : Expr) (body : Checked) (ms : List Mark) (w : Walk) → (inside enclosing.Loop (walk body.0) ms w).faults ≡ [] → StepOf (Stmt-F.While at v body) w
unfolding inside
while_holds at v body ms w e =
    one_inside body (Stmt-F.While at v body) ms w (record w { around = w.around ++ enclosing.Loop ∷ [] }) (λ to us q. absurd (cc)) (λ h b l. h.itself (b + 1) (l + 1)) refl (λ k. k) e

do_holds : (at : Place) (body : Checked) (v : Expr) (ms : List Mark) (w : Walk) → (inside enclosing.Loop (walk body.0) ms w).faults ≡ [] → StepOf (Stmt-F.Do at body v) w
unfolding inside
do_holds at body v ms w e =
    one_inside body (Stmt-F.Do at body v) ms w (record w { around = w.around ++ enclosing.Loop ∷ [] }) (λ to us q. absurd (cc)) (λ h b l. h.itself (b + 1) (l + 1)) refl (λ k. k) e

for_holds : (at : Place) (start v next : Option Expr) (body : Checked) (ms : List Mark) (w : Walk) → (inside enclosing.Loop (walk body.0) ms w).faults ≡ []
    → StepOf (Stmt-F.For at start v next body) w
unfolding inside
for_holds at start v next body ms w e =
    one_inside body (Stmt-F.For at start v next body) ms w (record w { around = w.around ++ enclosing.Loop ∷ [] }) (λ to us q. absurd (cc)) (λ h b l. h.itself (b + 1) (l + 1)) refl
    (λ k. k) e

rescue_holds : (at : Place) (name : Option Name) (body : Checked) (ms : List Mark) (w : Walk) → (rescue at (number_of name) (walk body.0) ms w).faults ≡ [] → StepOf (Stmt-F.Rescue at name body) w
unfolding rescue
rescue_holds at name body ms w e =
    one_inside body (Stmt-F.Rescue at name body) ms w (rescued at (number_of name) w) (λ to us q. absurd (cc)) (λ h b l. h.itself b l) refl (rescued_before at (number_of name) w) e

label_holds : (at : Place) (name : ℕ) (body : Checked) (ms : List Mark) (w : Walk) → (walk body.0 ms (labelled at name w)).faults ≡ [] → StepOf (Stmt-F.Label at name body) w
label_holds at name body ms w e =
    one_inside body (Stmt-F.Label at name body) ms w (labelled at name w) (λ to us q. absurd (cc)) (λ h b l. h.itself b l) refl (labelled_before at name w) e

if_holds : (at : Place) (v : Expr) (met : Checked) (other : Option Checked) (ms : List Mark) (w : Walk)
    → (way_step (map-Stmt Stmt Part part (tree_of (Stmt-F.If at v met other))) ms w).faults ≡ [] → StepOf (Stmt-F.If at v met other) w
if_holds at v met None ms w e =
    let k = met.1 ms w e in (
      k.0,
      with_those (Stmt-F.If at v met None) (λ to us q. absurd (cc)) (λ b l. All-append (OfPars AreFew) (standing met.0 b l) [] (k.1.itself b l) (none_in b l))
          (All-append (AllPars AreFew) (branches met.0) [] k.1.inner no_inner),
    )
if_holds at v met (Some other) ms w e =
    let n = other.1 ms (walk met.0 ms w) e in
    let k = met.1 ms w n.0 in (
      k.0,
      with_those (Stmt-F.If at v met (Some other)) (λ to us q. absurd (cc))
          (λ b l. All-append (OfPars AreFew) (standing met.0 b l) (standing other.0 b l) (k.1.itself b l) (n.1.itself b l))
          (All-append (AllPars AreFew) (branches met.0) (branches other.0) k.1.inner n.1.inner),
    )

mapped_length : (ys : List Checked) → length (map part (plain ys)) ≡ length (plain ys)
mapped_length ys = length-map (plain ys) part

par_holds : (at : Place) (bodies : List Checked) (ms : List Mark) (w : Walk)
    → (flow_branches (λ p. p) (map part (plain bodies)) (parted at (length (map part (plain bodies))) w)).faults ≡ [] → StepOf (Stmt-F.Par at bodies) w
par_holds at bodies ms w e =
    let k = branches_hold bodies (parted at (length (map part (plain bodies))) w) e in
    let p = parted_before at (length (map part (plain bodies))) w k.0 in (
      p.0,
      with_those (Stmt-F.Par at bodies)
          (λ to us q. subst AreFew (same_bodies at to (plain bodies) us q) (subst (λ n. has_branches n ≡ true) (mapped_length bodies) p.1)) none_in k.1.branches_of,
    )

-- what has no statements in it
bare_holds : (y : Stmt-F Checked) (w : Walk) → w.faults ≡ [] → ((at : Place) (bodies : List Stmt) → tree_of y ≡ Stmt-F.Par at bodies → AreFew bodies)
    → ((b l : ℕ) → inner_step (map-Stmt Stmt Pair stand (tree_of y)) b l ≡ []) → branches_with all_par (map-Stmt Stmt (Stmt × List Stmt) all_of (tree_of y)) ≡ [] → StepOf y w
bare_holds y w e few none less =
    (e, with_those y few (λ b l. subst (All (OfPars AreFew)) (sym (none b l)) (none_in b l)) (subst (All (AllPars AreFew)) (sym less) no_inner))

step_holds : (y : Stmt-F Checked) → StepHolds y
step_holds (Stmt-F.Block at body) ms w e = block_holds at body ms w e
step_holds (Stmt-F.Label at name body) ms w e = label_holds at name body ms w e
step_holds (Stmt-F.If at v met other) ms w e = if_holds at v met other ms w e
step_holds (Stmt-F.While at v body) ms w e = while_holds at v body ms w e
step_holds (Stmt-F.Do at body v) ms w e = do_holds at body v ms w e
step_holds (Stmt-F.For at start v next body) ms w e = for_holds at start v next body ms w e
step_holds (Stmt-F.Switch at v body) ms w e = switch_holds at v body ms w e
step_holds (Stmt-F.Alt at body) ms w e = alt_holds at body ms w e
step_holds (Stmt-F.Par at bodies) ms w e = par_holds at bodies ms w e
step_holds (Stmt-F.Rescue at name body) ms w e = rescue_holds at name body ms w e
step_holds (Stmt-F.Empty at) ms w e = bare_holds (Stmt-F.Empty at) w e (λ to us q. absurd (cc)) (λ b l. refl) refl
step_holds (Stmt-F.Declare at base variables) ms w e = bare_holds (Stmt-F.Declare at base variables) w e (λ to us q. absurd (cc)) (λ b l. refl) refl
step_holds (Stmt-F.Value at v) ms w e = bare_holds (Stmt-F.Value at v) w e (λ to us q. absurd (cc)) (λ b l. refl) refl
step_holds (Stmt-F.Case at v) ms w e = bare_holds (Stmt-F.Case at v) w e (λ to us q. absurd (cc)) (λ b l. refl) refl
step_holds (Stmt-F.Default at) ms w e = bare_holds (Stmt-F.Default at) w e (λ to us q. absurd (cc)) (λ b l. refl) refl
step_holds (Stmt-F.Return at v) ms w e = bare_holds (Stmt-F.Return at v) w e (λ to us q. absurd (cc)) (λ b l. refl) refl
step_holds (Stmt-F.Become at v) ms w e = bare_holds (Stmt-F.Become at v) w e (λ to us q. absurd (cc)) (λ b l. refl) refl
step_holds (Stmt-F.Alloc at es) ms w e = bare_holds (Stmt-F.Alloc at es) w e (λ to us q. absurd (cc)) (λ b l. refl) refl
step_holds (Stmt-F.Unalloc at es) ms w e = bare_holds (Stmt-F.Unalloc at es) w e (λ to us q. absurd (cc)) (λ b l. refl) refl
step_holds (Stmt-F.Check at v text) ms w e = bare_holds (Stmt-F.Check at v text) w e (λ to us q. absurd (cc)) (λ b l. refl) refl
step_holds (Stmt-F.Proc at es) ms w e = bare_holds (Stmt-F.Proc at es) w e (λ to us q. absurd (cc)) (λ b l. refl) refl
step_holds (Stmt-F.Task at es) ms w e = bare_holds (Stmt-F.Task at es) w e (λ to us q. absurd (cc)) (λ b l. refl) refl
step_holds (Stmt-F.Raise at name) ms w e = bare_holds (Stmt-F.Raise at name) w (raised_before at (number_of name) ms w e) (λ to us q. absurd (cc)) (λ b l. refl) refl
step_holds (Stmt-F.Break at count) ms w e = bare_holds (Stmt-F.Break at count) w (broken_before at count w e) (λ to us q. absurd (cc)) (λ b l. refl) refl
step_holds (Stmt-F.Continue at count) ms w e = bare_holds (Stmt-F.Continue at count) w (continued_before at count w e) (λ to us q. absurd (cc)) (λ b l. refl) refl
step_holds (Stmt-F.Goto at name) ms w e = bare_holds (Stmt-F.Goto at name) w (gone_before at name.name ms w e) (λ to us q. absurd (cc)) (λ b l. refl) refl

-- ---- all statements

few_of : (y : Stmt-F Checked) → StepFew y → HasFew (roll-Stmt (tree_of y))
unfolding standing branches
few_of y h = record {
  itself = λ b l.
      subst (All (OfPars AreFew)) (sym (ap (λ (f : StandingWay). f b l) (para-roll-Stmt StandingWay standing_step (tree_of y)))) (h.itself_of b l);
  inner = subst (All (AllPars AreFew)) (sym (para-roll-Stmt (List Stmt) (branches_with all_par) (tree_of y))) h.branches_in;
}

roll_holds : (y : Stmt-F Checked) → Holds (roll-Stmt (tree_of y))
unfolding part
roll_holds y ms w e =
    let k = step_holds y ms w (subst (λ (p : Part). (p.way ms w).faults ≡ []) (fold-roll-Stmt Part part_step (tree_of y)) e) in
    (k.0, few_of y k.1)

all_hold : (s : Stmt) → Holds s
all_hold = ind-Stmt Holds (λ x y is. subst (λ z. Holds (roll-Stmt z)) is (roll_holds y))

-- in a body whose jumps have their targets
pub few_in : (body : Stmt) (ts : List Target) → targets body ≡ Good ts → HasFew body
unfolding targets
few_in body ts e =
    let w = walk body (marks body) begun in
    (all_hold body (marks body) begun (judged_good w.faults w.targets ts e).0).1
