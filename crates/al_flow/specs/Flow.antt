-- Where each goto, raise, break and continue goes.
--
-- A raise without a name goes to the closest earlier rescue: of the rescue statements of the same function whose end stands
-- before the raise, in a block that encloses the raise, the latest in the text. The braces of a switch or an alt are no
-- block, so a rescue in one of its cases is one of the block round it.
use Rattle.std.specs.Prelude.{ℕ, length, take, fold, List, [], ◌∷◌, ◌++◌, Option, Some, None}
use Rattle.std.specs.List.{flat_map}
use Rattle.al_base.specs.declared.place.Place.{Place}
use Rattle.al_tree.specs.declared.expression.Name.{Name}
use Rattle.al_tree.specs.declared.statement.Stmt.{Stmt, fold-Stmt}
use Rattle.al_tree.specs.declared.statement.Stmt.TheOpen.{Stmt-F}
use Rattle.al_rules.specs.Outcome.{Outcome, ask, judge}
use Rattle.al_rules.specs.declared.fault.TypeFault.{TypeFault}
use Rattle.al_flow.specs.declared.mark.Mark.{Mark}
use Rattle.al_flow.specs.declared.mark.Mark.TheVariants as mark
use Rattle.al_flow.specs.declared.around.Enclosing.{Enclosing}
use Rattle.al_flow.specs.declared.around.Enclosing.TheVariants as enclosing
use Rattle.al_flow.specs.declared.target.Target.{Target}
use Rattle.al_flow.specs.declared.walk.Walk.{Walk}
use Rattle.al_flow.specs.Around.{loops_in, outermost, outside_of, count_of}
use Rattle.al_flow.specs.Marks.{number_of, label_named, rescue_named}
use Rattle.al_flow.specs.Rules.{has_targets, has_label, is_new_label, has_rescue, is_new_rescue, has_branches, stays_inside}

-- what statements do to what is found so far, by the labels and rescues of their function
abbrev pub Way : Type 0
Way = List Mark → Walk → Walk

-- nothing is found yet
abbrev pub begun : Walk
begun = record { passed = []; closest = None; around = []; outside = outermost; targets = []; faults = [] }

-- ---- single statements

abbrev pub target_at : Place → Option ℕ → List Target
target_at at None = []
target_at at (Some n) = record { at = at; number = n } ∷ []

-- a rule is asked of the statement at the place
abbrev pub asked : List TypeFault → Walk → Walk
asked faults w = record w { faults = w.faults ++ faults }

-- the statement at the place has that number
abbrev pub given : Place → Option ℕ → Walk → Walk
given at n w = record w { targets = w.targets ++ target_at at n }

-- a label or rescue is passed, which has the next number
abbrev pub passed : Place → Mark → Walk → Walk
passed at m w = record w { passed = w.passed ++ m ∷ []; targets = w.targets ++ target_at at (Some (length w.passed)) }

unfoldable pub labelled : Place → ℕ → Walk → Walk
labelled at name w = passed at (mark.Label name) (asked (ask 50 at (is_new_label w.passed name)) w)

unfoldable pub rescued : Place → Option ℕ → Walk → Walk
rescued at name w = passed at (mark.Rescue name) (asked (ask 51 at (is_new_rescue w.passed name)) w)

unfoldable pub gone : Place → ℕ → Way
gone at name marks w = given at (label_named marks name) (asked (ask 50 at (has_label marks name)) w)

-- the rescue to which a raise goes
unfoldable pub rescue_of : List Mark → Option ℕ → Option ℕ → Option ℕ
rescue_of marks closest None = closest
rescue_of marks closest (Some name) = rescue_named marks name

unfoldable pub raised : Place → Option ℕ → Way
raised at name marks w =
    given at (rescue_of marks w.closest name) (asked (ask 51 at (has_rescue (rescue_of marks w.closest name))) w)

-- a break or continue of that count, where so many targets are round it, and so many of them round the branch at hand
unfoldable pub left : Place → (n count outside : ℕ) → Walk → Walk
left at n count outside w = given at (Some n) (asked (ask 54 at (stays_inside n count outside)) (asked (ask 49 at (has_targets n count)) w))

unfoldable pub broken_off : Place → Option ℕ → Walk → Walk
broken_off at count w = left at (count_of count) (length w.around) w.outside.left w

unfoldable pub gone_on : Place → Option ℕ → Walk → Walk
gone_on at count w = left at (count_of count) (loops_in w.around) w.outside.loops w

unfoldable pub parted : Place → ℕ → Walk → Walk
parted at n w = asked (ask 54 at (has_branches n)) w

-- ---- statements in statements

-- a statement's labels and rescues, without those of the par branches in it, and what it does
pub record Part : Type 0 where
  pub own : List Mark
  pub way : Way

-- one after the other
abbrev pub each : {A : Type 0} → (A → Way) → List A → Way
each f xs marks w = fold (λ u x. f x marks u) w xs

abbrev pub all : List Part → Way
all = each (λ p. p.way)

-- one that may be missing
abbrev pub optional : {A : Type 0} → (A → Way) → Option A → Way
optional f None marks w = w
optional f (Some x) marks w = f x marks w

-- what is in a loop, a switch or an alt, up to its end
unfoldable pub inside : Enclosing → Way → Way
inside e a marks w =
    let end = a marks (record w { around = w.around ++ e ∷ [] }) in
    record end { around = take (length w.around) end.around }

-- a rescue in a block is closest up to the block's end
unfoldable pub block : Way → Way
block a marks w = record (a marks w) { closest = w.closest }

-- behind its end a rescue is the closest
unfoldable pub rescue : Place → Option ℕ → Way → Way
rescue at name a marks w = record (a marks (rescued at name w)) { closest = Some (length w.passed) }

-- a branch has labels, rescues and numbers of its own
unfoldable pub branch : Part → Walk → Walk
branch p w =
    record (p.way p.own (record w { passed = []; closest = None; outside = outside_of w.around }))
    { passed = w.passed; closest = w.closest; outside = w.outside }

abbrev pub branches : {A : Type 0} → (A → Part) → List A → Walk → Walk
branches f xs w = fold (λ u x. branch (f x) u) w xs

abbrev pub own_of : Option Part → List Mark
own_of None = []
own_of (Some p) = p.own

abbrev pub own_step : Stmt-F Part → List Mark
own_step (Stmt-F.Label at name body) = mark.Label name ∷ body.own
own_step (Stmt-F.Rescue at name body) = mark.Rescue (number_of name) ∷ body.own
own_step (Stmt-F.Block at body) = flat_map (λ p. p.own) body
own_step (Stmt-F.If at condition met other) = met.own ++ own_of other
own_step (Stmt-F.While at condition body) = body.own
own_step (Stmt-F.Do at body condition) = body.own
own_step (Stmt-F.For at start condition next body) = body.own
own_step (Stmt-F.Switch at value body) = flat_map (λ p. p.own) body
own_step (Stmt-F.Alt at body) = flat_map (λ p. p.own) body
own_step _ = []

abbrev pub way_step : Stmt-F Part → Way
way_step (Stmt-F.Block at body) = block (all body)
way_step (Stmt-F.Label at name body) = λ marks w. body.way marks (labelled at name w)
way_step (Stmt-F.If at condition met other) = λ marks w. optional (λ p. p.way) other marks (met.way marks w)
way_step (Stmt-F.While at condition body) = inside enclosing.Loop body.way
way_step (Stmt-F.Do at body condition) = inside enclosing.Loop body.way
way_step (Stmt-F.For at start condition next body) = inside enclosing.Loop body.way
way_step (Stmt-F.Switch at value body) = inside enclosing.Choice (all body)
way_step (Stmt-F.Alt at body) = inside enclosing.Choice (all body)
way_step (Stmt-F.Par at bodies) = λ marks w. branches (λ p. p) bodies (parted at (length bodies) w)
way_step (Stmt-F.Rescue at name body) = rescue at (number_of name) body.way
way_step (Stmt-F.Raise at name) = raised at (number_of name)
way_step (Stmt-F.Break at count) = λ marks w. broken_off at count w
way_step (Stmt-F.Continue at count) = λ marks w. gone_on at count w
way_step (Stmt-F.Goto at label) = gone at label.name
way_step _ = λ marks w. w

abbrev pub part_step : Stmt-F Part → Part
part_step s = record { own = own_step s; way = way_step s }

unfoldable pub part : Stmt → Part
part = fold-Stmt Part part_step

-- the labels and rescues of a function with that body
abbrev pub marks : Stmt → List Mark
marks s = (part s).own

abbrev pub walk : Stmt → Way
walk s = (part s).way

-- ---- a function

-- the targets in a function with that body, and in its par branches
unfoldable pub targets : Stmt → Outcome (List Target)
targets body =
    let w = walk body (marks body) begun in
    judge w.faults w.targets
