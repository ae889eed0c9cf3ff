-- What statements are at each kind.
use Rattle.std.proofs.Common.{◌≡◌, ℕ, ◌+◌, ◌<◌, List, [], ◌∷◌, ◌++◌, map, take, length, get_or, Option, Some, None, option_map, fold, refl, ap, ◌∙◌, sym, append_assoc}
use Rattle.std.specs.List.{flat_map}
use Rattle.std.proofs.lemmas.List.{take_more, append-nil, length-map}
use Rattle.std.proofs.lemmas.Grind.{flat_map-append}
use Rattle.al_base.specs.declared.place.Place.{Place}
use Rattle.al_tree.specs.declared.type_tree.TypeTree.{TypeTree}
use Rattle.al_tree.specs.declared.expression.Name.{Name}
use Rattle.al_tree.specs.declared.expression.Expr.{Expr}
use Rattle.al_tree.specs.declared.statement.Variable.{Variable}
use Rattle.al_tree.specs.declared.statement.Stmt.{Stmt, fold-Stmt, fold-roll-Stmt}
use Rattle.al_tree.specs.declared.statement.Stmt.TheVariants as s
use Rattle.al_tree.specs.declared.statement.Stmt.TheOpen.{Stmt-F}
use Rattle.al_flow.specs.declared.mark.Mark.{Mark}
use Rattle.al_flow.specs.declared.mark.Mark.TheVariants as mark
use Rattle.al_flow.specs.declared.walk.Walk.{Walk}
use Rattle.al_flow.specs.declared.around.Enclosing.TheVariants as enclosing
use Rattle.al_flow.specs.Marks.{number_of}
use Rattle.al_flow.specs.Flow.{Part, part, part_step, marks, walk, each, all, optional, inside, block, rescue, branch, branches, own_of, labelled, raised, gone, broken_off, gone_on, parted}

-- ---- lists of statements

own_all : (xs : List Stmt) → flat_map (λ p. p.own) (map part xs) ≡ flat_map marks xs
own_all [] = refl
own_all (x ∷ xs) = ap (λ l. marks x ++ l) (own_all xs)

flat_map_one_more : {A B : Type 0} (f : A → List B) (xs : List A) (i : ℕ) (item : A) → i < length xs → item ≡ get_or xs i item
    → flat_map f (take (i + 1) xs) ≡ flat_map f (take i xs) ++ f item
flat_map_one_more f xs i item h is =
    ap (flat_map f) (take_more xs i item h) ∙ flat_map-append f (take i xs) (get_or xs i item ∷ [])
    ∙ ap (λ l. flat_map f (take i xs) ++ l) (append-nil (f (get_or xs i item)) ∙ ap f (sym is))

-- one more
pub marks_more : (before : List Mark) (xs : List Stmt) (i : ℕ) (item : Stmt) (now new : List Mark) → i < length xs → item ≡ get_or xs i item
    → now ≡ before ++ flat_map marks (take i xs) → new ≡ now ++ marks item → new ≡ before ++ flat_map marks (take (i + 1) xs)
marks_more before xs i item now new h is was step =
    step ∙ ap (λ l. l ++ marks item) was ∙ append_assoc before (flat_map marks (take i xs)) (marks item)
    ∙ ap (λ l. before ++ l) (sym (flat_map_one_more marks xs i item h is))

abbrev pub marks_if : Option Stmt → List Mark
marks_if None = []
marks_if (Some s) = marks s

each_map : (xs : List Stmt) (own : List Mark) (w : Walk) → all (map part xs) own w ≡ each walk xs own w
each_map [] own w = refl
each_map (x ∷ xs) own w = each_map xs own (walk x own w)

branches_map : (xs : List Stmt) (w : Walk) → branches (λ p. p) (map part xs) w ≡ branches part xs w
branches_map [] w = refl
branches_map (x ∷ xs) w = branches_map xs (branch (part x) w)

-- a block, and a list inside of a switch, by what their statements do
abbrev block_end : Walk → Walk → Walk
block_end w u = record u { closest = w.closest }

abbrev inside_end : Walk → Walk → Walk
inside_end w u = record u { around = take (length w.around) u.around }

-- ---- one equation for each kind

part-Empty : (at : Place) → part (s.Empty at) ≡ part_step (Stmt-F.Empty at)
unfolding part
part-Empty at = ap (fold-Stmt Part part_step) (sym (s.rolls-Empty at)) ∙ fold-roll-Stmt Part part_step (Stmt-F.Empty at)

pub marks-Empty : (at : Place) → marks (s.Empty at) ≡ []
marks-Empty at = ap (λ p. p.own) (part-Empty at)

pub walk-Empty : (at : Place) (own : List Mark) (w : Walk) → walk (s.Empty at) own w ≡ w
walk-Empty at own w = ap (λ p. p.way own w) (part-Empty at)

part-Block : (at : Place) (body : List Stmt) → part (s.Block at body) ≡ part_step (Stmt-F.Block at (map part body))
unfolding part
part-Block at body = ap (fold-Stmt Part part_step) (sym (s.rolls-Block at body)) ∙ fold-roll-Stmt Part part_step (Stmt-F.Block at body)

pub marks-Block : (at : Place) (body : List Stmt) → marks (s.Block at body) ≡ flat_map marks body
marks-Block at body = ap (λ p. p.own) (part-Block at body) ∙ own_all body

pub walk-Block : (at : Place) (body : List Stmt) (own : List Mark) (w : Walk) → walk (s.Block at body) own w ≡ block (each walk body) own w
unfolding block
walk-Block at body own w = ap (λ p. p.way own w) (part-Block at body) ∙ ap (block_end w) (each_map body own w)

part-Declare : (at : Place) (base : TypeTree) (variables : List Variable) → part (s.Declare at base variables) ≡ part_step (Stmt-F.Declare at base variables)
unfolding part
part-Declare at base variables = ap (fold-Stmt Part part_step) (sym (s.rolls-Declare at base variables)) ∙ fold-roll-Stmt Part part_step (Stmt-F.Declare at base variables)

pub marks-Declare : (at : Place) (base : TypeTree) (variables : List Variable) → marks (s.Declare at base variables) ≡ []
marks-Declare at base variables = ap (λ p. p.own) (part-Declare at base variables)

pub walk-Declare : (at : Place) (base : TypeTree) (variables : List Variable) (own : List Mark) (w : Walk) → walk (s.Declare at base variables) own w ≡ w
walk-Declare at base variables own w = ap (λ p. p.way own w) (part-Declare at base variables)

part-Value : (at : Place) (value : Expr) → part (s.Value at value) ≡ part_step (Stmt-F.Value at value)
unfolding part
part-Value at value = ap (fold-Stmt Part part_step) (sym (s.rolls-Value at value)) ∙ fold-roll-Stmt Part part_step (Stmt-F.Value at value)

pub marks-Value : (at : Place) (value : Expr) → marks (s.Value at value) ≡ []
marks-Value at value = ap (λ p. p.own) (part-Value at value)

pub walk-Value : (at : Place) (value : Expr) (own : List Mark) (w : Walk) → walk (s.Value at value) own w ≡ w
walk-Value at value own w = ap (λ p. p.way own w) (part-Value at value)

part-Label : (at : Place) (name : ℕ) (body : Stmt) → part (s.Label at name body) ≡ part_step (Stmt-F.Label at name (part body))
unfolding part
part-Label at name body = ap (fold-Stmt Part part_step) (sym (s.rolls-Label at name body)) ∙ fold-roll-Stmt Part part_step (Stmt-F.Label at name body)

pub marks-Label : (at : Place) (name : ℕ) (body : Stmt) → marks (s.Label at name body) ≡ mark.Label name ∷ marks body
marks-Label at name body = ap (λ p. p.own) (part-Label at name body)

pub walk-Label : (at : Place) (name : ℕ) (body : Stmt) (own : List Mark) (w : Walk) → walk (s.Label at name body) own w ≡ walk body own (labelled at name w)
walk-Label at name body own w = ap (λ p. p.way own w) (part-Label at name body)

part-If : (at : Place) (condition : Expr) (met : Stmt) (other : Option Stmt) → part (s.If at condition met other) ≡ part_step (Stmt-F.If at condition (part met) (option_map part other))
unfolding part
part-If at condition met None = ap (fold-Stmt Part part_step) (sym (s.rolls-If at condition met None)) ∙ fold-roll-Stmt Part part_step (Stmt-F.If at condition met None)
part-If at condition met (Some o) = ap (fold-Stmt Part part_step) (sym (s.rolls-If at condition met (Some o))) ∙ fold-roll-Stmt Part part_step (Stmt-F.If at condition met (Some o))

pub marks-If : (at : Place) (condition : Expr) (met : Stmt) (other : Option Stmt) → marks (s.If at condition met other) ≡ marks met ++ marks_if other
marks-If at condition met None = ap (λ p. p.own) (part-If at condition met None)
marks-If at condition met (Some o) = ap (λ p. p.own) (part-If at condition met (Some o))

pub walk-If : (at : Place) (condition : Expr) (met : Stmt) (other : Option Stmt) (own : List Mark) (w : Walk) → walk (s.If at condition met other) own w ≡ optional walk other own (walk met own w)
walk-If at condition met None own w = ap (λ p. p.way own w) (part-If at condition met None)
walk-If at condition met (Some o) own w = ap (λ p. p.way own w) (part-If at condition met (Some o))

part-While : (at : Place) (condition : Expr) (body : Stmt) → part (s.While at condition body) ≡ part_step (Stmt-F.While at condition (part body))
unfolding part
part-While at condition body = ap (fold-Stmt Part part_step) (sym (s.rolls-While at condition body)) ∙ fold-roll-Stmt Part part_step (Stmt-F.While at condition body)

pub marks-While : (at : Place) (condition : Expr) (body : Stmt) → marks (s.While at condition body) ≡ marks body
marks-While at condition body = ap (λ p. p.own) (part-While at condition body)

pub walk-While : (at : Place) (condition : Expr) (body : Stmt) (own : List Mark) (w : Walk) → walk (s.While at condition body) own w ≡ inside enclosing.Loop (walk body) own w
walk-While at condition body own w = ap (λ p. p.way own w) (part-While at condition body)

part-Do : (at : Place) (body : Stmt) (condition : Expr) → part (s.Do at body condition) ≡ part_step (Stmt-F.Do at (part body) condition)
unfolding part
part-Do at body condition = ap (fold-Stmt Part part_step) (sym (s.rolls-Do at body condition)) ∙ fold-roll-Stmt Part part_step (Stmt-F.Do at body condition)

pub marks-Do : (at : Place) (body : Stmt) (condition : Expr) → marks (s.Do at body condition) ≡ marks body
marks-Do at body condition = ap (λ p. p.own) (part-Do at body condition)

pub walk-Do : (at : Place) (body : Stmt) (condition : Expr) (own : List Mark) (w : Walk) → walk (s.Do at body condition) own w ≡ inside enclosing.Loop (walk body) own w
walk-Do at body condition own w = ap (λ p. p.way own w) (part-Do at body condition)

part-For : (at : Place) (start : Option Expr) (condition : Option Expr) (next : Option Expr) (body : Stmt) → part (s.For at start condition next body) ≡ part_step (Stmt-F.For at start condition next (part body))
unfolding part
part-For at start condition next body = ap (fold-Stmt Part part_step) (sym (s.rolls-For at start condition next body)) ∙ fold-roll-Stmt Part part_step (Stmt-F.For at start condition next body)

pub marks-For : (at : Place) (start : Option Expr) (condition : Option Expr) (next : Option Expr) (body : Stmt) → marks (s.For at start condition next body) ≡ marks body
marks-For at start condition next body = ap (λ p. p.own) (part-For at start condition next body)

pub walk-For : (at : Place) (start : Option Expr) (condition : Option Expr) (next : Option Expr) (body : Stmt) (own : List Mark) (w : Walk) → walk (s.For at start condition next body) own w ≡ inside enclosing.Loop (walk body) own w
walk-For at start condition next body own w = ap (λ p. p.way own w) (part-For at start condition next body)

part-Switch : (at : Place) (value : Expr) (body : List Stmt) → part (s.Switch at value body) ≡ part_step (Stmt-F.Switch at value (map part body))
unfolding part
part-Switch at value body = ap (fold-Stmt Part part_step) (sym (s.rolls-Switch at value body)) ∙ fold-roll-Stmt Part part_step (Stmt-F.Switch at value body)

pub marks-Switch : (at : Place) (value : Expr) (body : List Stmt) → marks (s.Switch at value body) ≡ flat_map marks body
marks-Switch at value body = ap (λ p. p.own) (part-Switch at value body) ∙ own_all body

pub walk-Switch : (at : Place) (value : Expr) (body : List Stmt) (own : List Mark) (w : Walk) → walk (s.Switch at value body) own w ≡ inside enclosing.Choice (each walk body) own w
unfolding inside
walk-Switch at value body own w = ap (λ p. p.way own w) (part-Switch at value body) ∙ ap (inside_end w) (each_map body own (record w { around = w.around ++ enclosing.Choice ∷ [] }))

part-Alt : (at : Place) (body : List Stmt) → part (s.Alt at body) ≡ part_step (Stmt-F.Alt at (map part body))
unfolding part
part-Alt at body = ap (fold-Stmt Part part_step) (sym (s.rolls-Alt at body)) ∙ fold-roll-Stmt Part part_step (Stmt-F.Alt at body)

pub marks-Alt : (at : Place) (body : List Stmt) → marks (s.Alt at body) ≡ flat_map marks body
marks-Alt at body = ap (λ p. p.own) (part-Alt at body) ∙ own_all body

pub walk-Alt : (at : Place) (body : List Stmt) (own : List Mark) (w : Walk) → walk (s.Alt at body) own w ≡ inside enclosing.Choice (each walk body) own w
unfolding inside
walk-Alt at body own w = ap (λ p. p.way own w) (part-Alt at body) ∙ ap (inside_end w) (each_map body own (record w { around = w.around ++ enclosing.Choice ∷ [] }))

part-Case : (at : Place) (value : Expr) → part (s.Case at value) ≡ part_step (Stmt-F.Case at value)
unfolding part
part-Case at value = ap (fold-Stmt Part part_step) (sym (s.rolls-Case at value)) ∙ fold-roll-Stmt Part part_step (Stmt-F.Case at value)

pub marks-Case : (at : Place) (value : Expr) → marks (s.Case at value) ≡ []
marks-Case at value = ap (λ p. p.own) (part-Case at value)

pub walk-Case : (at : Place) (value : Expr) (own : List Mark) (w : Walk) → walk (s.Case at value) own w ≡ w
walk-Case at value own w = ap (λ p. p.way own w) (part-Case at value)

part-Default : (at : Place) → part (s.Default at) ≡ part_step (Stmt-F.Default at)
unfolding part
part-Default at = ap (fold-Stmt Part part_step) (sym (s.rolls-Default at)) ∙ fold-roll-Stmt Part part_step (Stmt-F.Default at)

pub marks-Default : (at : Place) → marks (s.Default at) ≡ []
marks-Default at = ap (λ p. p.own) (part-Default at)

pub walk-Default : (at : Place) (own : List Mark) (w : Walk) → walk (s.Default at) own w ≡ w
walk-Default at own w = ap (λ p. p.way own w) (part-Default at)

part-Par : (at : Place) (bodies : List Stmt) → part (s.Par at bodies) ≡ part_step (Stmt-F.Par at (map part bodies))
unfolding part
part-Par at bodies = ap (fold-Stmt Part part_step) (sym (s.rolls-Par at bodies)) ∙ fold-roll-Stmt Part part_step (Stmt-F.Par at bodies)

pub marks-Par : (at : Place) (bodies : List Stmt) → marks (s.Par at bodies) ≡ []
marks-Par at bodies = ap (λ p. p.own) (part-Par at bodies)

pub walk-Par : (at : Place) (bodies : List Stmt) (own : List Mark) (w : Walk) → walk (s.Par at bodies) own w ≡ branches part bodies (parted at (length bodies) w)
walk-Par at bodies own w = ap (λ p. p.way own w) (part-Par at bodies) ∙ ap (λ n. branches (λ p. p) (map part bodies) (parted at n w)) (length-map bodies part) ∙ branches_map bodies (parted at (length bodies) w)

part-Rescue : (at : Place) (name : Option Name) (body : Stmt) → part (s.Rescue at name body) ≡ part_step (Stmt-F.Rescue at name (part body))
unfolding part
part-Rescue at name body = ap (fold-Stmt Part part_step) (sym (s.rolls-Rescue at name body)) ∙ fold-roll-Stmt Part part_step (Stmt-F.Rescue at name body)

pub marks-Rescue : (at : Place) (name : Option Name) (body : Stmt) → marks (s.Rescue at name body) ≡ mark.Rescue (number_of name) ∷ marks body
marks-Rescue at name body = ap (λ p. p.own) (part-Rescue at name body)

pub walk-Rescue : (at : Place) (name : Option Name) (body : Stmt) (own : List Mark) (w : Walk) → walk (s.Rescue at name body) own w ≡ rescue at (number_of name) (walk body) own w
walk-Rescue at name body own w = ap (λ p. p.way own w) (part-Rescue at name body)

part-Raise : (at : Place) (name : Option Name) → part (s.Raise at name) ≡ part_step (Stmt-F.Raise at name)
unfolding part
part-Raise at name = ap (fold-Stmt Part part_step) (sym (s.rolls-Raise at name)) ∙ fold-roll-Stmt Part part_step (Stmt-F.Raise at name)

pub marks-Raise : (at : Place) (name : Option Name) → marks (s.Raise at name) ≡ []
marks-Raise at name = ap (λ p. p.own) (part-Raise at name)

pub walk-Raise : (at : Place) (name : Option Name) (own : List Mark) (w : Walk) → walk (s.Raise at name) own w ≡ raised at (number_of name) own w
walk-Raise at name own w = ap (λ p. p.way own w) (part-Raise at name)

part-Return : (at : Place) (value : Option Expr) → part (s.Return at value) ≡ part_step (Stmt-F.Return at value)
unfolding part
part-Return at value = ap (fold-Stmt Part part_step) (sym (s.rolls-Return at value)) ∙ fold-roll-Stmt Part part_step (Stmt-F.Return at value)

pub marks-Return : (at : Place) (value : Option Expr) → marks (s.Return at value) ≡ []
marks-Return at value = ap (λ p. p.own) (part-Return at value)

pub walk-Return : (at : Place) (value : Option Expr) (own : List Mark) (w : Walk) → walk (s.Return at value) own w ≡ w
walk-Return at value own w = ap (λ p. p.way own w) (part-Return at value)

part-Become : (at : Place) (value : Expr) → part (s.Become at value) ≡ part_step (Stmt-F.Become at value)
unfolding part
part-Become at value = ap (fold-Stmt Part part_step) (sym (s.rolls-Become at value)) ∙ fold-roll-Stmt Part part_step (Stmt-F.Become at value)

pub marks-Become : (at : Place) (value : Expr) → marks (s.Become at value) ≡ []
marks-Become at value = ap (λ p. p.own) (part-Become at value)

pub walk-Become : (at : Place) (value : Expr) (own : List Mark) (w : Walk) → walk (s.Become at value) own w ≡ w
walk-Become at value own w = ap (λ p. p.way own w) (part-Become at value)

part-Break : (at : Place) (count : Option ℕ) → part (s.Break at count) ≡ part_step (Stmt-F.Break at count)
unfolding part
part-Break at count = ap (fold-Stmt Part part_step) (sym (s.rolls-Break at count)) ∙ fold-roll-Stmt Part part_step (Stmt-F.Break at count)

pub marks-Break : (at : Place) (count : Option ℕ) → marks (s.Break at count) ≡ []
marks-Break at count = ap (λ p. p.own) (part-Break at count)

pub walk-Break : (at : Place) (count : Option ℕ) (own : List Mark) (w : Walk) → walk (s.Break at count) own w ≡ broken_off at count w
walk-Break at count own w = ap (λ p. p.way own w) (part-Break at count)

part-Continue : (at : Place) (count : Option ℕ) → part (s.Continue at count) ≡ part_step (Stmt-F.Continue at count)
unfolding part
part-Continue at count = ap (fold-Stmt Part part_step) (sym (s.rolls-Continue at count)) ∙ fold-roll-Stmt Part part_step (Stmt-F.Continue at count)

pub marks-Continue : (at : Place) (count : Option ℕ) → marks (s.Continue at count) ≡ []
marks-Continue at count = ap (λ p. p.own) (part-Continue at count)

pub walk-Continue : (at : Place) (count : Option ℕ) (own : List Mark) (w : Walk) → walk (s.Continue at count) own w ≡ gone_on at count w
walk-Continue at count own w = ap (λ p. p.way own w) (part-Continue at count)

part-Goto : (at : Place) (label : Name) → part (s.Goto at label) ≡ part_step (Stmt-F.Goto at label)
unfolding part
part-Goto at label = ap (fold-Stmt Part part_step) (sym (s.rolls-Goto at label)) ∙ fold-roll-Stmt Part part_step (Stmt-F.Goto at label)

pub marks-Goto : (at : Place) (label : Name) → marks (s.Goto at label) ≡ []
marks-Goto at label = ap (λ p. p.own) (part-Goto at label)

pub walk-Goto : (at : Place) (label : Name) (own : List Mark) (w : Walk) → walk (s.Goto at label) own w ≡ gone at label.name own w
walk-Goto at label own w = ap (λ p. p.way own w) (part-Goto at label)

part-Alloc : (at : Place) (places : List Expr) → part (s.Alloc at places) ≡ part_step (Stmt-F.Alloc at places)
unfolding part
part-Alloc at places = ap (fold-Stmt Part part_step) (sym (s.rolls-Alloc at places)) ∙ fold-roll-Stmt Part part_step (Stmt-F.Alloc at places)

pub marks-Alloc : (at : Place) (places : List Expr) → marks (s.Alloc at places) ≡ []
marks-Alloc at places = ap (λ p. p.own) (part-Alloc at places)

pub walk-Alloc : (at : Place) (places : List Expr) (own : List Mark) (w : Walk) → walk (s.Alloc at places) own w ≡ w
walk-Alloc at places own w = ap (λ p. p.way own w) (part-Alloc at places)

part-Unalloc : (at : Place) (values : List Expr) → part (s.Unalloc at values) ≡ part_step (Stmt-F.Unalloc at values)
unfolding part
part-Unalloc at values = ap (fold-Stmt Part part_step) (sym (s.rolls-Unalloc at values)) ∙ fold-roll-Stmt Part part_step (Stmt-F.Unalloc at values)

pub marks-Unalloc : (at : Place) (values : List Expr) → marks (s.Unalloc at values) ≡ []
marks-Unalloc at values = ap (λ p. p.own) (part-Unalloc at values)

pub walk-Unalloc : (at : Place) (values : List Expr) (own : List Mark) (w : Walk) → walk (s.Unalloc at values) own w ≡ w
walk-Unalloc at values own w = ap (λ p. p.way own w) (part-Unalloc at values)

part-Check : (at : Place) (value : Expr) (text : Option (List ℕ)) → part (s.Check at value text) ≡ part_step (Stmt-F.Check at value text)
unfolding part
part-Check at value text = ap (fold-Stmt Part part_step) (sym (s.rolls-Check at value text)) ∙ fold-roll-Stmt Part part_step (Stmt-F.Check at value text)

pub marks-Check : (at : Place) (value : Expr) (text : Option (List ℕ)) → marks (s.Check at value text) ≡ []
marks-Check at value text = ap (λ p. p.own) (part-Check at value text)

pub walk-Check : (at : Place) (value : Expr) (text : Option (List ℕ)) (own : List Mark) (w : Walk) → walk (s.Check at value text) own w ≡ w
walk-Check at value text own w = ap (λ p. p.way own w) (part-Check at value text)

part-Proc : (at : Place) (calls : List Expr) → part (s.Proc at calls) ≡ part_step (Stmt-F.Proc at calls)
unfolding part
part-Proc at calls = ap (fold-Stmt Part part_step) (sym (s.rolls-Proc at calls)) ∙ fold-roll-Stmt Part part_step (Stmt-F.Proc at calls)

pub marks-Proc : (at : Place) (calls : List Expr) → marks (s.Proc at calls) ≡ []
marks-Proc at calls = ap (λ p. p.own) (part-Proc at calls)

pub walk-Proc : (at : Place) (calls : List Expr) (own : List Mark) (w : Walk) → walk (s.Proc at calls) own w ≡ w
walk-Proc at calls own w = ap (λ p. p.way own w) (part-Proc at calls)

part-Task : (at : Place) (calls : List Expr) → part (s.Task at calls) ≡ part_step (Stmt-F.Task at calls)
unfolding part
part-Task at calls = ap (fold-Stmt Part part_step) (sym (s.rolls-Task at calls)) ∙ fold-roll-Stmt Part part_step (Stmt-F.Task at calls)

pub marks-Task : (at : Place) (calls : List Expr) → marks (s.Task at calls) ≡ []
marks-Task at calls = ap (λ p. p.own) (part-Task at calls)

pub walk-Task : (at : Place) (calls : List Expr) (own : List Mark) (w : Walk) → walk (s.Task at calls) own w ≡ w
walk-Task at calls own w = ap (λ p. p.way own w) (part-Task at calls)

pub ruleset marks_are = (marks-Empty, marks-Block, marks-Declare, marks-Value, marks-Label, marks-If, marks-While, marks-Do, marks-For, marks-Switch, marks-Alt, marks-Case, marks-Default, marks-Par, marks-Rescue, marks-Raise, marks-Return, marks-Become, marks-Break, marks-Continue, marks-Goto, marks-Alloc, marks-Unalloc, marks-Check, marks-Proc, marks-Task)

pub ruleset walk_is = (walk-Empty, walk-Block, walk-Declare, walk-Value, walk-Label, walk-If, walk-While, walk-Do, walk-For, walk-Switch, walk-Alt, walk-Case, walk-Default, walk-Par, walk-Rescue, walk-Raise, walk-Return, walk-Become, walk-Break, walk-Continue, walk-Goto, walk-Alloc, walk-Unalloc, walk-Check, walk-Proc, walk-Task)

pub ruleset fronts = (append-nil, append_assoc)
