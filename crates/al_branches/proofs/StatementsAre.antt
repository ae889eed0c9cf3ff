-- Where each kind of statement stands, and the branches in it.
use Rattle.std.proofs.Common.{◌≡◌, ℕ, List, [], ◌∷◌, ◌++◌, map, Option, Some, None, option_map, refl, ap, ◌∙◌, sym, append_assoc}
use Rattle.std.proofs.lemmas.List.{append-nil}
use Rattle.std.specs.List.{flat_map}
use Rattle.al_base.specs.declared.place.Place.{Place}
use Rattle.al_tree.specs.declared.type_tree.TypeTree.{TypeTree}
use Rattle.al_tree.specs.declared.expression.Name.{Name}
use Rattle.al_tree.specs.declared.expression.Expr.{Expr}
use Rattle.al_tree.specs.declared.statement.Variable.{Variable}
use Rattle.al_tree.specs.declared.statement.Stmt.{Stmt, fold-Stmt, fold-roll-Stmt}
use Rattle.al_tree.specs.declared.statement.Stmt.TheVariants as n
use Rattle.al_tree.specs.declared.statement.Stmt.TheOpen.{Stmt-F}
use Rattle.al_branches.specs.Statements.{Part, inside, as_branch, optional, step, part, place, branch_places, in_par}

-- the parts of a list by what they are made of
flat_map_map : {A B : Type 0} (f : B → List Place) (g : A → B) (xs : List A) → flat_map f (map g xs) ≡ flat_map (λ x. f (g x)) xs
flat_map_map f g [] = refl
flat_map_map f g (x ∷ xs) = ap (λ ps. f (g x) ++ ps) (flat_map_map f g xs)

part-Empty : (at : Place) → part (n.Empty at) ≡ step (Stmt-F.Empty at)
unfolding part
part-Empty at = ap (fold-Stmt Part step) (sym (n.rolls-Empty at)) ∙ fold-roll-Stmt Part step (Stmt-F.Empty at)

pub at-Empty : (at : Place) → place (n.Empty at) ≡ at
at-Empty at = ap (λ (p : Part). p.at) (part-Empty at)

pub branches-Empty : (at : Place) → branch_places (n.Empty at) ≡ []
branches-Empty at = ap inside (part-Empty at)

part-Block : (at : Place) (body : List Stmt) → part (n.Block at body) ≡ step (Stmt-F.Block at (map part body))
unfolding part
part-Block at body = ap (fold-Stmt Part step) (sym (n.rolls-Block at body)) ∙ fold-roll-Stmt Part step (Stmt-F.Block at body)

pub at-Block : (at : Place) (body : List Stmt) → place (n.Block at body) ≡ at
at-Block at body = ap (λ (p : Part). p.at) (part-Block at body)

pub branches-Block : (at : Place) (body : List Stmt) → branch_places (n.Block at body) ≡ flat_map branch_places body
branches-Block at body = ap inside (part-Block at body) ∙ flat_map_map inside part body

part-Declare : (at : Place) (base : TypeTree) (variables : List Variable) → part (n.Declare at base variables) ≡ step (Stmt-F.Declare at base variables)
unfolding part
part-Declare at base variables = ap (fold-Stmt Part step) (sym (n.rolls-Declare at base variables)) ∙ fold-roll-Stmt Part step (Stmt-F.Declare at base variables)

pub at-Declare : (at : Place) (base : TypeTree) (variables : List Variable) → place (n.Declare at base variables) ≡ at
at-Declare at base variables = ap (λ (p : Part). p.at) (part-Declare at base variables)

pub branches-Declare : (at : Place) (base : TypeTree) (variables : List Variable) → branch_places (n.Declare at base variables) ≡ []
branches-Declare at base variables = ap inside (part-Declare at base variables)

part-Value : (at : Place) (value : Expr) → part (n.Value at value) ≡ step (Stmt-F.Value at value)
unfolding part
part-Value at value = ap (fold-Stmt Part step) (sym (n.rolls-Value at value)) ∙ fold-roll-Stmt Part step (Stmt-F.Value at value)

pub at-Value : (at : Place) (value : Expr) → place (n.Value at value) ≡ at
at-Value at value = ap (λ (p : Part). p.at) (part-Value at value)

pub branches-Value : (at : Place) (value : Expr) → branch_places (n.Value at value) ≡ []
branches-Value at value = ap inside (part-Value at value)

part-Label : (at : Place) (name : ℕ) (body : Stmt) → part (n.Label at name body) ≡ step (Stmt-F.Label at name (part body))
unfolding part
part-Label at name body = ap (fold-Stmt Part step) (sym (n.rolls-Label at name body)) ∙ fold-roll-Stmt Part step (Stmt-F.Label at name body)

pub at-Label : (at : Place) (name : ℕ) (body : Stmt) → place (n.Label at name body) ≡ at
at-Label at name body = ap (λ (p : Part). p.at) (part-Label at name body)

pub branches-Label : (at : Place) (name : ℕ) (body : Stmt) → branch_places (n.Label at name body) ≡ branch_places body
branches-Label at name body = ap inside (part-Label at name body)

part-If : (at : Place) (condition : Expr) (met : Stmt) (other : Option Stmt) → part (n.If at condition met other) ≡ step (Stmt-F.If at condition (part met) (option_map part other))
unfolding part
part-If at condition met None = ap (fold-Stmt Part step) (sym (n.rolls-If at condition met None)) ∙ fold-roll-Stmt Part step (Stmt-F.If at condition met None)
part-If at condition met (Some o) = ap (fold-Stmt Part step) (sym (n.rolls-If at condition met (Some o))) ∙ fold-roll-Stmt Part step (Stmt-F.If at condition met (Some o))

pub at-If : (at : Place) (condition : Expr) (met : Stmt) (other : Option Stmt) → place (n.If at condition met other) ≡ at
at-If at condition met other = ap (λ (p : Part). p.at) (part-If at condition met other)

optional_map : (o : Option Stmt) → optional inside (option_map part o) ≡ optional branch_places o
optional_map None = refl
optional_map (Some s) = refl

pub branches-If : (at : Place) (condition : Expr) (met : Stmt) (other : Option Stmt) → branch_places (n.If at condition met other) ≡ branch_places met ++ optional branch_places other
branches-If at condition met other = ap inside (part-If at condition met other) ∙ ap (λ ps. branch_places met ++ ps) (optional_map other)

part-While : (at : Place) (condition : Expr) (body : Stmt) → part (n.While at condition body) ≡ step (Stmt-F.While at condition (part body))
unfolding part
part-While at condition body = ap (fold-Stmt Part step) (sym (n.rolls-While at condition body)) ∙ fold-roll-Stmt Part step (Stmt-F.While at condition body)

pub at-While : (at : Place) (condition : Expr) (body : Stmt) → place (n.While at condition body) ≡ at
at-While at condition body = ap (λ (p : Part). p.at) (part-While at condition body)

pub branches-While : (at : Place) (condition : Expr) (body : Stmt) → branch_places (n.While at condition body) ≡ branch_places body
branches-While at condition body = ap inside (part-While at condition body)

part-Do : (at : Place) (body : Stmt) (condition : Expr) → part (n.Do at body condition) ≡ step (Stmt-F.Do at (part body) condition)
unfolding part
part-Do at body condition = ap (fold-Stmt Part step) (sym (n.rolls-Do at body condition)) ∙ fold-roll-Stmt Part step (Stmt-F.Do at body condition)

pub at-Do : (at : Place) (body : Stmt) (condition : Expr) → place (n.Do at body condition) ≡ at
at-Do at body condition = ap (λ (p : Part). p.at) (part-Do at body condition)

pub branches-Do : (at : Place) (body : Stmt) (condition : Expr) → branch_places (n.Do at body condition) ≡ branch_places body
branches-Do at body condition = ap inside (part-Do at body condition)

part-For : (at : Place) (start : Option Expr) (condition : Option Expr) (next : Option Expr) (body : Stmt) → part (n.For at start condition next body) ≡ step (Stmt-F.For at start condition next (part body))
unfolding part
part-For at start condition next body = ap (fold-Stmt Part step) (sym (n.rolls-For at start condition next body)) ∙ fold-roll-Stmt Part step (Stmt-F.For at start condition next body)

pub at-For : (at : Place) (start : Option Expr) (condition : Option Expr) (next : Option Expr) (body : Stmt) → place (n.For at start condition next body) ≡ at
at-For at start condition next body = ap (λ (p : Part). p.at) (part-For at start condition next body)

pub branches-For : (at : Place) (start : Option Expr) (condition : Option Expr) (next : Option Expr) (body : Stmt) → branch_places (n.For at start condition next body) ≡ branch_places body
branches-For at start condition next body = ap inside (part-For at start condition next body)

part-Switch : (at : Place) (value : Expr) (body : List Stmt) → part (n.Switch at value body) ≡ step (Stmt-F.Switch at value (map part body))
unfolding part
part-Switch at value body = ap (fold-Stmt Part step) (sym (n.rolls-Switch at value body)) ∙ fold-roll-Stmt Part step (Stmt-F.Switch at value body)

pub at-Switch : (at : Place) (value : Expr) (body : List Stmt) → place (n.Switch at value body) ≡ at
at-Switch at value body = ap (λ (p : Part). p.at) (part-Switch at value body)

pub branches-Switch : (at : Place) (value : Expr) (body : List Stmt) → branch_places (n.Switch at value body) ≡ flat_map branch_places body
branches-Switch at value body = ap inside (part-Switch at value body) ∙ flat_map_map inside part body

part-Alt : (at : Place) (body : List Stmt) → part (n.Alt at body) ≡ step (Stmt-F.Alt at (map part body))
unfolding part
part-Alt at body = ap (fold-Stmt Part step) (sym (n.rolls-Alt at body)) ∙ fold-roll-Stmt Part step (Stmt-F.Alt at body)

pub at-Alt : (at : Place) (body : List Stmt) → place (n.Alt at body) ≡ at
at-Alt at body = ap (λ (p : Part). p.at) (part-Alt at body)

pub branches-Alt : (at : Place) (body : List Stmt) → branch_places (n.Alt at body) ≡ flat_map branch_places body
branches-Alt at body = ap inside (part-Alt at body) ∙ flat_map_map inside part body

part-Case : (at : Place) (value : Expr) → part (n.Case at value) ≡ step (Stmt-F.Case at value)
unfolding part
part-Case at value = ap (fold-Stmt Part step) (sym (n.rolls-Case at value)) ∙ fold-roll-Stmt Part step (Stmt-F.Case at value)

pub at-Case : (at : Place) (value : Expr) → place (n.Case at value) ≡ at
at-Case at value = ap (λ (p : Part). p.at) (part-Case at value)

pub branches-Case : (at : Place) (value : Expr) → branch_places (n.Case at value) ≡ []
branches-Case at value = ap inside (part-Case at value)

part-Default : (at : Place) → part (n.Default at) ≡ step (Stmt-F.Default at)
unfolding part
part-Default at = ap (fold-Stmt Part step) (sym (n.rolls-Default at)) ∙ fold-roll-Stmt Part step (Stmt-F.Default at)

pub at-Default : (at : Place) → place (n.Default at) ≡ at
at-Default at = ap (λ (p : Part). p.at) (part-Default at)

pub branches-Default : (at : Place) → branch_places (n.Default at) ≡ []
branches-Default at = ap inside (part-Default at)

part-Par : (at : Place) (bodies : List Stmt) → part (n.Par at bodies) ≡ step (Stmt-F.Par at (map part bodies))
unfolding part
part-Par at bodies = ap (fold-Stmt Part step) (sym (n.rolls-Par at bodies)) ∙ fold-roll-Stmt Part step (Stmt-F.Par at bodies)

pub at-Par : (at : Place) (bodies : List Stmt) → place (n.Par at bodies) ≡ at
at-Par at bodies = ap (λ (p : Part). p.at) (part-Par at bodies)

pub branches-Par : (at : Place) (bodies : List Stmt) → branch_places (n.Par at bodies) ≡ flat_map in_par bodies
branches-Par at bodies = ap inside (part-Par at bodies) ∙ flat_map_map as_branch part bodies

part-Rescue : (at : Place) (name : Option Name) (body : Stmt) → part (n.Rescue at name body) ≡ step (Stmt-F.Rescue at name (part body))
unfolding part
part-Rescue at name body = ap (fold-Stmt Part step) (sym (n.rolls-Rescue at name body)) ∙ fold-roll-Stmt Part step (Stmt-F.Rescue at name body)

pub at-Rescue : (at : Place) (name : Option Name) (body : Stmt) → place (n.Rescue at name body) ≡ at
at-Rescue at name body = ap (λ (p : Part). p.at) (part-Rescue at name body)

pub branches-Rescue : (at : Place) (name : Option Name) (body : Stmt) → branch_places (n.Rescue at name body) ≡ branch_places body
branches-Rescue at name body = ap inside (part-Rescue at name body)

part-Raise : (at : Place) (name : Option Name) → part (n.Raise at name) ≡ step (Stmt-F.Raise at name)
unfolding part
part-Raise at name = ap (fold-Stmt Part step) (sym (n.rolls-Raise at name)) ∙ fold-roll-Stmt Part step (Stmt-F.Raise at name)

pub at-Raise : (at : Place) (name : Option Name) → place (n.Raise at name) ≡ at
at-Raise at name = ap (λ (p : Part). p.at) (part-Raise at name)

pub branches-Raise : (at : Place) (name : Option Name) → branch_places (n.Raise at name) ≡ []
branches-Raise at name = ap inside (part-Raise at name)

part-Return : (at : Place) (value : Option Expr) → part (n.Return at value) ≡ step (Stmt-F.Return at value)
unfolding part
part-Return at value = ap (fold-Stmt Part step) (sym (n.rolls-Return at value)) ∙ fold-roll-Stmt Part step (Stmt-F.Return at value)

pub at-Return : (at : Place) (value : Option Expr) → place (n.Return at value) ≡ at
at-Return at value = ap (λ (p : Part). p.at) (part-Return at value)

pub branches-Return : (at : Place) (value : Option Expr) → branch_places (n.Return at value) ≡ []
branches-Return at value = ap inside (part-Return at value)

part-Become : (at : Place) (value : Expr) → part (n.Become at value) ≡ step (Stmt-F.Become at value)
unfolding part
part-Become at value = ap (fold-Stmt Part step) (sym (n.rolls-Become at value)) ∙ fold-roll-Stmt Part step (Stmt-F.Become at value)

pub at-Become : (at : Place) (value : Expr) → place (n.Become at value) ≡ at
at-Become at value = ap (λ (p : Part). p.at) (part-Become at value)

pub branches-Become : (at : Place) (value : Expr) → branch_places (n.Become at value) ≡ []
branches-Become at value = ap inside (part-Become at value)

part-Break : (at : Place) (count : Option ℕ) → part (n.Break at count) ≡ step (Stmt-F.Break at count)
unfolding part
part-Break at count = ap (fold-Stmt Part step) (sym (n.rolls-Break at count)) ∙ fold-roll-Stmt Part step (Stmt-F.Break at count)

pub at-Break : (at : Place) (count : Option ℕ) → place (n.Break at count) ≡ at
at-Break at count = ap (λ (p : Part). p.at) (part-Break at count)

pub branches-Break : (at : Place) (count : Option ℕ) → branch_places (n.Break at count) ≡ []
branches-Break at count = ap inside (part-Break at count)

part-Continue : (at : Place) (count : Option ℕ) → part (n.Continue at count) ≡ step (Stmt-F.Continue at count)
unfolding part
part-Continue at count = ap (fold-Stmt Part step) (sym (n.rolls-Continue at count)) ∙ fold-roll-Stmt Part step (Stmt-F.Continue at count)

pub at-Continue : (at : Place) (count : Option ℕ) → place (n.Continue at count) ≡ at
at-Continue at count = ap (λ (p : Part). p.at) (part-Continue at count)

pub branches-Continue : (at : Place) (count : Option ℕ) → branch_places (n.Continue at count) ≡ []
branches-Continue at count = ap inside (part-Continue at count)

part-Goto : (at : Place) (label : Name) → part (n.Goto at label) ≡ step (Stmt-F.Goto at label)
unfolding part
part-Goto at label = ap (fold-Stmt Part step) (sym (n.rolls-Goto at label)) ∙ fold-roll-Stmt Part step (Stmt-F.Goto at label)

pub at-Goto : (at : Place) (label : Name) → place (n.Goto at label) ≡ at
at-Goto at label = ap (λ (p : Part). p.at) (part-Goto at label)

pub branches-Goto : (at : Place) (label : Name) → branch_places (n.Goto at label) ≡ []
branches-Goto at label = ap inside (part-Goto at label)

part-Alloc : (at : Place) (places : List Expr) → part (n.Alloc at places) ≡ step (Stmt-F.Alloc at places)
unfolding part
part-Alloc at places = ap (fold-Stmt Part step) (sym (n.rolls-Alloc at places)) ∙ fold-roll-Stmt Part step (Stmt-F.Alloc at places)

pub at-Alloc : (at : Place) (places : List Expr) → place (n.Alloc at places) ≡ at
at-Alloc at places = ap (λ (p : Part). p.at) (part-Alloc at places)

pub branches-Alloc : (at : Place) (places : List Expr) → branch_places (n.Alloc at places) ≡ []
branches-Alloc at places = ap inside (part-Alloc at places)

part-Unalloc : (at : Place) (values : List Expr) → part (n.Unalloc at values) ≡ step (Stmt-F.Unalloc at values)
unfolding part
part-Unalloc at values = ap (fold-Stmt Part step) (sym (n.rolls-Unalloc at values)) ∙ fold-roll-Stmt Part step (Stmt-F.Unalloc at values)

pub at-Unalloc : (at : Place) (values : List Expr) → place (n.Unalloc at values) ≡ at
at-Unalloc at values = ap (λ (p : Part). p.at) (part-Unalloc at values)

pub branches-Unalloc : (at : Place) (values : List Expr) → branch_places (n.Unalloc at values) ≡ []
branches-Unalloc at values = ap inside (part-Unalloc at values)

part-Check : (at : Place) (value : Expr) (text : Option (List ℕ)) → part (n.Check at value text) ≡ step (Stmt-F.Check at value text)
unfolding part
part-Check at value text = ap (fold-Stmt Part step) (sym (n.rolls-Check at value text)) ∙ fold-roll-Stmt Part step (Stmt-F.Check at value text)

pub at-Check : (at : Place) (value : Expr) (text : Option (List ℕ)) → place (n.Check at value text) ≡ at
at-Check at value text = ap (λ (p : Part). p.at) (part-Check at value text)

pub branches-Check : (at : Place) (value : Expr) (text : Option (List ℕ)) → branch_places (n.Check at value text) ≡ []
branches-Check at value text = ap inside (part-Check at value text)

part-Proc : (at : Place) (calls : List Expr) → part (n.Proc at calls) ≡ step (Stmt-F.Proc at calls)
unfolding part
part-Proc at calls = ap (fold-Stmt Part step) (sym (n.rolls-Proc at calls)) ∙ fold-roll-Stmt Part step (Stmt-F.Proc at calls)

pub at-Proc : (at : Place) (calls : List Expr) → place (n.Proc at calls) ≡ at
at-Proc at calls = ap (λ (p : Part). p.at) (part-Proc at calls)

pub branches-Proc : (at : Place) (calls : List Expr) → branch_places (n.Proc at calls) ≡ []
branches-Proc at calls = ap inside (part-Proc at calls)

part-Task : (at : Place) (calls : List Expr) → part (n.Task at calls) ≡ step (Stmt-F.Task at calls)
unfolding part
part-Task at calls = ap (fold-Stmt Part step) (sym (n.rolls-Task at calls)) ∙ fold-roll-Stmt Part step (Stmt-F.Task at calls)

pub at-Task : (at : Place) (calls : List Expr) → place (n.Task at calls) ≡ at
at-Task at calls = ap (λ (p : Part). p.at) (part-Task at calls)

pub branches-Task : (at : Place) (calls : List Expr) → branch_places (n.Task at calls) ≡ []
branches-Task at calls = ap inside (part-Task at calls)

pub ruleset place_is = (at-Empty, at-Block, at-Declare, at-Value, at-Label, at-If, at-While, at-Do, at-For, at-Switch, at-Alt, at-Case, at-Default, at-Par, at-Rescue, at-Raise, at-Return, at-Become, at-Break, at-Continue, at-Goto, at-Alloc, at-Unalloc, at-Check, at-Proc, at-Task)

pub ruleset one_more = (append_assoc, append-nil)

pub ruleset branches_are = (branches-Empty, branches-Block, branches-Declare, branches-Value, branches-Label, branches-If, branches-While, branches-Do, branches-For, branches-Switch, branches-Alt, branches-Case, branches-Default, branches-Par, branches-Rescue, branches-Raise, branches-Return, branches-Become, branches-Break, branches-Continue, branches-Goto, branches-Alloc, branches-Unalloc, branches-Check, branches-Proc, branches-Task, append_assoc, append-nil)
