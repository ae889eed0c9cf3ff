-- What each kind of statement gives.
use Rattle.std.proofs.Common.{◌≡◌, ℕ, List, map, Option, Some, None, option_map, ap, ◌∙◌, sym}
use Rattle.al_base.specs.declared.place.Place.{Place}
use Rattle.al_tree.specs.declared.type_tree.TypeTree.{TypeTree}
use Rattle.al_tree.specs.declared.expression.Name.{Name}
use Rattle.al_tree.specs.declared.expression.Expr.{Expr}
use Rattle.al_tree.specs.declared.statement.Variable.{Variable}
use Rattle.al_tree.specs.declared.statement.Stmt.{Stmt, fold-Stmt, fold-roll-Stmt}
use Rattle.al_tree.specs.declared.statement.Stmt.TheVariants as n
use Rattle.al_tree.specs.declared.statement.Stmt.TheOpen.{Stmt-F}
use Rattle.al_environment.specs.declared.environment.Environment.{Environment}
use Rattle.al_environment.specs.declared.environment.Here.{Here}
use Rattle.al_type_stmt.specs.declared.within.Within.{Within}
use Rattle.al_type_stmt.specs.declared.within.Choice.{Choice}
use Rattle.al_type_stmt.specs.Statements.{Part, part_step, part, way_step}

module _ (w : Within) (env : Environment) (here : Here) where
  abbrev P : Stmt → Part
  P = part w env here

  part-Empty : (at : Place) → P (n.Empty at) ≡ part_step w env here (Stmt-F.Empty at)
  unfolding part
  part-Empty at = ap (fold-Stmt (Part) (part_step w env here)) (sym (n.rolls-Empty at)) ∙ fold-roll-Stmt (Part) (part_step w env here) (Stmt-F.Empty at)

  pub way-Empty : (at : Place) (c : Choice) → (P (n.Empty at)).way c ≡ way_step w env here (Stmt-F.Empty at) c
  way-Empty at c = ap (λ (p : Part). p.way c) (part-Empty at)

  pub at-Empty : (at : Place) → (P (n.Empty at)).at ≡ at
  at-Empty at = ap (λ (p : Part). p.at) (part-Empty at)

  part-Block : (at : Place) (body : List Stmt) → P (n.Block at body) ≡ part_step w env here (Stmt-F.Block at (map P body))
  unfolding part
  part-Block at body = ap (fold-Stmt (Part) (part_step w env here)) (sym (n.rolls-Block at body)) ∙ fold-roll-Stmt (Part) (part_step w env here) (Stmt-F.Block at body)

  pub way-Block : (at : Place) (body : List Stmt) (c : Choice) → (P (n.Block at body)).way c ≡ way_step w env here (Stmt-F.Block at (map P body)) c
  way-Block at body c = ap (λ (p : Part). p.way c) (part-Block at body)

  pub at-Block : (at : Place) (body : List Stmt) → (P (n.Block at body)).at ≡ at
  at-Block at body = ap (λ (p : Part). p.at) (part-Block at body)

  part-Declare : (at : Place) (base : TypeTree) (variables : List Variable) → P (n.Declare at base variables) ≡ part_step w env here (Stmt-F.Declare at base variables)
  unfolding part
  part-Declare at base variables = ap (fold-Stmt (Part) (part_step w env here)) (sym (n.rolls-Declare at base variables)) ∙ fold-roll-Stmt (Part) (part_step w env here) (Stmt-F.Declare at base variables)

  pub way-Declare : (at : Place) (base : TypeTree) (variables : List Variable) (c : Choice) → (P (n.Declare at base variables)).way c ≡ way_step w env here (Stmt-F.Declare at base variables) c
  way-Declare at base variables c = ap (λ (p : Part). p.way c) (part-Declare at base variables)

  pub at-Declare : (at : Place) (base : TypeTree) (variables : List Variable) → (P (n.Declare at base variables)).at ≡ at
  at-Declare at base variables = ap (λ (p : Part). p.at) (part-Declare at base variables)

  part-Value : (at : Place) (value : Expr) → P (n.Value at value) ≡ part_step w env here (Stmt-F.Value at value)
  unfolding part
  part-Value at value = ap (fold-Stmt (Part) (part_step w env here)) (sym (n.rolls-Value at value)) ∙ fold-roll-Stmt (Part) (part_step w env here) (Stmt-F.Value at value)

  pub way-Value : (at : Place) (value : Expr) (c : Choice) → (P (n.Value at value)).way c ≡ way_step w env here (Stmt-F.Value at value) c
  way-Value at value c = ap (λ (p : Part). p.way c) (part-Value at value)

  pub at-Value : (at : Place) (value : Expr) → (P (n.Value at value)).at ≡ at
  at-Value at value = ap (λ (p : Part). p.at) (part-Value at value)

  part-Label : (at : Place) (name : ℕ) (body : Stmt) → P (n.Label at name body) ≡ part_step w env here (Stmt-F.Label at name (P body))
  unfolding part
  part-Label at name body = ap (fold-Stmt (Part) (part_step w env here)) (sym (n.rolls-Label at name body)) ∙ fold-roll-Stmt (Part) (part_step w env here) (Stmt-F.Label at name body)

  pub way-Label : (at : Place) (name : ℕ) (body : Stmt) (c : Choice) → (P (n.Label at name body)).way c ≡ way_step w env here (Stmt-F.Label at name (P body)) c
  way-Label at name body c = ap (λ (p : Part). p.way c) (part-Label at name body)

  pub at-Label : (at : Place) (name : ℕ) (body : Stmt) → (P (n.Label at name body)).at ≡ at
  at-Label at name body = ap (λ (p : Part). p.at) (part-Label at name body)

  part-If : (at : Place) (condition : Expr) (met : Stmt) (other : Option Stmt) → P (n.If at condition met other) ≡ part_step w env here (Stmt-F.If at condition (P met) (option_map P other))
  unfolding part
  part-If at condition met None = ap (fold-Stmt (Part) (part_step w env here)) (sym (n.rolls-If at condition met None)) ∙ fold-roll-Stmt (Part) (part_step w env here) (Stmt-F.If at condition met None)
  part-If at condition met (Some o) = ap (fold-Stmt (Part) (part_step w env here)) (sym (n.rolls-If at condition met (Some o))) ∙ fold-roll-Stmt (Part) (part_step w env here) (Stmt-F.If at condition met (Some o))

  pub way-If : (at : Place) (condition : Expr) (met : Stmt) (other : Option Stmt) (c : Choice) → (P (n.If at condition met other)).way c ≡ way_step w env here (Stmt-F.If at condition (P met) (option_map P other)) c
  way-If at condition met other c = ap (λ (p : Part). p.way c) (part-If at condition met other)

  pub at-If : (at : Place) (condition : Expr) (met : Stmt) (other : Option Stmt) → (P (n.If at condition met other)).at ≡ at
  at-If at condition met other = ap (λ (p : Part). p.at) (part-If at condition met other)

  part-While : (at : Place) (condition : Expr) (body : Stmt) → P (n.While at condition body) ≡ part_step w env here (Stmt-F.While at condition (P body))
  unfolding part
  part-While at condition body = ap (fold-Stmt (Part) (part_step w env here)) (sym (n.rolls-While at condition body)) ∙ fold-roll-Stmt (Part) (part_step w env here) (Stmt-F.While at condition body)

  pub way-While : (at : Place) (condition : Expr) (body : Stmt) (c : Choice) → (P (n.While at condition body)).way c ≡ way_step w env here (Stmt-F.While at condition (P body)) c
  way-While at condition body c = ap (λ (p : Part). p.way c) (part-While at condition body)

  pub at-While : (at : Place) (condition : Expr) (body : Stmt) → (P (n.While at condition body)).at ≡ at
  at-While at condition body = ap (λ (p : Part). p.at) (part-While at condition body)

  part-Do : (at : Place) (body : Stmt) (condition : Expr) → P (n.Do at body condition) ≡ part_step w env here (Stmt-F.Do at (P body) condition)
  unfolding part
  part-Do at body condition = ap (fold-Stmt (Part) (part_step w env here)) (sym (n.rolls-Do at body condition)) ∙ fold-roll-Stmt (Part) (part_step w env here) (Stmt-F.Do at body condition)

  pub way-Do : (at : Place) (body : Stmt) (condition : Expr) (c : Choice) → (P (n.Do at body condition)).way c ≡ way_step w env here (Stmt-F.Do at (P body) condition) c
  way-Do at body condition c = ap (λ (p : Part). p.way c) (part-Do at body condition)

  pub at-Do : (at : Place) (body : Stmt) (condition : Expr) → (P (n.Do at body condition)).at ≡ at
  at-Do at body condition = ap (λ (p : Part). p.at) (part-Do at body condition)

  part-For : (at : Place) (start : Option Expr) (condition : Option Expr) (next : Option Expr) (body : Stmt) → P (n.For at start condition next body) ≡ part_step w env here (Stmt-F.For at start condition next (P body))
  unfolding part
  part-For at start condition next body = ap (fold-Stmt (Part) (part_step w env here)) (sym (n.rolls-For at start condition next body)) ∙ fold-roll-Stmt (Part) (part_step w env here) (Stmt-F.For at start condition next body)

  pub way-For : (at : Place) (start : Option Expr) (condition : Option Expr) (next : Option Expr) (body : Stmt) (c : Choice) → (P (n.For at start condition next body)).way c ≡ way_step w env here (Stmt-F.For at start condition next (P body)) c
  way-For at start condition next body c = ap (λ (p : Part). p.way c) (part-For at start condition next body)

  pub at-For : (at : Place) (start : Option Expr) (condition : Option Expr) (next : Option Expr) (body : Stmt) → (P (n.For at start condition next body)).at ≡ at
  at-For at start condition next body = ap (λ (p : Part). p.at) (part-For at start condition next body)

  part-Switch : (at : Place) (value : Expr) (body : List Stmt) → P (n.Switch at value body) ≡ part_step w env here (Stmt-F.Switch at value (map P body))
  unfolding part
  part-Switch at value body = ap (fold-Stmt (Part) (part_step w env here)) (sym (n.rolls-Switch at value body)) ∙ fold-roll-Stmt (Part) (part_step w env here) (Stmt-F.Switch at value body)

  pub way-Switch : (at : Place) (value : Expr) (body : List Stmt) (c : Choice) → (P (n.Switch at value body)).way c ≡ way_step w env here (Stmt-F.Switch at value (map P body)) c
  way-Switch at value body c = ap (λ (p : Part). p.way c) (part-Switch at value body)

  pub at-Switch : (at : Place) (value : Expr) (body : List Stmt) → (P (n.Switch at value body)).at ≡ at
  at-Switch at value body = ap (λ (p : Part). p.at) (part-Switch at value body)

  part-Alt : (at : Place) (body : List Stmt) → P (n.Alt at body) ≡ part_step w env here (Stmt-F.Alt at (map P body))
  unfolding part
  part-Alt at body = ap (fold-Stmt (Part) (part_step w env here)) (sym (n.rolls-Alt at body)) ∙ fold-roll-Stmt (Part) (part_step w env here) (Stmt-F.Alt at body)

  pub way-Alt : (at : Place) (body : List Stmt) (c : Choice) → (P (n.Alt at body)).way c ≡ way_step w env here (Stmt-F.Alt at (map P body)) c
  way-Alt at body c = ap (λ (p : Part). p.way c) (part-Alt at body)

  pub at-Alt : (at : Place) (body : List Stmt) → (P (n.Alt at body)).at ≡ at
  at-Alt at body = ap (λ (p : Part). p.at) (part-Alt at body)

  part-Case : (at : Place) (value : Expr) → P (n.Case at value) ≡ part_step w env here (Stmt-F.Case at value)
  unfolding part
  part-Case at value = ap (fold-Stmt (Part) (part_step w env here)) (sym (n.rolls-Case at value)) ∙ fold-roll-Stmt (Part) (part_step w env here) (Stmt-F.Case at value)

  pub way-Case : (at : Place) (value : Expr) (c : Choice) → (P (n.Case at value)).way c ≡ way_step w env here (Stmt-F.Case at value) c
  way-Case at value c = ap (λ (p : Part). p.way c) (part-Case at value)

  pub at-Case : (at : Place) (value : Expr) → (P (n.Case at value)).at ≡ at
  at-Case at value = ap (λ (p : Part). p.at) (part-Case at value)

  part-Default : (at : Place) → P (n.Default at) ≡ part_step w env here (Stmt-F.Default at)
  unfolding part
  part-Default at = ap (fold-Stmt (Part) (part_step w env here)) (sym (n.rolls-Default at)) ∙ fold-roll-Stmt (Part) (part_step w env here) (Stmt-F.Default at)

  pub way-Default : (at : Place) (c : Choice) → (P (n.Default at)).way c ≡ way_step w env here (Stmt-F.Default at) c
  way-Default at c = ap (λ (p : Part). p.way c) (part-Default at)

  pub at-Default : (at : Place) → (P (n.Default at)).at ≡ at
  at-Default at = ap (λ (p : Part). p.at) (part-Default at)

  part-Par : (at : Place) (bodies : List Stmt) → P (n.Par at bodies) ≡ part_step w env here (Stmt-F.Par at (map P bodies))
  unfolding part
  part-Par at bodies = ap (fold-Stmt (Part) (part_step w env here)) (sym (n.rolls-Par at bodies)) ∙ fold-roll-Stmt (Part) (part_step w env here) (Stmt-F.Par at bodies)

  pub way-Par : (at : Place) (bodies : List Stmt) (c : Choice) → (P (n.Par at bodies)).way c ≡ way_step w env here (Stmt-F.Par at (map P bodies)) c
  way-Par at bodies c = ap (λ (p : Part). p.way c) (part-Par at bodies)

  pub at-Par : (at : Place) (bodies : List Stmt) → (P (n.Par at bodies)).at ≡ at
  at-Par at bodies = ap (λ (p : Part). p.at) (part-Par at bodies)

  part-Rescue : (at : Place) (name : Option Name) (body : Stmt) → P (n.Rescue at name body) ≡ part_step w env here (Stmt-F.Rescue at name (P body))
  unfolding part
  part-Rescue at name body = ap (fold-Stmt (Part) (part_step w env here)) (sym (n.rolls-Rescue at name body)) ∙ fold-roll-Stmt (Part) (part_step w env here) (Stmt-F.Rescue at name body)

  pub way-Rescue : (at : Place) (name : Option Name) (body : Stmt) (c : Choice) → (P (n.Rescue at name body)).way c ≡ way_step w env here (Stmt-F.Rescue at name (P body)) c
  way-Rescue at name body c = ap (λ (p : Part). p.way c) (part-Rescue at name body)

  pub at-Rescue : (at : Place) (name : Option Name) (body : Stmt) → (P (n.Rescue at name body)).at ≡ at
  at-Rescue at name body = ap (λ (p : Part). p.at) (part-Rescue at name body)

  part-Raise : (at : Place) (name : Option Name) → P (n.Raise at name) ≡ part_step w env here (Stmt-F.Raise at name)
  unfolding part
  part-Raise at name = ap (fold-Stmt (Part) (part_step w env here)) (sym (n.rolls-Raise at name)) ∙ fold-roll-Stmt (Part) (part_step w env here) (Stmt-F.Raise at name)

  pub way-Raise : (at : Place) (name : Option Name) (c : Choice) → (P (n.Raise at name)).way c ≡ way_step w env here (Stmt-F.Raise at name) c
  way-Raise at name c = ap (λ (p : Part). p.way c) (part-Raise at name)

  pub at-Raise : (at : Place) (name : Option Name) → (P (n.Raise at name)).at ≡ at
  at-Raise at name = ap (λ (p : Part). p.at) (part-Raise at name)

  part-Return : (at : Place) (value : Option Expr) → P (n.Return at value) ≡ part_step w env here (Stmt-F.Return at value)
  unfolding part
  part-Return at value = ap (fold-Stmt (Part) (part_step w env here)) (sym (n.rolls-Return at value)) ∙ fold-roll-Stmt (Part) (part_step w env here) (Stmt-F.Return at value)

  pub way-Return : (at : Place) (value : Option Expr) (c : Choice) → (P (n.Return at value)).way c ≡ way_step w env here (Stmt-F.Return at value) c
  way-Return at value c = ap (λ (p : Part). p.way c) (part-Return at value)

  pub at-Return : (at : Place) (value : Option Expr) → (P (n.Return at value)).at ≡ at
  at-Return at value = ap (λ (p : Part). p.at) (part-Return at value)

  part-Become : (at : Place) (value : Expr) → P (n.Become at value) ≡ part_step w env here (Stmt-F.Become at value)
  unfolding part
  part-Become at value = ap (fold-Stmt (Part) (part_step w env here)) (sym (n.rolls-Become at value)) ∙ fold-roll-Stmt (Part) (part_step w env here) (Stmt-F.Become at value)

  pub way-Become : (at : Place) (value : Expr) (c : Choice) → (P (n.Become at value)).way c ≡ way_step w env here (Stmt-F.Become at value) c
  way-Become at value c = ap (λ (p : Part). p.way c) (part-Become at value)

  pub at-Become : (at : Place) (value : Expr) → (P (n.Become at value)).at ≡ at
  at-Become at value = ap (λ (p : Part). p.at) (part-Become at value)

  part-Break : (at : Place) (count : Option ℕ) → P (n.Break at count) ≡ part_step w env here (Stmt-F.Break at count)
  unfolding part
  part-Break at count = ap (fold-Stmt (Part) (part_step w env here)) (sym (n.rolls-Break at count)) ∙ fold-roll-Stmt (Part) (part_step w env here) (Stmt-F.Break at count)

  pub way-Break : (at : Place) (count : Option ℕ) (c : Choice) → (P (n.Break at count)).way c ≡ way_step w env here (Stmt-F.Break at count) c
  way-Break at count c = ap (λ (p : Part). p.way c) (part-Break at count)

  pub at-Break : (at : Place) (count : Option ℕ) → (P (n.Break at count)).at ≡ at
  at-Break at count = ap (λ (p : Part). p.at) (part-Break at count)

  part-Continue : (at : Place) (count : Option ℕ) → P (n.Continue at count) ≡ part_step w env here (Stmt-F.Continue at count)
  unfolding part
  part-Continue at count = ap (fold-Stmt (Part) (part_step w env here)) (sym (n.rolls-Continue at count)) ∙ fold-roll-Stmt (Part) (part_step w env here) (Stmt-F.Continue at count)

  pub way-Continue : (at : Place) (count : Option ℕ) (c : Choice) → (P (n.Continue at count)).way c ≡ way_step w env here (Stmt-F.Continue at count) c
  way-Continue at count c = ap (λ (p : Part). p.way c) (part-Continue at count)

  pub at-Continue : (at : Place) (count : Option ℕ) → (P (n.Continue at count)).at ≡ at
  at-Continue at count = ap (λ (p : Part). p.at) (part-Continue at count)

  part-Goto : (at : Place) (label : Name) → P (n.Goto at label) ≡ part_step w env here (Stmt-F.Goto at label)
  unfolding part
  part-Goto at label = ap (fold-Stmt (Part) (part_step w env here)) (sym (n.rolls-Goto at label)) ∙ fold-roll-Stmt (Part) (part_step w env here) (Stmt-F.Goto at label)

  pub way-Goto : (at : Place) (label : Name) (c : Choice) → (P (n.Goto at label)).way c ≡ way_step w env here (Stmt-F.Goto at label) c
  way-Goto at label c = ap (λ (p : Part). p.way c) (part-Goto at label)

  pub at-Goto : (at : Place) (label : Name) → (P (n.Goto at label)).at ≡ at
  at-Goto at label = ap (λ (p : Part). p.at) (part-Goto at label)

  part-Alloc : (at : Place) (places : List Expr) → P (n.Alloc at places) ≡ part_step w env here (Stmt-F.Alloc at places)
  unfolding part
  part-Alloc at places = ap (fold-Stmt (Part) (part_step w env here)) (sym (n.rolls-Alloc at places)) ∙ fold-roll-Stmt (Part) (part_step w env here) (Stmt-F.Alloc at places)

  pub way-Alloc : (at : Place) (places : List Expr) (c : Choice) → (P (n.Alloc at places)).way c ≡ way_step w env here (Stmt-F.Alloc at places) c
  way-Alloc at places c = ap (λ (p : Part). p.way c) (part-Alloc at places)

  pub at-Alloc : (at : Place) (places : List Expr) → (P (n.Alloc at places)).at ≡ at
  at-Alloc at places = ap (λ (p : Part). p.at) (part-Alloc at places)

  part-Unalloc : (at : Place) (values : List Expr) → P (n.Unalloc at values) ≡ part_step w env here (Stmt-F.Unalloc at values)
  unfolding part
  part-Unalloc at values = ap (fold-Stmt (Part) (part_step w env here)) (sym (n.rolls-Unalloc at values)) ∙ fold-roll-Stmt (Part) (part_step w env here) (Stmt-F.Unalloc at values)

  pub way-Unalloc : (at : Place) (values : List Expr) (c : Choice) → (P (n.Unalloc at values)).way c ≡ way_step w env here (Stmt-F.Unalloc at values) c
  way-Unalloc at values c = ap (λ (p : Part). p.way c) (part-Unalloc at values)

  pub at-Unalloc : (at : Place) (values : List Expr) → (P (n.Unalloc at values)).at ≡ at
  at-Unalloc at values = ap (λ (p : Part). p.at) (part-Unalloc at values)

  part-Check : (at : Place) (value : Expr) (text : Option (List ℕ)) → P (n.Check at value text) ≡ part_step w env here (Stmt-F.Check at value text)
  unfolding part
  part-Check at value text = ap (fold-Stmt (Part) (part_step w env here)) (sym (n.rolls-Check at value text)) ∙ fold-roll-Stmt (Part) (part_step w env here) (Stmt-F.Check at value text)

  pub way-Check : (at : Place) (value : Expr) (text : Option (List ℕ)) (c : Choice) → (P (n.Check at value text)).way c ≡ way_step w env here (Stmt-F.Check at value text) c
  way-Check at value text c = ap (λ (p : Part). p.way c) (part-Check at value text)

  pub at-Check : (at : Place) (value : Expr) (text : Option (List ℕ)) → (P (n.Check at value text)).at ≡ at
  at-Check at value text = ap (λ (p : Part). p.at) (part-Check at value text)

  part-Proc : (at : Place) (calls : List Expr) → P (n.Proc at calls) ≡ part_step w env here (Stmt-F.Proc at calls)
  unfolding part
  part-Proc at calls = ap (fold-Stmt (Part) (part_step w env here)) (sym (n.rolls-Proc at calls)) ∙ fold-roll-Stmt (Part) (part_step w env here) (Stmt-F.Proc at calls)

  pub way-Proc : (at : Place) (calls : List Expr) (c : Choice) → (P (n.Proc at calls)).way c ≡ way_step w env here (Stmt-F.Proc at calls) c
  way-Proc at calls c = ap (λ (p : Part). p.way c) (part-Proc at calls)

  pub at-Proc : (at : Place) (calls : List Expr) → (P (n.Proc at calls)).at ≡ at
  at-Proc at calls = ap (λ (p : Part). p.at) (part-Proc at calls)

  part-Task : (at : Place) (calls : List Expr) → P (n.Task at calls) ≡ part_step w env here (Stmt-F.Task at calls)
  unfolding part
  part-Task at calls = ap (fold-Stmt (Part) (part_step w env here)) (sym (n.rolls-Task at calls)) ∙ fold-roll-Stmt (Part) (part_step w env here) (Stmt-F.Task at calls)

  pub way-Task : (at : Place) (calls : List Expr) (c : Choice) → (P (n.Task at calls)).way c ≡ way_step w env here (Stmt-F.Task at calls) c
  way-Task at calls c = ap (λ (p : Part). p.way c) (part-Task at calls)

  pub at-Task : (at : Place) (calls : List Expr) → (P (n.Task at calls)).at ≡ at
  at-Task at calls = ap (λ (p : Part). p.at) (part-Task at calls)

pub ruleset way_is = (way-Empty, way-Block, way-Declare, way-Value, way-Label, way-If, way-While, way-Do, way-For, way-Switch, way-Alt, way-Case, way-Default, way-Par, way-Rescue, way-Raise, way-Return, way-Become, way-Break, way-Continue, way-Goto, way-Alloc, way-Unalloc, way-Check, way-Proc, way-Task)

pub ruleset place_is = (at-Empty, at-Block, at-Declare, at-Value, at-Label, at-If, at-While, at-Do, at-For, at-Switch, at-Alt, at-Case, at-Default, at-Par, at-Rescue, at-Raise, at-Return, at-Become, at-Break, at-Continue, at-Goto, at-Alloc, at-Unalloc, at-Check, at-Proc, at-Task)
