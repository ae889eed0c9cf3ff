-- The branches in each kind of statement.
use Rattle.std.proofs.Common.{◌≡◌, ℕ, suc, ◌+◌, ◌<◌, ◌≤◌, List, [], ◌∷◌, map, length, get_or, drop, Option, Some, None, refl, ap, ◌∙◌, sym, drop-cons, add-one}
use Rattle.std.proofs.lemmas.List.{drop_all}
use Rattle.al_base.specs.declared.place.Place.{Place}
use Rattle.al_rules.specs.Outcome.{Outcome, Good, Bad, and_then}
use Rattle.al_tree.specs.declared.type_tree.TypeTree.{TypeTree}
use Rattle.al_tree.specs.declared.expression.Name.{Name}
use Rattle.al_tree.specs.declared.expression.Expr.{Expr}
use Rattle.al_tree.specs.declared.statement.Variable.{Variable}
use Rattle.al_tree.specs.declared.statement.Stmt.{Stmt, para-Stmt, para-roll-Stmt}
use Rattle.al_tree.specs.declared.statement.Stmt.TheVariants as n
use Rattle.al_tree.specs.declared.statement.Stmt.TheOpen.{Stmt-F}
use Rattle.al_environment.specs.declared.environment.Environment.{Environment}
use Rattle.al_type_stmt.specs.declared.within.Within.{Within}
use Rattle.al_type_function.specs.declared.site.Site.{Site}
use Rattle.al_type_function.specs.declared.branch.NumberedBranch.{NumberedBranch}
use Rattle.al_type_function.specs.Branches.{Way, way, each, optional, stmt_step, branch, branches, in_par}

-- ---- lists, from a place on

pub each-here : {A : Type 0} (f : A → Way) (xs : List A) (i : ℕ) (x : A) (site : Site) (done : List NumberedBranch) → i < length xs → x ≡ get_or xs i x
    → each f (drop i xs) site done ≡ and_then (f x site done) (each f (drop (i + 1) xs) site)
each-here f xs i x site done h e =
    ap (λ l. each f l site done) (drop-cons xs i x h ∙ ap (λ y. y ∷ drop (suc i) xs) (sym e) ∙ ap (λ k. x ∷ drop k xs) (sym (add-one i)))

pub each-end : {A : Type 0} (f : A → Way) (xs : List A) (i : ℕ) (site : Site) (done : List NumberedBranch) → length xs ≤ i → each f (drop i xs) site done ≡ Good done
each-end f xs i site done h = ap (λ l. each f l site done) (drop_all i xs h)

pub ruleset each_is = (each-here, each-end)

-- ---- one equation for each kind

and_then-same : {A C : Type 0} (o : Outcome A) (f g : A → Outcome C) → ((x : A) → f x ≡ g x) → and_then o f ≡ and_then o g
and_then-same (Good x) f g h = h x
and_then-same (Bad fs) f g h = refl

-- lists that are done alike
each-map : {A B : Type 0} (f : B → Way) (g : A → B) (xs : List A) (site : Site) (done : List NumberedBranch) → each f (map g xs) site done ≡ each (λ x. f (g x)) xs site done
each-map f g [] site done = refl
each-map f g (x ∷ xs) site done = and_then-same (f (g x) site done) (each f (map g xs) site) (each (λ x. f (g x)) xs site) (each-map f g xs site)

module _ (env : Environment) (names : List (List ℕ)) (w : Within) where
  abbrev B : Stmt → Way
  B = branches env names w

  abbrev pair_of : Stmt → Stmt × Way
  pair_of s = (s, B s)

  pub in-Empty : (at : Place) (site : Site) (done : List NumberedBranch) → B (n.Empty at) site done ≡ Good done
  unfolding branches
  in-Empty at site done =
      ap (λ (way : Way). way site done) (ap (para-Stmt Way (stmt_step env names w)) (sym (n.rolls-Empty at))
      ∙ para-roll-Stmt Way (stmt_step env names w) (Stmt-F.Empty at))

  pub in-Block : (at : Place) (body : List Stmt) (site : Site) (done : List NumberedBranch) → B (n.Block at body) site done ≡ each B body site done
  unfolding branches
  in-Block at body site done =
      ap (λ (way : Way). way site done) (ap (para-Stmt Way (stmt_step env names w)) (sym (n.rolls-Block at body))
      ∙ para-roll-Stmt Way (stmt_step env names w) (Stmt-F.Block at body)) ∙ each-map way pair_of body site done

  pub in-Declare : (at : Place) (base : TypeTree) (vs : List Variable) (site : Site) (done : List NumberedBranch) → B (n.Declare at base vs) site done ≡ Good done
  unfolding branches
  in-Declare at base vs site done =
      ap (λ (way : Way). way site done) (ap (para-Stmt Way (stmt_step env names w)) (sym (n.rolls-Declare at base vs))
      ∙ para-roll-Stmt Way (stmt_step env names w) (Stmt-F.Declare at base vs))

  pub in-Value : (at : Place) (value : Expr) (site : Site) (done : List NumberedBranch) → B (n.Value at value) site done ≡ Good done
  unfolding branches
  in-Value at value site done =
      ap (λ (way : Way). way site done) (ap (para-Stmt Way (stmt_step env names w)) (sym (n.rolls-Value at value))
      ∙ para-roll-Stmt Way (stmt_step env names w) (Stmt-F.Value at value))

  pub in-Label : (at : Place) (name : ℕ) (body : Stmt) (site : Site) (done : List NumberedBranch) → B (n.Label at name body) site done ≡ B body site done
  unfolding branches
  in-Label at name body site done =
      ap (λ (way : Way). way site done) (ap (para-Stmt Way (stmt_step env names w)) (sym (n.rolls-Label at name body))
      ∙ para-roll-Stmt Way (stmt_step env names w) (Stmt-F.Label at name body))

  pub in-If : (at : Place) (condition : Expr) (met : Stmt) (other : Option Stmt) (site : Site) (done : List NumberedBranch) → B (n.If at condition met other) site done ≡ and_then (B met site done) (optional B other site)
  unfolding branches
  in-If at condition met None site done =
      ap (λ (way : Way). way site done) (ap (para-Stmt Way (stmt_step env names w)) (sym (n.rolls-If at condition met None))
      ∙ para-roll-Stmt Way (stmt_step env names w) (Stmt-F.If at condition met None))
  in-If at condition met (Some o) site done =
      ap (λ (way : Way). way site done) (ap (para-Stmt Way (stmt_step env names w)) (sym (n.rolls-If at condition met (Some o)))
      ∙ para-roll-Stmt Way (stmt_step env names w) (Stmt-F.If at condition met (Some o)))

  pub in-While : (at : Place) (condition : Expr) (body : Stmt) (site : Site) (done : List NumberedBranch) → B (n.While at condition body) site done ≡ B body site done
  unfolding branches
  in-While at condition body site done =
      ap (λ (way : Way). way site done) (ap (para-Stmt Way (stmt_step env names w)) (sym (n.rolls-While at condition body))
      ∙ para-roll-Stmt Way (stmt_step env names w) (Stmt-F.While at condition body))

  pub in-Do : (at : Place) (body : Stmt) (condition : Expr) (site : Site) (done : List NumberedBranch) → B (n.Do at body condition) site done ≡ B body site done
  unfolding branches
  in-Do at body condition site done =
      ap (λ (way : Way). way site done) (ap (para-Stmt Way (stmt_step env names w)) (sym (n.rolls-Do at body condition))
      ∙ para-roll-Stmt Way (stmt_step env names w) (Stmt-F.Do at body condition))

  pub in-For : (at : Place) (start : Option Expr) (condition : Option Expr) (next : Option Expr) (body : Stmt) (site : Site) (done : List NumberedBranch) → B (n.For at start condition next body) site done ≡ B body site done
  unfolding branches
  in-For at start condition next body site done =
      ap (λ (way : Way). way site done) (ap (para-Stmt Way (stmt_step env names w)) (sym (n.rolls-For at start condition next body))
      ∙ para-roll-Stmt Way (stmt_step env names w) (Stmt-F.For at start condition next body))

  pub in-Switch : (at : Place) (value : Expr) (body : List Stmt) (site : Site) (done : List NumberedBranch) → B (n.Switch at value body) site done ≡ each B body site done
  unfolding branches
  in-Switch at value body site done =
      ap (λ (way : Way). way site done) (ap (para-Stmt Way (stmt_step env names w)) (sym (n.rolls-Switch at value body))
      ∙ para-roll-Stmt Way (stmt_step env names w) (Stmt-F.Switch at value body)) ∙ each-map way pair_of body site done

  pub in-Alt : (at : Place) (body : List Stmt) (site : Site) (done : List NumberedBranch) → B (n.Alt at body) site done ≡ each B body site done
  unfolding branches
  in-Alt at body site done =
      ap (λ (way : Way). way site done) (ap (para-Stmt Way (stmt_step env names w)) (sym (n.rolls-Alt at body))
      ∙ para-roll-Stmt Way (stmt_step env names w) (Stmt-F.Alt at body)) ∙ each-map way pair_of body site done

  pub in-Case : (at : Place) (value : Expr) (site : Site) (done : List NumberedBranch) → B (n.Case at value) site done ≡ Good done
  unfolding branches
  in-Case at value site done =
      ap (λ (way : Way). way site done) (ap (para-Stmt Way (stmt_step env names w)) (sym (n.rolls-Case at value))
      ∙ para-roll-Stmt Way (stmt_step env names w) (Stmt-F.Case at value))

  pub in-Default : (at : Place) (site : Site) (done : List NumberedBranch) → B (n.Default at) site done ≡ Good done
  unfolding branches
  in-Default at site done =
      ap (λ (way : Way). way site done) (ap (para-Stmt Way (stmt_step env names w)) (sym (n.rolls-Default at))
      ∙ para-roll-Stmt Way (stmt_step env names w) (Stmt-F.Default at))

  pub in-Par : (at : Place) (bodies : List Stmt) (site : Site) (done : List NumberedBranch) → B (n.Par at bodies) site done ≡ each (in_par env names w) bodies site done
  unfolding branches
  in-Par at bodies site done =
      ap (λ (way : Way). way site done) (ap (para-Stmt Way (stmt_step env names w)) (sym (n.rolls-Par at bodies))
      ∙ para-roll-Stmt Way (stmt_step env names w) (Stmt-F.Par at bodies)) ∙ each-map (branch env names w) pair_of bodies site done

  pub in-Rescue : (at : Place) (name : Option Name) (body : Stmt) (site : Site) (done : List NumberedBranch) → B (n.Rescue at name body) site done ≡ B body site done
  unfolding branches
  in-Rescue at name body site done =
      ap (λ (way : Way). way site done) (ap (para-Stmt Way (stmt_step env names w)) (sym (n.rolls-Rescue at name body))
      ∙ para-roll-Stmt Way (stmt_step env names w) (Stmt-F.Rescue at name body))

  pub in-Raise : (at : Place) (name : Option Name) (site : Site) (done : List NumberedBranch) → B (n.Raise at name) site done ≡ Good done
  unfolding branches
  in-Raise at name site done =
      ap (λ (way : Way). way site done) (ap (para-Stmt Way (stmt_step env names w)) (sym (n.rolls-Raise at name))
      ∙ para-roll-Stmt Way (stmt_step env names w) (Stmt-F.Raise at name))

  pub in-Return : (at : Place) (value : Option Expr) (site : Site) (done : List NumberedBranch) → B (n.Return at value) site done ≡ Good done
  unfolding branches
  in-Return at value site done =
      ap (λ (way : Way). way site done) (ap (para-Stmt Way (stmt_step env names w)) (sym (n.rolls-Return at value))
      ∙ para-roll-Stmt Way (stmt_step env names w) (Stmt-F.Return at value))

  pub in-Become : (at : Place) (value : Expr) (site : Site) (done : List NumberedBranch) → B (n.Become at value) site done ≡ Good done
  unfolding branches
  in-Become at value site done =
      ap (λ (way : Way). way site done) (ap (para-Stmt Way (stmt_step env names w)) (sym (n.rolls-Become at value))
      ∙ para-roll-Stmt Way (stmt_step env names w) (Stmt-F.Become at value))

  pub in-Break : (at : Place) (count : Option ℕ) (site : Site) (done : List NumberedBranch) → B (n.Break at count) site done ≡ Good done
  unfolding branches
  in-Break at count site done =
      ap (λ (way : Way). way site done) (ap (para-Stmt Way (stmt_step env names w)) (sym (n.rolls-Break at count))
      ∙ para-roll-Stmt Way (stmt_step env names w) (Stmt-F.Break at count))

  pub in-Continue : (at : Place) (count : Option ℕ) (site : Site) (done : List NumberedBranch) → B (n.Continue at count) site done ≡ Good done
  unfolding branches
  in-Continue at count site done =
      ap (λ (way : Way). way site done) (ap (para-Stmt Way (stmt_step env names w)) (sym (n.rolls-Continue at count))
      ∙ para-roll-Stmt Way (stmt_step env names w) (Stmt-F.Continue at count))

  pub in-Goto : (at : Place) (label : Name) (site : Site) (done : List NumberedBranch) → B (n.Goto at label) site done ≡ Good done
  unfolding branches
  in-Goto at label site done =
      ap (λ (way : Way). way site done) (ap (para-Stmt Way (stmt_step env names w)) (sym (n.rolls-Goto at label))
      ∙ para-roll-Stmt Way (stmt_step env names w) (Stmt-F.Goto at label))

  pub in-Alloc : (at : Place) (places : List Expr) (site : Site) (done : List NumberedBranch) → B (n.Alloc at places) site done ≡ Good done
  unfolding branches
  in-Alloc at places site done =
      ap (λ (way : Way). way site done) (ap (para-Stmt Way (stmt_step env names w)) (sym (n.rolls-Alloc at places))
      ∙ para-roll-Stmt Way (stmt_step env names w) (Stmt-F.Alloc at places))

  pub in-Unalloc : (at : Place) (values : List Expr) (site : Site) (done : List NumberedBranch) → B (n.Unalloc at values) site done ≡ Good done
  unfolding branches
  in-Unalloc at values site done =
      ap (λ (way : Way). way site done) (ap (para-Stmt Way (stmt_step env names w)) (sym (n.rolls-Unalloc at values))
      ∙ para-roll-Stmt Way (stmt_step env names w) (Stmt-F.Unalloc at values))

  pub in-Check : (at : Place) (value : Expr) (text : Option (List ℕ)) (site : Site) (done : List NumberedBranch) → B (n.Check at value text) site done ≡ Good done
  unfolding branches
  in-Check at value text site done =
      ap (λ (way : Way). way site done) (ap (para-Stmt Way (stmt_step env names w)) (sym (n.rolls-Check at value text))
      ∙ para-roll-Stmt Way (stmt_step env names w) (Stmt-F.Check at value text))

  pub in-Proc : (at : Place) (calls : List Expr) (site : Site) (done : List NumberedBranch) → B (n.Proc at calls) site done ≡ Good done
  unfolding branches
  in-Proc at calls site done =
      ap (λ (way : Way). way site done) (ap (para-Stmt Way (stmt_step env names w)) (sym (n.rolls-Proc at calls))
      ∙ para-roll-Stmt Way (stmt_step env names w) (Stmt-F.Proc at calls))

  pub in-Task : (at : Place) (calls : List Expr) (site : Site) (done : List NumberedBranch) → B (n.Task at calls) site done ≡ Good done
  unfolding branches
  in-Task at calls site done =
      ap (λ (way : Way). way site done) (ap (para-Stmt Way (stmt_step env names w)) (sym (n.rolls-Task at calls))
      ∙ para-roll-Stmt Way (stmt_step env names w) (Stmt-F.Task at calls))

pub ruleset branches_are = (in-Empty, in-Block, in-Declare, in-Value, in-Label, in-If, in-While, in-Do, in-For, in-Switch, in-Alt, in-Case, in-Default, in-Par, in-Rescue, in-Raise, in-Return, in-Become, in-Break, in-Continue, in-Goto, in-Alloc, in-Unalloc, in-Check, in-Proc, in-Task)
