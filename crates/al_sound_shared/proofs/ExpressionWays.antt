-- Names in expressions mark what they stand for.
use Rattle.std.proofs.Common.{◌≡◌, ℕ, Bool, true, false, if◌then◌else◌, List, [], ◌∷◌, ◌++◌, length, map, Option, Some, None, refl, sym, ap, ◌∙◌, subst, ◌⊎◌, inl, inr, arith}
use Rattle.std.specs.Prelude.{◌==◌, Contains}
use Rattle.std.proofs.lemmas.Grind.{common_steps}
use Rattle.std.proofs.lemmas.List.Elements.{Contains-append_cases}
use Rattle.al_base.specs.declared.place.Place.{Place}
use Rattle.al_tree.specs.declared.expression.UnaryOp.{UnaryOp}
use Rattle.al_tree.specs.declared.expression.UnaryOp.TheVariants as prefix
use Rattle.al_tree.specs.declared.expression.Expr.{Expr, fold-roll-Expr, map-Expr, roll-Expr}
use Rattle.al_tree.specs.declared.expression.Expr.TheFolds.{ind-Expr}
use Rattle.al_tree.specs.declared.expression.Expr.TheOpen.{Expr-F}
use Rattle.al_tree_walks.specs.Expressions.{Addressed, addressed, addressed_places, addressed_step, all_places, behind, each_addressed, name_places, names_step}
use Rattle.al_scope.specs.declared.declaration.Declaration.{Declaration}
use Rattle.al_scope.specs.declared.declaration.Declaration.TheVariants as declaration
use Rattle.al_scope.specs.declared.declaration.Resolved.{Resolved}
use Rattle.al_scope.specs.Firsts.{declaration_at}
use Rattle.al_shared.specs.Expressions.{Part, Way, each, named, operated, part, step}
use Rattle.al_shared.specs.Expressions as shared
use Rattle.al_sound_shared.specs.Marked.{IsMarked}
use Rattle.al_sound_shared.proofs.Ways.{Keeps, Marks, first_marks, keeps_none, keeps_set, keeps_then, none_in, only_one, set_is_marked, then_marks}

module _ (names : List Resolved) (round n : ℕ) where
  -- what a name in a branch stands for, and what a name stands for whose address is taken
  abbrev pub IsOuter : Place → Type 0
  IsOuter at = declaration_at names at ≡ Some (declaration.Outer round n)

  abbrev pub IsOwn : Place → Type 0
  IsOwn at = declaration_at names at ≡ Some (declaration.Local n)

  -- a way that visits names at these places, of which these stand behind `&`
  pub record Visits (way : Way) (ats addresses : List Place) : Type 0 where
    pub keeps : Keeps n way
    pub outer : (at : Place) → Contains ats at → IsOuter at → Marks n true way
    pub own : (at : Place) → Contains addresses at → IsOwn at → Marks n false way

  pub visits_none : Visits (λ inside bs. bs) [] []
  visits_none = record { keeps = keeps_none n; outer = λ at c. none_in at c; own = λ at c. none_in at c }

  pub visits_then : (f g : Way) (ats bts addresses others : List Place) → Visits f ats addresses → Visits g bts others
      → Visits (λ inside bs. g inside (f inside bs)) (ats ++ bts) (addresses ++ others)
  visits_then f g ats bts addresses others h k = record {
    keeps = keeps_then n f g h.keeps k.keeps;
    outer = λ at c is. outer_in at (Contains-append_cases ats bts at c) is;
    own = λ at c is. own_in at (Contains-append_cases addresses others at c) is;
  }
    where
      outer_in : (at : Place) → Contains ats at ⊎ Contains bts at → IsOuter at → Marks n true (λ inside bs. g inside (f inside bs))
      outer_in at (inl c) is = first_marks n true f g k.keeps (h.outer at c is)
      outer_in at (inr c) is = then_marks n true f g h.keeps (k.outer at c is)

      own_in : (at : Place) → Contains addresses at ⊎ Contains others at → IsOwn at → Marks n false (λ inside bs. g inside (f inside bs))
      own_in at (inl c) is = first_marks n false f g k.keeps (h.own at c is)
      own_in at (inr c) is = then_marks n false f g h.keeps (k.own at c is)

  -- ---- names

  same_number : (m : ℕ) → (m == m) ≡ true
  same_number m = grind (arith, common_steps)

  keeps_if : (m : ℕ) (is : Bool) → Keeps n (λ inside bs. if is then shared.marked m bs else bs)
  keeps_if m true = keeps_set n m
  keeps_if m false = keeps_none n

  named_many : (d : Option Declaration) (inside : Bool) (bs : List Bool) → length (named round d inside bs) ≡ length bs
  named_many (Some (declaration.Outer around m)) true bs = (keeps_if m (around == round)).many true bs
  named_many (Some (declaration.Outer around m)) false bs = refl
  named_many (Some (declaration.Local m)) inside bs = refl
  named_many (Some (declaration.Global m)) inside bs = refl
  named_many (Some (declaration.Function m)) inside bs = refl
  named_many (Some (declaration.Constant m)) inside bs = refl
  named_many (Some declaration.Print) inside bs = refl
  named_many (Some declaration.Terminate) inside bs = refl
  named_many None inside bs = refl

  named_stays : (d : Option Declaration) (inside : Bool) (bs : List Bool) → IsMarked bs n → IsMarked (named round d inside bs) n
  named_stays (Some (declaration.Outer around m)) true bs h = (keeps_if m (around == round)).stays true bs h
  named_stays (Some (declaration.Outer around m)) false bs h = h
  named_stays (Some (declaration.Local m)) inside bs h = h
  named_stays (Some (declaration.Global m)) inside bs h = h
  named_stays (Some (declaration.Function m)) inside bs h = h
  named_stays (Some (declaration.Constant m)) inside bs h = h
  named_stays (Some declaration.Print) inside bs h = h
  named_stays (Some declaration.Terminate) inside bs h = h
  named_stays None inside bs h = h

  named_marks : (d : Option Declaration) → d ≡ Some (declaration.Outer round n) → Marks n true (named round d)
  named_marks d is bs lt =
      subst (λ (o : Option Declaration). IsMarked (named round o true bs) n) (sym is)
      (subst (λ (b : Bool). IsMarked (if b then shared.marked n bs else bs) n) (sym (same_number round)) (set_is_marked n true bs lt))

  visits_name : (at : Place) → Visits (named round (declaration_at names at)) (at ∷ []) []
  visits_name at = record {
    keeps = record { many = named_many (declaration_at names at); stays = named_stays (declaration_at names at) };
    outer = λ b c is. named_marks (declaration_at names at) (ap (declaration_at names) (only_one at b c) ∙ is);
    own = λ b c. none_in b c;
  }

  -- ---- names behind `&`

  addressed_many : (d : Option Declaration) (inside : Bool) (bs : List Bool) → length (shared.addressed d inside bs) ≡ length bs
  addressed_many (Some (declaration.Local m)) true bs = refl
  addressed_many (Some (declaration.Local m)) false bs = (keeps_set n m).many false bs
  addressed_many (Some (declaration.Outer around m)) inside bs = refl
  addressed_many (Some (declaration.Global m)) inside bs = refl
  addressed_many (Some (declaration.Function m)) inside bs = refl
  addressed_many (Some (declaration.Constant m)) inside bs = refl
  addressed_many (Some declaration.Print) inside bs = refl
  addressed_many (Some declaration.Terminate) inside bs = refl
  addressed_many None inside bs = refl

  addressed_stays : (d : Option Declaration) (inside : Bool) (bs : List Bool) → IsMarked bs n → IsMarked (shared.addressed d inside bs) n
  addressed_stays (Some (declaration.Local m)) true bs h = h
  addressed_stays (Some (declaration.Local m)) false bs h = (keeps_set n m).stays false bs h
  addressed_stays (Some (declaration.Outer around m)) inside bs h = h
  addressed_stays (Some (declaration.Global m)) inside bs h = h
  addressed_stays (Some (declaration.Function m)) inside bs h = h
  addressed_stays (Some (declaration.Constant m)) inside bs h = h
  addressed_stays (Some declaration.Print) inside bs h = h
  addressed_stays (Some declaration.Terminate) inside bs h = h
  addressed_stays None inside bs h = h

  visits_address : (at : Place) → Visits (operated names prefix.Address (Some at)) [] (at ∷ [])
  visits_address at = record {
    keeps = record { many = addressed_many (declaration_at names at); stays = addressed_stays (declaration_at names at) };
    outer = λ b c. none_in b c;
    own = λ b c is bs lt.
        subst (λ (o : Option Declaration). IsMarked (shared.addressed o false bs) n) (sym (ap (declaration_at names) (only_one at b c) ∙ is)) (set_is_marked n false bs lt);
  }

  visits_operator : (op : UnaryOp) (name : Option Place) → Visits (operated names op name) [] (behind op name)
  visits_operator prefix.Address (Some at) = visits_address at
  visits_operator prefix.Address None = visits_none
  visits_operator prefix.Plus name = visits_none
  visits_operator prefix.Minus name = visits_none
  visits_operator prefix.Not name = visits_none
  visits_operator prefix.Complement name = visits_none
  visits_operator prefix.Indirect name = visits_none
  visits_operator prefix.Increment name = visits_none
  visits_operator prefix.Decrement name = visits_none
  visits_operator prefix.Receive name = visits_none
  visits_operator prefix.CanReceive name = visits_none
  visits_operator prefix.Zerox name = visits_none

  -- ---- by the kind of an expression

  pub record Holds (p : Part) (ats : List Place) (a : Addressed) : Type 0 where
    pub name : p.name ≡ a.name
    pub visits : Visits p.way ats a.places

  abbrev Good : Expr → Type 0
  Good e = Holds (part names round e) (name_places e) (addressed e)

  abbrev Checked : Type 0
  Checked = (e : Expr) × Good e

  abbrev plain : List Checked → List Expr
  plain ys = map (λ (y : Checked). y.0) ys

  abbrev tree_of : Expr-F Checked → Expr-F Expr
  tree_of y = map-Expr Checked Expr (λ c. c.0) y

  each_visits : (ys : List Checked)
      → Visits (each (λ (p : Part). p.way) (map (part names round) (plain ys))) (all_places (map name_places (plain ys))) (each_addressed (map addressed (plain ys)))
  each_visits [] = visits_none
  each_visits (y ∷ ys) =
      visits_then (part names round y.0).way (each (λ (p : Part). p.way) (map (part names round) (plain ys))) (name_places y.0) (all_places (map name_places (plain ys)))
      (addressed_places y.0) (each_addressed (map addressed (plain ys))) y.1.visits (each_visits ys)

  two_visit : (a b : Checked)
      → Visits (λ inside bs. (part names round b.0).way inside ((part names round a.0).way inside bs)) (name_places a.0 ++ name_places b.0) (addressed_places a.0 ++ addressed_places b.0)
  two_visit a b =
      visits_then (part names round a.0).way (part names round b.0).way (name_places a.0) (name_places b.0) (addressed_places a.0) (addressed_places b.0) a.1.visits b.1.visits

  step_is : (y : Expr-F Checked)
      → Holds (step names round (map-Expr Expr Part (part names round) (tree_of y))) (names_step (map-Expr Expr (List Place) name_places (tree_of y))) (addressed_step (map-Expr Expr Addressed addressed (tree_of y)))
  step_is (Expr-F.Number at value) = record { name = refl; visits = visits_none }
  step_is (Expr-F.Char at value) = record { name = refl; visits = visits_none }
  step_is (Expr-F.Text at bytes) = record { name = refl; visits = visits_none }
  step_is (Expr-F.Nil at) = record { name = refl; visits = visits_none }
  step_is (Expr-F.Name at name) = record { name = refl; visits = visits_name at }
  step_is (Expr-F.Tuple at parts) = record { name = refl; visits = each_visits parts }
  step_is (Expr-F.Unary at op a) = record {
    name = refl;
    visits =
        subst (λ (o : Option Place). Visits (λ inside bs. (part names round a.0).way inside (operated names op o inside bs)) (name_places a.0) (behind op (addressed a.0).name ++ addressed_places a.0))
        (sym a.1.name)
        (visits_then (operated names op (addressed a.0).name) (part names round a.0).way [] (name_places a.0) (behind op (addressed a.0).name) (addressed_places a.0)
        (visits_operator op (addressed a.0).name) a.1.visits);
  }
  step_is (Expr-F.Cast at to a) = record { name = refl; visits = a.1.visits }
  step_is (Expr-F.SizeofType at of) = record { name = refl; visits = visits_none }
  step_is (Expr-F.SizeofValue at a) = record { name = refl; visits = a.1.visits }
  step_is (Expr-F.Index at a b) = record { name = refl; visits = two_visit a b }
  step_is (Expr-F.Member at a how name) = record { name = refl; visits = a.1.visits }
  step_is (Expr-F.Call at f xs) = record {
    name = refl;
    visits =
        visits_then (part names round f.0).way (each (λ (p : Part). p.way) (map (part names round) (plain xs))) (name_places f.0) (all_places (map name_places (plain xs)))
        (addressed_places f.0) (each_addressed (map addressed (plain xs))) f.1.visits (each_visits xs);
  }
  step_is (Expr-F.Postfix at op a) = record { name = refl; visits = a.1.visits }
  step_is (Expr-F.Binary at op a b) = record { name = refl; visits = two_visit a b }
  step_is (Expr-F.Iterator at a b) = record { name = refl; visits = two_visit a b }
  step_is (Expr-F.Assign at op a b) = record { name = refl; visits = two_visit a b }
  step_is (Expr-F.Sequence at parts) = record { name = refl; visits = each_visits parts }

  by_parts : (y : Expr-F Checked) → Good (roll-Expr (tree_of y))
  unfolding part name_places addressed
  by_parts y =
      let z = tree_of y in
      subst (λ (p : Part). Holds p (name_places (roll-Expr z)) (addressed (roll-Expr z))) (sym (fold-roll-Expr Part (step names round) z))
      (subst (λ (ats : List Place). Holds (step names round (map-Expr Expr Part (part names round) z)) ats (addressed (roll-Expr z))) (sym (fold-roll-Expr (List Place) names_step z))
      (subst (λ (a : Addressed). Holds (step names round (map-Expr Expr Part (part names round) z)) (names_step (map-Expr Expr (List Place) name_places z)) a) (sym (fold-roll-Expr Addressed addressed_step z))
      (step_is y)))

  pub expression_is : (e : Expr) → Good e
  expression_is = ind-Expr Good (λ x y is. subst (λ z. Good (roll-Expr z)) is (by_parts y))
