-- What is gathered of expressions, in text order.
use Rattle.std.specs.Prelude.{Bool, true, false, if◌then◌else◌, fold, List, [], ◌∷◌, Option, Some, None}
use Rattle.al_base.specs.declared.place.Place.{Place}
use Rattle.al_tree.specs.declared.expression.Expr.{Expr, fold-Expr}
use Rattle.al_tree.specs.declared.expression.Expr.TheOpen.{Expr-F}
use Rattle.al_scope.specs.declared.declaration.Declaration.{Declaration}
use Rattle.al_scope.specs.declared.declaration.Declaration.TheVariants as declaration
use Rattle.al_scope.specs.declared.declaration.Resolved.{Resolved}
use Rattle.al_scope.specs.Firsts.{declaration_at}
use Rattle.al_environment.specs.declared.environment.Environment.{Environment}
use Rattle.al_environment.specs.declared.environment.Here.{Here}
use Rattle.al_body_parts.specs.declared.parts.Parts.{Parts}
use Rattle.al_body_parts.specs.Parts.{with_text, with_type}

-- what adds to what was gathered, inside a branch of a par of the function or outside
abbrev pub Way : Type 0
Way = Bool → Parts → Parts

-- one after the other
abbrev pub each : {A : Type 0} → (A → Way) → List A → Way
each f xs inside q = fold (λ r x. f x inside r) q xs

-- one that may be missing
abbrev pub optional : {A : Type 0} → (A → Way) → Option A → Way
optional f None inside q = q
optional f (Some x) inside q = f x inside q

-- where an expression stands that is a name alone, whether it is a string constant, and what it adds
pub record Part : Type 0 where
  pub name : Option Place
  pub is_text : Bool
  pub way : Way

abbrev pub plain : Way → Part
plain way = record { name = None; is_text = false; way = way }

abbrev pub is_print_name : Option Declaration → Bool
is_print_name (Some declaration.Print) = true
is_print_name _ = false

abbrev pub is_print : List Resolved → Option Place → Bool
is_print names None = false
is_print names (Some at) = is_print_name (declaration_at names at)

-- the format of a print makes no block
abbrev pub behind_format : {A : Type 0} → (is_text : A → Bool) → (is_print : Bool) → List A → List A
behind_format is_text false xs = xs
behind_format is_text true [] = []
behind_format is_text true (x ∷ xs) = if is_text x then xs else x ∷ xs

module _ (env : Environment) (here : Here) where
  abbrev pub step : Expr-F Part → Part
  step (Expr-F.Number at n) = plain (λ inside q. q)
  step (Expr-F.Char at n) = plain (λ inside q. q)
  step (Expr-F.Text at bytes) = record { name = None; is_text = true; way = λ inside q. with_text at bytes q }
  step (Expr-F.Nil at) = plain (λ inside q. q)
  step (Expr-F.Name at name) = record { name = Some at; is_text = false; way = λ inside q. q }
  step (Expr-F.Tuple at parts) = plain (each (λ (p : Part). p.way) parts)
  step (Expr-F.Unary at how a) = plain a.way
  step (Expr-F.Cast at to a) = plain (λ inside q. a.way inside (with_type env here at to q))
  step (Expr-F.SizeofType at of) = plain (λ inside q. with_type env here at of q)
  step (Expr-F.SizeofValue at a) = plain a.way
  step (Expr-F.Index at a b) = plain (λ inside q. b.way inside (a.way inside q))
  step (Expr-F.Member at a how name) = plain a.way
  step (Expr-F.Call at f xs) =
      plain (λ inside q. each (λ (p : Part). p.way) (behind_format (λ (p : Part). p.is_text) (is_print env.scopes.names f.name) xs) inside (f.way inside q))
  step (Expr-F.Postfix at how a) = plain a.way
  step (Expr-F.Binary at how a b) = plain (λ inside q. b.way inside (a.way inside q))
  step (Expr-F.Iterator at a b) = plain (λ inside q. b.way inside (a.way inside q))
  step (Expr-F.Assign at how a b) = plain (λ inside q. b.way inside (a.way inside q))
  step (Expr-F.Sequence at parts) = plain (each (λ (p : Part). p.way) parts)

  unfoldable pub part : Expr → Part
  part = fold-Expr Part step

  abbrev pub name_of : Expr → Option Place
  name_of e = (part e).name

  abbrev pub is_text_at : Expr → Bool
  is_text_at e = (part e).is_text

  abbrev pub expr : Expr → Way
  expr e = (part e).way

  -- the arguments of a call
  abbrev pub arguments : (is_print : Bool) → List Expr → Way
  arguments is_print xs inside q = each expr (behind_format is_text_at is_print xs) inside q
