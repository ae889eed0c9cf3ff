-- The iterators of an expression statement.
--
-- Typing rule 42: an iterator stands in an expression statement, in no iterator's bound. So the bounds are typed where no
-- iterator may stand, and what is in a bound is not gone through here.
use Rattle.std.specs.Prelude.{ℕ, ◌≡◌, ◌+◌, nat_le, if◌then◌else◌, List, [], ◌∷◌, ◌++◌, map, length}
use Rattle.std.specs.List.{flat_map}
use Rattle.al_base.specs.declared.place.Place.{Place}
use Rattle.al_rules.specs.Outcome.{Outcome, Good, and_then, pair}
use Rattle.al_tree.specs.declared.expression.Expr.{Expr, para-Expr}
use Rattle.al_tree.specs.declared.expression.Expr.TheOpen.{Expr-F}
use Rattle.al_typed.specs.declared.statement.TBounds.{TBounds}
use Rattle.al_typed.specs.declared.statement.TStmt.{TStmt}
use Rattle.al_typed.specs.declared.statement.TStmt.TheVariants as stmt
use Rattle.al_environment.specs.declared.environment.Environment.{Environment}
use Rattle.al_environment.specs.declared.environment.Here.{Here}
use Rattle.al_environment.specs.declared.numbered.Numbered.{Numbered}
use Rattle.al_statements.specs.Parts.{bounds}
use Rattle.al_type_expr.specs.Lists.{each}
use Rattle.al_type_expr.specs.Nodes.{value_of, dropped_value}
use Rattle.al_type_stmt.specs.declared.iterators.Gathered.{Gathered}

-- where an iterator stands, and its bounds
abbrev pub Spread : Type 0
Spread = Place × Outcome TBounds

-- what the iterators are in a part
abbrev pub spreads : Expr × List Spread → List Spread
spreads p = p.1

abbrev pub bounds_at : Environment → Here → Place → Expr → Expr → Outcome TBounds
bounds_at env here at a b = and_then (pair (value_of env here a) (value_of env here b)) (λ p. bounds at p.0 p.1)

abbrev pub spread : Environment → Here → Place → Expr → Expr → Spread
spread env here at a b = (at, bounds_at env here at a b)

abbrev pub step : Environment → Here → Expr-F (Expr × List Spread) → List Spread
step env here (Expr-F.Number at n) = []
step env here (Expr-F.Char at n) = []
step env here (Expr-F.Text at bytes) = []
step env here (Expr-F.Nil at) = []
step env here (Expr-F.Name at name) = []
step env here (Expr-F.Tuple at parts) = flat_map spreads parts
step env here (Expr-F.Unary at op a) = spreads a
step env here (Expr-F.Cast at to a) = spreads a
step env here (Expr-F.SizeofType at of) = []
step env here (Expr-F.SizeofValue at a) = spreads a
step env here (Expr-F.Index at a b) = spreads a ++ spreads b
step env here (Expr-F.Member at a how name) = spreads a
step env here (Expr-F.Call at f parts) = spreads f ++ flat_map spreads parts
step env here (Expr-F.Postfix at op a) = spreads a
step env here (Expr-F.Binary at op a b) = spreads a ++ spreads b
step env here (Expr-F.Iterator at a b) = spread env here at a.0 b.0 ∷ []
step env here (Expr-F.Assign at op a b) = spreads a ++ spreads b
step env here (Expr-F.Sequence at parts) = flat_map spreads parts

-- the iterators from left to right
unfoldable pub iterators : Environment → Here → Expr → List Spread
iterators env here = para-Expr (List Spread) (step env here)

-- a program numbers by 32 bits
abbrev pub numbered_at : ℕ → Place → List Numbered
numbered_at n at = if nat_le n 4294967295 then record { at = at; number = n } ∷ [] else []

-- their numbers, the first of which is `from`
abbrev pub numbered : (from : ℕ) → List Spread → List Numbered
numbered from [] = []
numbered from (s ∷ ss) = numbered_at from s.0 ++ numbered (from + 1) ss

abbrev pub with_iterators : Here → List Spread → Here
with_iterators here ss = record here { iterators = numbered 0 ss }

abbrev pub all_bounds : List Spread → Outcome (List TBounds)
all_bounds ss = each (map (λ (s : Spread). s.1) ss)

-- an expression statement, by the line of its first token
unfoldable pub value_statement : Environment → Here → ℕ → Expr → Outcome TStmt
value_statement env here line e =
    let ss = iterators env here e in
    and_then (pair (all_bounds ss) (dropped_value env (with_iterators here ss) e)) (λ p. Good (stmt.Value line p.0 p.1))

-- ---- the iterators that were met, one after the other

abbrev pub none_met : Gathered
none_met = record { bounds = []; numbers = [] }

abbrev pub with_one : Gathered → Place → TBounds → Gathered
with_one g at b = record { bounds = g.bounds ++ b ∷ []; numbers = g.numbers ++ numbered_at (length g.bounds) at }

-- with these
unfoldable pub gathering : Gathered → List Spread → Outcome Gathered
gathering g [] = Good g
gathering g (s ∷ ss) = and_then s.1 (λ b. gathering (with_one g s.0 b) ss)

-- all of these, where none was met before
abbrev pub IsGathered : Gathered → List Spread → Type 0
IsGathered g ss = (all_bounds ss ≡ Good g.bounds) × (g.numbers ≡ numbered 0 ss)
