-- Bounds of iterators, put from the last to the first.
use Rattle.std.proofs.Common.{◌≡◌, ◌==◌, suc, true, false, List, [], ◌∷◌, ◌++◌, length, refl, sym, ap, ◌∙◌, arith}
use Rattle.std.specs.List.{IsLastAndRest}
use Rattle.std.proofs.lemmas.Bool.{eqb-false, eqb-true}
use Rattle.std.proofs.lemmas.List.{map-append}
use Rattle.std.proofs.lemmas.List.Concat.{flat_map-append}
use Rattle.al_typed.specs.declared.expression.TExpr.{TExpr}
use Rattle.al_typed.specs.declared.statement.TBounds.{TBounds}
use Rattle.al_meaning.specs.Calls.{evaluated}
use Rattle.al_meaning.specs.Execute.{bounds_exprs}
use Rattle.al_meaning.specs.Evaluate.{and_dropped}
use Rattle.al_meaning.specs.Here.{Here, does, with_work}
use Rattle.al_meaning.specs.Items.{Bound, Eval}
use Rattle.al_walk_loops.proofs.WorkLists.{with_work-append}
use Rattle.al_walk_statements.specs.Forms.{value_work}

pub bounds-append : (a b : List TBounds) (h : Here)
    → with_work (evaluated (bounds_exprs (a ++ b))) h ≡ with_work (evaluated (bounds_exprs a)) (with_work (evaluated (bounds_exprs b)) h)
bounds-append a b h =
    ap (λ es. with_work (evaluated es) h) (flat_map-append (λ (i : TBounds). i.from ∷ i.to ∷ []) a b)
    ∙ ap (λ ws. with_work ws h) (map-append Eval (bounds_exprs a) (bounds_exprs b))
    ∙ with_work-append (evaluated (bounds_exprs a)) (evaluated (bounds_exprs b)) h

pub bounds_more : (rest front : List TBounds) (b : TBounds) (h after : Here) → IsLastAndRest rest b front
    → after ≡ with_work (evaluated (bounds_exprs (b ∷ []))) h
    → with_work (evaluated (bounds_exprs rest)) h ≡ with_work (evaluated (bounds_exprs front)) after
bounds_more rest front b h after cut is =
    ap (λ xs. with_work (evaluated (bounds_exprs xs)) h) cut.0
    ∙ bounds-append front (b ∷ []) h
    ∙ ap (with_work (evaluated (bounds_exprs front))) (sym is)

pub bounds_past : (rest : List TBounds) (h : Here) → length rest ≡ 0 → with_work (evaluated (bounds_exprs rest)) h ≡ h
bounds_past [] h e = refl
bounds_past (b ∷ rest) h e = absurd (omega arith)

-- ---- an expression statement

pub value_once : (bs : List TBounds) (value : TExpr) (h : Here) → (length bs == 0) ≡ true → does h (and_dropped value) ≡ does h (value_work bs value)
value_once [] value h none = refl
value_once (b ∷ bs) value h none = let gone : suc (length bs) ≡ 0 = eqb-true (suc (length bs)) 0 none in absurd (omega arith)

pub value_each : (bs : List TBounds) (value : TExpr) (h : Here) → (length bs == 0) ≡ false
    → does h (evaluated (bounds_exprs bs) ++ Bound (length bs) value ∷ []) ≡ does h (value_work bs value)
value_each [] value h some = absurd (eqb-false 0 0 some refl)
value_each (b ∷ bs) value h some = refl
