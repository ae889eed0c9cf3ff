-- Prints whose arguments were found.
use Rattle.std.proofs.Common.{◌≡◌, ℕ, List, [], ◌∷◌, ◌++◌, map, length, Result, IfOk, refl, sym, ap, ap₂, ◌∙◌, append_assoc, arith}
use Rattle.std.proofs.lemmas.Result.{IfOk-weaker}
use Rattle.std.proofs.lemmas.List.{map-append, append-nil}
use Rattle.al_typed.specs.declared.ty.Ty.{Ty}
use Rattle.al_typed.specs.declared.expression.PrintPiece.{PrintPiece}
use Rattle.al_typed.specs.declared.expression.TExpr.{TExpr, Print', Row_of-TExpr, end_of-TExpr, more_of-TExpr, items-the_row-TExpr, items_hidden-the_row-TExpr-3}
use Rattle.al_typed.specs.declared.expression.TExpr.TheBlock.{hidden-the_row-TExpr-3, shown-the_row-TExpr-3}
use Rattle.al_typed.specs.declared.expression.TExpr.TheVariants as expr
use Rattle.al_typed.specs.declared.expression.TExpr.TheViews.{out-TExpr, roll-out-TExpr}
use denote.Hole.Carrier.{out}
use Rattle.al_typed.specs.Typed.{type_of}
use Rattle.al_meaning.specs.Evaluate.{arguments_of, eval}
use Rattle.al_meaning.specs.Step.{step_work}
use Rattle.al_meaning.specs.Here as step
use Rattle.al_meaning.specs.Items.{Eval, Gather}
use Rattle.al_meaning.specs.Items as item
use Rattle.al_meaning.specs.Parts.{exprs}
use Rattle.al_control.specs.declared.control.Next.{Next}
use Rattle.al_control.specs.declared.work.Argument.{Argument}
use Rattle.al_control.specs.Models.{argument_of, gather_of, next_of}
use Rattle.al_walk_values.specs.Fits.{Fits}
use Rattle.al_walk.specs.Works.{WorkFits}

exprs_items : {m : _} (row : Row_of-TExpr m) → exprs row ≡ items-the_row-TExpr m row
exprs_items end_of-TExpr = refl
exprs_items (more_of-TExpr e rest) = ap (λ es. e ∷ es) (exprs_items rest)

exprs_are : (es : List TExpr) → exprs (hidden-the_row-TExpr-3 es) ≡ es
exprs_are es = exprs_items (hidden-the_row-TExpr-3 es) ∙ items_hidden-the_row-TExpr-3 es

pub gather-Print : (t : Ty) (format : List PrintPiece) (es : List TExpr) → gather_of (expr.Print t format es) ≡ Gather format (map type_of es)
gather-Print t format es = ap (λ es. Gather format (map type_of es)) (exprs_are es)

-- a print by its two spellings
print_rolls : (t : Ty) (format : List PrintPiece) (s : _) (row : Row_of-TExpr _) → Print' t format s row ≡ expr.Print t format (shown-the_row-TExpr-3 s row)
unfolding out-TExpr out
print_rolls t format s row = sym (roll-out-TExpr (Print' t format s row)) ∙ expr.rolls-Print t format (shown-the_row-TExpr-3 s row)

-- what is done with any other expression
pub gathered_other : (e : TExpr) → ((t : Ty) (format : List PrintPiece) (es : List TExpr) → e ≡ expr.Print t format es → ⊥) → gather_of e ≡ Eval e
gathered_other (Print' t format s row) other = absurd (other t format (shown-the_row-TExpr-3 s row) (print_rolls t format s row))
gathered_other e other = refl

pub evaluates_so : {E : Type 0} (r : Result Next E) (e : TExpr) (w : item.Work) (h : step.Here) → w ≡ Eval e → IfOk r (λ n. next_of n ≡ eval e h)
    → IfOk r (λ n. next_of n ≡ step_work w h)
evaluates_so r e w h is goes = IfOk-weaker r _ _ (λ n (same : next_of n ≡ eval e h). same ∙ ap (λ (w : item.Work). step_work w h) (sym is)) goes

pub gather_fits : (h : step.Here) (e : TExpr) → WorkFits h (gather_of e) → Fits h.program e
gather_fits h (Print' t format a k) fits = tt
gather_fits h e fits = fits

-- a print whose arguments were taken
pub composed : {E : Type 0} (r : Result Next E) (pieces : List PrintPiece) (arguments : List Argument) (ts : List Ty) (values : List (List ℕ)) (text : List ℕ) (h : step.Here)
    → map argument_of arguments ≡ arguments_of ts values → text ≡ []
    → IfOk r (λ n. next_of n ≡ step.does h (item.Compose pieces (map argument_of arguments) text ∷ []))
    → IfOk r (λ n. next_of n ≡ step.does h (item.Compose pieces (arguments_of ts values) [] ∷ []))
composed r pieces arguments ts values text h made none goes =
    IfOk-weaker r _ _
    (λ n (same : next_of n ≡ step.does h (item.Compose pieces (map argument_of arguments) text ∷ [])).
    same ∙ ap₂ (λ (list : List item.Argument) (bs : List ℕ). step.does h (item.Compose pieces list bs ∷ [])) made none)
    goes

pub ruleset gathers = (gather-Print)

pub no_values : (ts : List Ty) → arguments_of ts [] ≡ []
no_values [] = refl
no_values (t ∷ ts) = refl

-- ---- an argument after the other

abbrev with_words : Ty → List ℕ → item.Argument
with_words t words = record { ty = t; words = words }

pub more_gathered : (all after : List Argument) (a : Argument) (es more : List TExpr) (e : TExpr) (values rest : List (List ℕ)) (words : List ℕ) (r : List item.Argument)
    → es ≡ e ∷ more → values ≡ words ∷ rest → a.ty.now ≡ type_of e → a.words ≡ words → after ≡ all ++ a ∷ []
    → map argument_of all ++ arguments_of (map type_of es) values ≡ r
    → map argument_of after ++ arguments_of (map type_of more) rest ≡ r
more_gathered all after a es more e values rest words r is of typed worded pushed before =
    ap (λ list. map argument_of list ++ arguments_of (map type_of more) rest) pushed
    ∙ ap (λ list. list ++ arguments_of (map type_of more) rest) (map-append argument_of all (a ∷ []))
    ∙ append_assoc (map argument_of all) (argument_of a ∷ []) (arguments_of (map type_of more) rest)
    ∙ ap₂ (λ (t : Ty) (ws : List ℕ). map argument_of all ++ (with_words t ws ∷ arguments_of (map type_of more) rest)) typed worded
    ∙ ap (λ (vs : List (List ℕ)). map argument_of all ++ arguments_of (map type_of (e ∷ more)) vs) (sym of)
    ∙ ap (λ (es : List TExpr). map argument_of all ++ arguments_of (map type_of es) values) (sym is)
    ∙ before

pub none_gathered : (all : List Argument) (ts : List Ty) (values : List (List ℕ)) (r : List item.Argument) → values ≡ []
    → map argument_of all ++ arguments_of ts values ≡ r → map argument_of all ≡ r
none_gathered all ts values r is before =
    sym (append-nil (map argument_of all)) ∙ ap (λ list. map argument_of all ++ list) (sym (no_values ts)) ∙ ap (λ vs. map argument_of all ++ arguments_of ts vs) (sym is) ∙ before

pub all_gathered : (all : List Argument) (es : List TExpr) (values : List (List ℕ)) (r : List item.Argument) → length es ≡ 0
    → map argument_of all ++ arguments_of (map type_of es) values ≡ r → map argument_of all ≡ r
all_gathered all [] values r none before = sym (append-nil (map argument_of all)) ∙ before
all_gathered all (e ∷ es) values r none before = absurd (omega arith)
