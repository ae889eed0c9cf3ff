-- What the rules ask of each kind of statement.
use Rattle.std.proofs.Common.{◌≡◌, ℕ, ◌+◌, ◌≤◌, List, [], ◌∷◌, length, Option, Some, None, refl, ap, ◌∙◌}
use Rattle.std.proofs.Math.Path.{fun_ext}
use Rattle.std.specs.Prelude.{All, ⊤}
use Rattle.al_base.specs.declared.arith.Kind.{Kind}
use Rattle.al_typed.specs.declared.ty.Ty.TheVariants as ty
use Rattle.al_typed.specs.declared.expression.TExpr.{TExpr}
use Rattle.al_typed.specs.declared.expression.TPlace.{TPlace}
use Rattle.al_typed.specs.declared.statement.TBounds.{TBounds}
use Rattle.al_typed.specs.declared.statement.TInitializer.{TInitializer}
use Rattle.al_typed.specs.declared.statement.TCommunication.{TCommunication}
use Rattle.al_typed.specs.declared.statement.TStmt.{TStmt, Empty, Block', Declare, Value, Label', If', While', Do', For', Switch', Case, Default, Alt', AltCase, Par, Rescue', Raise, Goto, Return, Become, Break, Continue, Alloc, Unalloc, Check, Proc, Task, Row_of-TStmt, end_of-TStmt, more_of-TStmt, items-the_row-TStmt, items_hidden-the_row-TStmt-0}
use Rattle.al_typed.specs.declared.statement.TStmt.TheBlock.{hidden-the_row-TStmt-0, hidden-the_row-TStmt-1}
use Rattle.al_typed.specs.declared.statement.TStmt.TheVariants as stmt
use denote.Hole.Carrier.{hidden}
use Rattle.al_typed.specs.Types.{promoted}
use Rattle.al_typed.specs.Typed.{type_of}
use Rattle.al_typed.specs.WellTyped.{Allocates, AreBounds, AreBranches, AreRound, AreStatements, GivesBack, IsAltCase, IsCall, IsCase, IsCondition, IsDefault, IsInitializer, IsLabel, IsOptionalCondition, IsOptionalValue, IsOther, IsRescue, IsHandedOn, IsStatement, IsValue, Nest, Returns, Scope, alt_cases, alt_labels, in_cases, in_loop, inside, switch_labels}

abbrev pub EachStatement : Scope → Nest → List TStmt → Type 0
EachStatement s n [] = ⊤
EachStatement s n (a ∷ rest) = IsStatement s n a × EachStatement s n rest

-- what stands behind `else`
abbrev pub IsElse : Scope → Nest → Option TStmt → Type 0
IsElse s n None = ⊤
IsElse s n (Some other) = IsStatement s (inside n) other

-- how many cases the body of an alt has
abbrev pub cases_in : List TStmt → ℕ
cases_in [] = 0
cases_in (AltCase _ ∷ rest) = 1 + cases_in rest
cases_in (_ ∷ rest) = cases_in rest

statements_items : (s : Scope) (n : Nest) {m : _} (row : Row_of-TStmt m) → AreStatements s n row ≡ EachStatement s n (items-the_row-TStmt m row)
unfolding AreStatements
statements_items s n end_of-TStmt = refl
statements_items s n (more_of-TStmt a rest) = ap (λ (V : Type 0). IsStatement s n a × V) (statements_items s n rest)

pub statements_are : (s : Scope) (n : Nest) (xs : List TStmt) → AreStatements s n (hidden-the_row-TStmt-0 xs) ≡ EachStatement s n xs
statements_are s n xs = statements_items s n (hidden-the_row-TStmt-0 xs) ∙ ap (EachStatement s n) (items_hidden-the_row-TStmt-0 xs)

cases_items : {m : _} (row : Row_of-TStmt m) → alt_cases row ≡ cases_in (items-the_row-TStmt m row)
cases_items end_of-TStmt = refl
cases_items (more_of-TStmt (AltCase _) rest) = ap (λ k. 1 + k) (cases_items rest)
cases_items (more_of-TStmt (Empty _) rest) = cases_items rest
cases_items (more_of-TStmt (Block' _ _ _) rest) = cases_items rest
cases_items (more_of-TStmt (Declare _ _) rest) = cases_items rest
cases_items (more_of-TStmt (Value _ _ _) rest) = cases_items rest
cases_items (more_of-TStmt (Label' _ _ _ _) rest) = cases_items rest
cases_items (more_of-TStmt (If' _ _ _ _ _) rest) = cases_items rest
cases_items (more_of-TStmt (While' _ _ _ _) rest) = cases_items rest
cases_items (more_of-TStmt (Do' _ _ _ _) rest) = cases_items rest
cases_items (more_of-TStmt (For' _ _ _ _ _ _) rest) = cases_items rest
cases_items (more_of-TStmt (Switch' _ _ _ _) rest) = cases_items rest
cases_items (more_of-TStmt (Case _ _) rest) = cases_items rest
cases_items (more_of-TStmt Default rest) = cases_items rest
cases_items (more_of-TStmt (Alt' _ _ _) rest) = cases_items rest
cases_items (more_of-TStmt (Par _ _) rest) = cases_items rest
cases_items (more_of-TStmt (Rescue' _ _ _ _) rest) = cases_items rest
cases_items (more_of-TStmt (Raise _ _) rest) = cases_items rest
cases_items (more_of-TStmt (Goto _ _) rest) = cases_items rest
cases_items (more_of-TStmt (Return _ _) rest) = cases_items rest
cases_items (more_of-TStmt (Become _ _) rest) = cases_items rest
cases_items (more_of-TStmt (Break _ _) rest) = cases_items rest
cases_items (more_of-TStmt (Continue _ _) rest) = cases_items rest
cases_items (more_of-TStmt (Alloc _ _) rest) = cases_items rest
cases_items (more_of-TStmt (Unalloc _ _) rest) = cases_items rest
cases_items (more_of-TStmt (Check _ _) rest) = cases_items rest
cases_items (more_of-TStmt (Proc _ _) rest) = cases_items rest
cases_items (more_of-TStmt (Task _ _) rest) = cases_items rest

pub cases_are : (xs : List TStmt) → alt_cases (hidden-the_row-TStmt-0 xs) ≡ cases_in xs
cases_are xs = cases_items (hidden-the_row-TStmt-0 xs) ∙ ap cases_in (items_hidden-the_row-TStmt-0 xs)

-- ---- one equation for each variant

pub IsStatement-Empty : (s : Scope) (n : Nest) (line : ℕ) →
    IsStatement s n (stmt.Empty line)
    ≡ (⊤)
unfolding IsStatement hidden-the_row-TStmt-1 hidden
IsStatement-Empty s n line = refl

pub IsStatement-Declare : (s : Scope) (n : Nest) (line : ℕ) (xs : List TInitializer) →
    IsStatement s n (stmt.Declare line xs)
    ≡ (All (IsInitializer s) xs)
unfolding IsStatement hidden-the_row-TStmt-1 hidden
IsStatement-Declare s n line xs = refl

pub IsStatement-Value : (s : Scope) (n : Nest) (line : ℕ) (xs : List TBounds) (a : TExpr) →
    IsStatement s n (stmt.Value line xs a)
    ≡ (All (AreBounds s) xs × IsValue (record s { iterators = length xs }) a)
unfolding IsStatement hidden-the_row-TStmt-1 hidden
IsStatement-Value s n line xs a = refl

pub IsStatement-Label : (s : Scope) (n : Nest) (line : ℕ) (number : ℕ) (b : TStmt) →
    IsStatement s n (stmt.Label line number b)
    ≡ (IsStatement s (inside n) b)
unfolding IsStatement hidden-the_row-TStmt-1 hidden
IsStatement-Label s n line number b = refl

pub IsStatement-While : (s : Scope) (n : Nest) (line : ℕ) (a : TExpr) (b : TStmt) →
    IsStatement s n (stmt.While line a b)
    ≡ (IsCondition s a × IsStatement s (in_loop n) b)
unfolding IsStatement hidden-the_row-TStmt-1 hidden
IsStatement-While s n line a b = refl

pub IsStatement-Do : (s : Scope) (n : Nest) (line : ℕ) (b : TStmt) (a : TExpr) →
    IsStatement s n (stmt.Do line b a)
    ≡ (IsStatement s (in_loop n) b × IsCondition s a)
unfolding IsStatement hidden-the_row-TStmt-1 hidden
IsStatement-Do s n line b a = refl

pub IsStatement-For : (s : Scope) (n : Nest) (line : ℕ) (x : Option TExpr) (y : Option TExpr) (z : Option TExpr) (b : TStmt) →
    IsStatement s n (stmt.For line x y z b)
    ≡ (IsOptionalValue s x × (IsOptionalCondition s y × (IsOptionalValue s z × IsStatement s (in_loop n) b)))
unfolding IsStatement hidden-the_row-TStmt-1 hidden
IsStatement-For s n line x y z b = refl

pub IsStatement-Case : (s : Scope) (n : Nest) (a : TExpr) (bits : ℕ) →
    IsStatement s n (stmt.Case a bits)
    ≡ (IsCase n.labels s a bits)
unfolding IsStatement hidden-the_row-TStmt-1 hidden
IsStatement-Case s n a bits = refl

pub IsStatement-Default : (s : Scope) (n : Nest) →
    IsStatement s n stmt.Default
    ≡ (IsDefault n.labels)
unfolding IsStatement hidden-the_row-TStmt-1 hidden
IsStatement-Default s n = refl

pub IsStatement-AltCase : (s : Scope) (n : Nest) (x : TCommunication) →
    IsStatement s n (stmt.AltCase x)
    ≡ (IsAltCase n.labels s x)
unfolding IsStatement hidden-the_row-TStmt-1 hidden
IsStatement-AltCase s n x = refl

pub IsStatement-Par : (s : Scope) (n : Nest) (line : ℕ) (xs : List ℕ) →
    IsStatement s n (stmt.Par line xs)
    ≡ (AreBranches s.names n.number xs)
unfolding IsStatement hidden-the_row-TStmt-1 hidden
IsStatement-Par s n line xs = refl

pub IsStatement-Rescue : (s : Scope) (n : Nest) (line : ℕ) (number : ℕ) (b : TStmt) →
    IsStatement s n (stmt.Rescue line number b)
    ≡ (IsStatement s (inside n) b)
unfolding IsStatement hidden-the_row-TStmt-1 hidden
IsStatement-Rescue s n line number b = refl

pub IsStatement-Raise : (s : Scope) (n : Nest) (line : ℕ) (to : ℕ) →
    IsStatement s n (stmt.Raise line to)
    ≡ (IsRescue s.names to)
unfolding IsStatement hidden-the_row-TStmt-1 hidden
IsStatement-Raise s n line to = refl

pub IsStatement-Goto : (s : Scope) (n : Nest) (line : ℕ) (to : ℕ) →
    IsStatement s n (stmt.Goto line to)
    ≡ (IsLabel s.names to)
unfolding IsStatement hidden-the_row-TStmt-1 hidden
IsStatement-Goto s n line to = refl

pub IsStatement-Return : (s : Scope) (n : Nest) (line : ℕ) (x : Option TExpr) →
    IsStatement s n (stmt.Return line x)
    ≡ (Returns s x)
unfolding IsStatement hidden-the_row-TStmt-1 hidden
IsStatement-Return s n line x = refl

pub IsStatement-Become : (s : Scope) (n : Nest) (line : ℕ) (a : TExpr) →
    IsStatement s n (stmt.Become line a)
    ≡ (IsCall s a × IsHandedOn s.names (type_of a))
unfolding IsStatement hidden-the_row-TStmt-1 hidden
IsStatement-Become s n line a = refl

pub IsStatement-Break : (s : Scope) (n : Nest) (line : ℕ) (levels : ℕ) →
    IsStatement s n (stmt.Break line levels)
    ≡ (AreRound s.names levels n.breaks)
unfolding IsStatement hidden-the_row-TStmt-1 hidden
IsStatement-Break s n line levels = refl

pub IsStatement-Continue : (s : Scope) (n : Nest) (line : ℕ) (levels : ℕ) →
    IsStatement s n (stmt.Continue line levels)
    ≡ (AreRound s.names levels n.loops)
unfolding IsStatement hidden-the_row-TStmt-1 hidden
IsStatement-Continue s n line levels = refl

pub IsStatement-Alloc : (s : Scope) (n : Nest) (line : ℕ) (xs : List TPlace) →
    IsStatement s n (stmt.Alloc line xs)
    ≡ (All (Allocates s) xs)
unfolding IsStatement hidden-the_row-TStmt-1 hidden
IsStatement-Alloc s n line xs = refl

pub IsStatement-Unalloc : (s : Scope) (n : Nest) (line : ℕ) (xs : List TExpr) →
    IsStatement s n (stmt.Unalloc line xs)
    ≡ (All (GivesBack s) xs)
unfolding IsStatement hidden-the_row-TStmt-1 hidden
IsStatement-Unalloc s n line xs = refl

pub IsStatement-Check : (s : Scope) (n : Nest) (line : ℕ) (a : TExpr) →
    IsStatement s n (stmt.Check line a)
    ≡ (IsCondition s a)
unfolding IsStatement hidden-the_row-TStmt-1 hidden
IsStatement-Check s n line a = refl

pub IsStatement-Proc : (s : Scope) (n : Nest) (line : ℕ) (xs : List TExpr) →
    IsStatement s n (stmt.Proc line xs)
    ≡ (All (IsCall s) xs)
unfolding IsStatement hidden-the_row-TStmt-1 hidden
IsStatement-Proc s n line xs = refl

pub IsStatement-Task : (s : Scope) (n : Nest) (line : ℕ) (xs : List TExpr) →
    IsStatement s n (stmt.Task line xs)
    ≡ (All (IsCall s) xs)
unfolding IsStatement hidden-the_row-TStmt-1 hidden
IsStatement-Task s n line xs = refl

pub IsStatement-Block : (s : Scope) (n : Nest) (line : ℕ) (xs : List TStmt) →
    IsStatement s n (stmt.Block line xs)
    ≡ (EachStatement s (inside n) xs)
unfolding IsStatement hidden-the_row-TStmt-1 hidden
IsStatement-Block s n line xs = statements_are s (inside n) xs

pub IsStatement-Switch : (s : Scope) (n : Nest) (line : ℕ) (a : TExpr) (xs : List TStmt) →
    IsStatement s n (stmt.Switch line a xs)
    ≡ (IsValue s a × ((k : Kind) × ((type_of a ≡ ty.Integer k) × ((promoted k ≡ k) × EachStatement s (in_cases (switch_labels k) n) xs))))
unfolding IsStatement hidden-the_row-TStmt-1 hidden
IsStatement-Switch s n line a xs =
    ap (λ (V : Kind → Type 0). IsValue s a × ((k : Kind) × ((type_of a ≡ ty.Integer k) × ((promoted k ≡ k) × V k)))) (fun_ext (λ k. statements_are s (in_cases (switch_labels k) n) xs))

pub IsStatement-Alt : (s : Scope) (n : Nest) (line : ℕ) (xs : List TStmt) →
    IsStatement s n (stmt.Alt line xs)
    ≡ ((1 ≤ cases_in xs) × ((cases_in xs ≤ 64) × EachStatement s (in_cases alt_labels n) xs))
unfolding IsStatement hidden-the_row-TStmt-1 hidden
IsStatement-Alt s n line xs =
    ap (λ (V : Type 0). (1 ≤ alt_cases (hidden-the_row-TStmt-0 xs)) × ((alt_cases (hidden-the_row-TStmt-0 xs) ≤ 64) × V)) (statements_are s (in_cases alt_labels n) xs)
    ∙ ap (λ (k : ℕ). (1 ≤ k) × ((k ≤ 64) × EachStatement s (in_cases alt_labels n) xs)) (cases_are xs)

pub IsStatement-If : (s : Scope) (n : Nest) (line : ℕ) (a : TExpr) (b : TStmt) (other : Option TStmt) →
    IsStatement s n (stmt.If line a b other)
    ≡ (IsCondition s a × (IsStatement s (inside n) b × IsElse s n other))
unfolding IsStatement IsOther hidden-the_row-TStmt-1 hidden
IsStatement-If s n line a b None = refl
IsStatement-If s n line a b (Some c) = refl

pub ruleset statement_rules = (IsStatement-Empty, IsStatement-Declare, IsStatement-Value, IsStatement-Label, IsStatement-While, IsStatement-Do, IsStatement-For, IsStatement-Case, IsStatement-Default, IsStatement-AltCase, IsStatement-Par, IsStatement-Rescue, IsStatement-Raise, IsStatement-Goto, IsStatement-Return, IsStatement-Become, IsStatement-Break, IsStatement-Continue, IsStatement-Alloc, IsStatement-Unalloc, IsStatement-Check, IsStatement-Proc, IsStatement-Task, IsStatement-Block, IsStatement-Switch, IsStatement-Alt, IsStatement-If)
