-- The line of each kind of statement.
use Rattle.std.proofs.Common.{◌≡◌, ℕ, List, Option, refl}
use Rattle.al_typed.specs.declared.expression.TExpr.{TExpr}
use Rattle.al_typed.specs.declared.expression.TPlace.{TPlace}
use Rattle.al_typed.specs.declared.statement.TBounds.{TBounds}
use Rattle.al_typed.specs.declared.statement.TInitializer.{TInitializer}
use Rattle.al_typed.specs.declared.statement.TCommunication.{TCommunication}
use Rattle.al_typed.specs.declared.statement.TStmt.{TStmt}
use Rattle.al_typed.specs.declared.statement.TStmt.TheVariants as stmt
use Rattle.al_typed.specs.declared.statement.TStmt.TheBlock.{hidden-the_row-TStmt-0, hidden-the_row-TStmt-1}
use denote.Hole.Carrier.{hidden}
use Rattle.al_meaning.specs.Parts.{line_of}

pub line-Empty : (line : ℕ) → line_of (stmt.Empty line) ≡ line
unfolding hidden-the_row-TStmt-0 hidden-the_row-TStmt-1 hidden
line-Empty line = refl

pub line-Block : (line : ℕ) (body : List TStmt) → line_of (stmt.Block line body) ≡ line
unfolding hidden-the_row-TStmt-0 hidden-the_row-TStmt-1 hidden
line-Block line body = refl

pub line-Declare : (line : ℕ) (initializers : List TInitializer) → line_of (stmt.Declare line initializers) ≡ line
unfolding hidden-the_row-TStmt-0 hidden-the_row-TStmt-1 hidden
line-Declare line initializers = refl

pub line-Value : (line : ℕ) (iterators : List TBounds) (value : TExpr) → line_of (stmt.Value line iterators value) ≡ line
unfolding hidden-the_row-TStmt-0 hidden-the_row-TStmt-1 hidden
line-Value line iterators value = refl

pub line-Label : (line : ℕ) (number : ℕ) (body : TStmt) → line_of (stmt.Label line number body) ≡ line
unfolding hidden-the_row-TStmt-0 hidden-the_row-TStmt-1 hidden
line-Label line number body = refl

pub line-If : (line : ℕ) (condition : TExpr) (then : TStmt) (other : Option TStmt) → line_of (stmt.If line condition then other) ≡ line
unfolding hidden-the_row-TStmt-0 hidden-the_row-TStmt-1 hidden
line-If line condition then other = refl

pub line-While : (line : ℕ) (condition : TExpr) (body : TStmt) → line_of (stmt.While line condition body) ≡ line
unfolding hidden-the_row-TStmt-0 hidden-the_row-TStmt-1 hidden
line-While line condition body = refl

pub line-Do : (line : ℕ) (body : TStmt) (condition : TExpr) → line_of (stmt.Do line body condition) ≡ line
unfolding hidden-the_row-TStmt-0 hidden-the_row-TStmt-1 hidden
line-Do line body condition = refl

pub line-For : (line : ℕ) (start : Option TExpr) (condition : Option TExpr) (step : Option TExpr) (body : TStmt) → line_of (stmt.For line start condition step body) ≡ line
unfolding hidden-the_row-TStmt-0 hidden-the_row-TStmt-1 hidden
line-For line start condition step body = refl

pub line-Switch : (line : ℕ) (value : TExpr) (body : List TStmt) → line_of (stmt.Switch line value body) ≡ line
unfolding hidden-the_row-TStmt-0 hidden-the_row-TStmt-1 hidden
line-Switch line value body = refl

pub line-Case : (label : TExpr) (bits : ℕ) → line_of (stmt.Case label bits) ≡ 0
unfolding hidden-the_row-TStmt-0 hidden-the_row-TStmt-1 hidden
line-Case label bits = refl

pub line-Default : line_of stmt.Default ≡ 0
line-Default = refl

pub line-Alt : (line : ℕ) (body : List TStmt) → line_of (stmt.Alt line body) ≡ line
unfolding hidden-the_row-TStmt-0 hidden-the_row-TStmt-1 hidden
line-Alt line body = refl

pub line-AltCase : (communication : TCommunication) → line_of (stmt.AltCase communication) ≡ 0
unfolding hidden-the_row-TStmt-0 hidden-the_row-TStmt-1 hidden
line-AltCase communication = refl

pub line-Par : (line : ℕ) (branches : List ℕ) → line_of (stmt.Par line branches) ≡ line
unfolding hidden-the_row-TStmt-0 hidden-the_row-TStmt-1 hidden
line-Par line branches = refl

pub line-Rescue : (line : ℕ) (number : ℕ) (body : TStmt) → line_of (stmt.Rescue line number body) ≡ line
unfolding hidden-the_row-TStmt-0 hidden-the_row-TStmt-1 hidden
line-Rescue line number body = refl

pub line-Raise : (line : ℕ) (rescue : ℕ) → line_of (stmt.Raise line rescue) ≡ line
unfolding hidden-the_row-TStmt-0 hidden-the_row-TStmt-1 hidden
line-Raise line rescue = refl

pub line-Goto : (line : ℕ) (label : ℕ) → line_of (stmt.Goto line label) ≡ line
unfolding hidden-the_row-TStmt-0 hidden-the_row-TStmt-1 hidden
line-Goto line label = refl

pub line-Return : (line : ℕ) (value : Option TExpr) → line_of (stmt.Return line value) ≡ line
unfolding hidden-the_row-TStmt-0 hidden-the_row-TStmt-1 hidden
line-Return line value = refl

pub line-Become : (line : ℕ) (call : TExpr) → line_of (stmt.Become line call) ≡ line
unfolding hidden-the_row-TStmt-0 hidden-the_row-TStmt-1 hidden
line-Become line call = refl

pub line-Break : (line : ℕ) (levels : ℕ) → line_of (stmt.Break line levels) ≡ line
unfolding hidden-the_row-TStmt-0 hidden-the_row-TStmt-1 hidden
line-Break line levels = refl

pub line-Continue : (line : ℕ) (levels : ℕ) → line_of (stmt.Continue line levels) ≡ line
unfolding hidden-the_row-TStmt-0 hidden-the_row-TStmt-1 hidden
line-Continue line levels = refl

pub line-Alloc : (line : ℕ) (places : List TPlace) → line_of (stmt.Alloc line places) ≡ line
unfolding hidden-the_row-TStmt-0 hidden-the_row-TStmt-1 hidden
line-Alloc line places = refl

pub line-Unalloc : (line : ℕ) (values : List TExpr) → line_of (stmt.Unalloc line values) ≡ line
unfolding hidden-the_row-TStmt-0 hidden-the_row-TStmt-1 hidden
line-Unalloc line values = refl

pub line-Check : (line : ℕ) (value : TExpr) → line_of (stmt.Check line value) ≡ line
unfolding hidden-the_row-TStmt-0 hidden-the_row-TStmt-1 hidden
line-Check line value = refl

pub line-Proc : (line : ℕ) (calls : List TExpr) → line_of (stmt.Proc line calls) ≡ line
unfolding hidden-the_row-TStmt-0 hidden-the_row-TStmt-1 hidden
line-Proc line calls = refl

pub line-Task : (line : ℕ) (calls : List TExpr) → line_of (stmt.Task line calls) ≡ line
unfolding hidden-the_row-TStmt-0 hidden-the_row-TStmt-1 hidden
line-Task line calls = refl

pub ruleset lines = (line-Empty, line-Block, line-Declare, line-Value, line-Label, line-If, line-While, line-Do, line-For, line-Switch, line-Case, line-Default, line-Alt, line-AltCase, line-Par, line-Rescue, line-Raise, line-Goto, line-Return, line-Become, line-Break, line-Continue, line-Alloc, line-Unalloc, line-Check, line-Proc, line-Task)
