-- What the pieces of each kind of statement add to running sums.
use Rattle.std.proofs.Common.{◌≡◌, ℕ, List, [], ◌∷◌, ◌++◌, false, Option, Some, None, refl, ap, ◌∙◌}
use Rattle.std.specs.List.{flat_map}
use Rattle.al_typed.specs.declared.tally.Tally.{Tally}
use Rattle.al_typed.specs.declared.piece.Piece.TheVariants as piece
use Rattle.al_typed.specs.declared.program.Program.{Program}
use Rattle.al_typed.specs.declared.expression.TExpr.{TExpr}
use Rattle.al_typed.specs.declared.expression.TPlace.{TPlace}
use Rattle.al_typed.specs.declared.statement.TBounds.{TBounds}
use Rattle.al_typed.specs.declared.statement.TInitializer.{TInitializer}
use Rattle.al_typed.specs.declared.statement.TCommunication.{TCommunication}
use Rattle.al_typed.specs.declared.statement.TStmt.{TStmt, Row_of-TStmt, end_of-TStmt, more_of-TStmt, items-the_row-TStmt, items_hidden-the_row-TStmt-0}
use Rattle.al_typed.specs.declared.statement.TStmt.TheBlock.{hidden-the_row-TStmt-1, hidden-the_row-TStmt-0}
use Rattle.al_typed.specs.declared.statement.TStmt.TheVariants as stmt
use denote.Hole.Carrier.{hidden}
use Rattle.al_typed.specs.Measures.{pieces, place_pieces, whole_pieces, optional_pieces, bounds_pieces, initializer_pieces, start_pieces, branch_pieces, communication_pieces, statement_pieces, other_pieces, body_pieces, else_pieces, counted, tallied}
use Rattle.al_typed.proofs.Tallies.{tallied-append}

body_items : {m : _} (row : Row_of-TStmt m) → body_pieces row ≡ flat_map statement_pieces (items-the_row-TStmt m row)
unfolding body_pieces
body_items end_of-TStmt = refl
body_items (more_of-TStmt a rest) = ap (λ l. statement_pieces a ++ l) (body_items rest)

pub body_is : (xs : List TStmt) → body_pieces (hidden-the_row-TStmt-0 xs) ≡ flat_map statement_pieces xs
body_is xs = body_items (hidden-the_row-TStmt-0 xs) ∙ ap (flat_map statement_pieces) (items_hidden-the_row-TStmt-0 xs)

-- ---- one equation for each variant

pub tallied-Empty : (p : Program) (s : Tally) (line : ℕ) →
    tallied p s (statement_pieces (stmt.Empty line))
    ≡ counted p s piece.Statement
unfolding tallied statement_pieces hidden-the_row-TStmt-1 hidden
tallied-Empty p s line = refl

pub tallied-Block : (p : Program) (s : Tally) (line : ℕ) (xs : List TStmt) →
    tallied p s (statement_pieces (stmt.Block line xs))
    ≡ tallied p (counted p s piece.Statement) (flat_map statement_pieces xs)
unfolding tallied statement_pieces hidden-the_row-TStmt-1 hidden
tallied-Block p s line xs = ap (λ l. tallied p (counted p s piece.Statement) l) (body_is xs)

pub tallied-Declare : (p : Program) (s : Tally) (line : ℕ) (xs : List TInitializer) →
    tallied p s (statement_pieces (stmt.Declare line xs))
    ≡ tallied p (counted p s piece.Declaration) (flat_map initializer_pieces xs)
unfolding tallied statement_pieces hidden-the_row-TStmt-1 hidden
tallied-Declare p s line xs = refl

pub tallied-Value : (p : Program) (s : Tally) (line : ℕ) (xs : List TBounds) (a : TExpr) →
    tallied p s (statement_pieces (stmt.Value line xs a))
    ≡ tallied p (tallied p (counted p s piece.Statement) (flat_map bounds_pieces xs)) (pieces false a)
unfolding tallied statement_pieces hidden-the_row-TStmt-1 hidden
tallied-Value p s line xs a = tallied-append p s (piece.Statement ∷ (flat_map bounds_pieces xs)) (pieces false a)

pub tallied-Label : (p : Program) (s : Tally) (line : ℕ) (number : ℕ) (b : TStmt) →
    tallied p s (statement_pieces (stmt.Label line number b))
    ≡ tallied p (counted p s piece.Statement) (statement_pieces b)
unfolding tallied statement_pieces hidden-the_row-TStmt-1 hidden
tallied-Label p s line number b = refl

pub tallied-While : (p : Program) (s : Tally) (line : ℕ) (a : TExpr) (b : TStmt) →
    tallied p s (statement_pieces (stmt.While line a b))
    ≡ tallied p (tallied p (counted p s piece.Statement) (pieces false a)) (statement_pieces b)
unfolding tallied statement_pieces hidden-the_row-TStmt-1 hidden
tallied-While p s line a b = tallied-append p s (piece.Statement ∷ (pieces false a)) (statement_pieces b)

pub tallied-Do : (p : Program) (s : Tally) (line : ℕ) (b : TStmt) (a : TExpr) →
    tallied p s (statement_pieces (stmt.Do line b a))
    ≡ tallied p (tallied p (counted p s piece.Statement) (statement_pieces b)) (pieces false a)
unfolding tallied statement_pieces hidden-the_row-TStmt-1 hidden
tallied-Do p s line b a = tallied-append p s (piece.Statement ∷ (statement_pieces b)) (pieces false a)

pub tallied-For : (p : Program) (s : Tally) (line : ℕ) (x : Option TExpr) (y : Option TExpr) (z : Option TExpr) (b : TStmt) →
    tallied p s (statement_pieces (stmt.For line x y z b))
    ≡ tallied p (tallied p (tallied p (tallied p (counted p s piece.Statement) (optional_pieces x)) (optional_pieces y)) (optional_pieces z)) (statement_pieces b)
unfolding tallied statement_pieces hidden-the_row-TStmt-1 hidden
tallied-For p s line x y z b = tallied-append p s (piece.Statement ∷ (optional_pieces x) ++ (optional_pieces y) ++ (optional_pieces z)) (statement_pieces b) ∙ ap (λ u. tallied p u (statement_pieces b)) (tallied-append p s (piece.Statement ∷ (optional_pieces x) ++ (optional_pieces y)) (optional_pieces z)) ∙ ap (λ u. tallied p (tallied p u (optional_pieces z)) (statement_pieces b)) (tallied-append p s (piece.Statement ∷ (optional_pieces x)) (optional_pieces y))

pub tallied-Switch : (p : Program) (s : Tally) (line : ℕ) (a : TExpr) (xs : List TStmt) →
    tallied p s (statement_pieces (stmt.Switch line a xs))
    ≡ tallied p (tallied p (counted p s piece.Statement) (pieces false a)) (flat_map statement_pieces xs)
unfolding tallied statement_pieces hidden-the_row-TStmt-1 hidden
tallied-Switch p s line a xs = tallied-append p s (piece.Statement ∷ (pieces false a)) (body_pieces (hidden-the_row-TStmt-0 xs)) ∙ ap (λ l. tallied p (tallied p (counted p s piece.Statement) (pieces false a)) l) (body_is xs)

pub tallied-Case : (p : Program) (s : Tally) (a : TExpr) (bits : ℕ) →
    tallied p s (statement_pieces (stmt.Case a bits))
    ≡ tallied p s (pieces false a)
unfolding tallied statement_pieces hidden-the_row-TStmt-1 hidden
tallied-Case p s a bits = refl

pub tallied-Default : (p : Program) (s : Tally) →
    tallied p s (statement_pieces stmt.Default)
    ≡ s
unfolding tallied statement_pieces hidden-the_row-TStmt-1 hidden
tallied-Default p s = refl

pub tallied-Alt : (p : Program) (s : Tally) (line : ℕ) (xs : List TStmt) →
    tallied p s (statement_pieces (stmt.Alt line xs))
    ≡ tallied p (counted p s piece.Statement) (flat_map statement_pieces xs)
unfolding tallied statement_pieces hidden-the_row-TStmt-1 hidden
tallied-Alt p s line xs = ap (λ l. tallied p (counted p s piece.Statement) l) (body_is xs)

pub tallied-AltCase : (p : Program) (s : Tally) (x : TCommunication) →
    tallied p s (statement_pieces (stmt.AltCase x))
    ≡ tallied p s (communication_pieces x)
unfolding tallied statement_pieces hidden-the_row-TStmt-1 hidden
tallied-AltCase p s x = refl

pub tallied-Par : (p : Program) (s : Tally) (line : ℕ) (xs : List ℕ) →
    tallied p s (statement_pieces (stmt.Par line xs))
    ≡ tallied p (counted p s piece.Statement) (flat_map branch_pieces xs)
unfolding tallied statement_pieces hidden-the_row-TStmt-1 hidden
tallied-Par p s line xs = refl

pub tallied-Rescue : (p : Program) (s : Tally) (line : ℕ) (number : ℕ) (b : TStmt) →
    tallied p s (statement_pieces (stmt.Rescue line number b))
    ≡ tallied p (counted p s piece.Statement) (statement_pieces b)
unfolding tallied statement_pieces hidden-the_row-TStmt-1 hidden
tallied-Rescue p s line number b = refl

pub tallied-Raise : (p : Program) (s : Tally) (line : ℕ) (to : ℕ) →
    tallied p s (statement_pieces (stmt.Raise line to))
    ≡ counted p s piece.Statement
unfolding tallied statement_pieces hidden-the_row-TStmt-1 hidden
tallied-Raise p s line to = refl

pub tallied-Goto : (p : Program) (s : Tally) (line : ℕ) (to : ℕ) →
    tallied p s (statement_pieces (stmt.Goto line to))
    ≡ counted p s piece.Statement
unfolding tallied statement_pieces hidden-the_row-TStmt-1 hidden
tallied-Goto p s line to = refl

pub tallied-Return : (p : Program) (s : Tally) (line : ℕ) (x : Option TExpr) →
    tallied p s (statement_pieces (stmt.Return line x))
    ≡ tallied p (counted p s piece.Statement) (optional_pieces x)
unfolding tallied statement_pieces hidden-the_row-TStmt-1 hidden
tallied-Return p s line x = refl

pub tallied-Become : (p : Program) (s : Tally) (line : ℕ) (a : TExpr) →
    tallied p s (statement_pieces (stmt.Become line a))
    ≡ tallied p (counted p s piece.Statement) (pieces false a)
unfolding tallied statement_pieces hidden-the_row-TStmt-1 hidden
tallied-Become p s line a = refl

pub tallied-Break : (p : Program) (s : Tally) (line : ℕ) (levels : ℕ) →
    tallied p s (statement_pieces (stmt.Break line levels))
    ≡ counted p s piece.Statement
unfolding tallied statement_pieces hidden-the_row-TStmt-1 hidden
tallied-Break p s line levels = refl

pub tallied-Continue : (p : Program) (s : Tally) (line : ℕ) (levels : ℕ) →
    tallied p s (statement_pieces (stmt.Continue line levels))
    ≡ counted p s piece.Statement
unfolding tallied statement_pieces hidden-the_row-TStmt-1 hidden
tallied-Continue p s line levels = refl

pub tallied-Alloc : (p : Program) (s : Tally) (line : ℕ) (xs : List TPlace) →
    tallied p s (statement_pieces (stmt.Alloc line xs))
    ≡ tallied p (counted p s piece.Statement) (flat_map (place_pieces false) xs)
unfolding tallied statement_pieces hidden-the_row-TStmt-1 hidden
tallied-Alloc p s line xs = refl

pub tallied-Unalloc : (p : Program) (s : Tally) (line : ℕ) (xs : List TExpr) →
    tallied p s (statement_pieces (stmt.Unalloc line xs))
    ≡ tallied p (counted p s piece.Statement) (flat_map whole_pieces xs)
unfolding tallied statement_pieces hidden-the_row-TStmt-1 hidden
tallied-Unalloc p s line xs = refl

pub tallied-Check : (p : Program) (s : Tally) (line : ℕ) (a : TExpr) →
    tallied p s (statement_pieces (stmt.Check line a))
    ≡ tallied p (counted p s piece.Statement) (pieces false a)
unfolding tallied statement_pieces hidden-the_row-TStmt-1 hidden
tallied-Check p s line a = refl

pub tallied-Proc : (p : Program) (s : Tally) (line : ℕ) (xs : List TExpr) →
    tallied p s (statement_pieces (stmt.Proc line xs))
    ≡ tallied p (counted p s piece.Statement) (flat_map start_pieces xs)
unfolding tallied statement_pieces hidden-the_row-TStmt-1 hidden
tallied-Proc p s line xs = refl

pub tallied-Task : (p : Program) (s : Tally) (line : ℕ) (xs : List TExpr) →
    tallied p s (statement_pieces (stmt.Task line xs))
    ≡ tallied p (counted p s piece.Statement) (flat_map start_pieces xs)
unfolding tallied statement_pieces hidden-the_row-TStmt-1 hidden
tallied-Task p s line xs = refl

pub tallied-If : (p : Program) (s : Tally) (line : ℕ) (a : TExpr) (b : TStmt) (other : Option TStmt) →
    tallied p s (statement_pieces (stmt.If line a b other))
    ≡ tallied p (tallied p (tallied p (counted p s piece.Statement) (pieces false a)) (statement_pieces b)) (else_pieces other)
unfolding tallied statement_pieces other_pieces hidden-the_row-TStmt-1 hidden
tallied-If p s line a b None =
    tallied-append p s (piece.Statement ∷ pieces false a ++ statement_pieces b) []
    ∙ ap (λ z. tallied p z []) (tallied-append p s (piece.Statement ∷ pieces false a) (statement_pieces b))
tallied-If p s line a b (Some c) =
    tallied-append p s (piece.Statement ∷ pieces false a ++ statement_pieces b) (statement_pieces c)
    ∙ ap (λ z. tallied p z (statement_pieces c)) (tallied-append p s (piece.Statement ∷ pieces false a) (statement_pieces b))

pub tallied-If-None : (p : Program) (s : Tally) (line : ℕ) (a : TExpr) (b : TStmt) →
    tallied p s (statement_pieces (stmt.If line a b None))
    ≡ tallied p (tallied p (counted p s piece.Statement) (pieces false a)) (statement_pieces b)
unfolding tallied
tallied-If-None p s line a b = tallied-If p s line a b None

pub tallied-If-Some : (p : Program) (s : Tally) (line : ℕ) (a : TExpr) (b c : TStmt) →
    tallied p s (statement_pieces (stmt.If line a b (Some c)))
    ≡ tallied p (tallied p (tallied p (counted p s piece.Statement) (pieces false a)) (statement_pieces b)) (statement_pieces c)
tallied-If-Some p s line a b c = tallied-If p s line a b (Some c)

pub ruleset statement_tallies = (tallied-Empty, tallied-Block, tallied-Declare, tallied-Value, tallied-Label, tallied-While, tallied-Do, tallied-For, tallied-Switch, tallied-Case, tallied-Default, tallied-Alt, tallied-AltCase, tallied-Par, tallied-Rescue, tallied-Raise, tallied-Goto, tallied-Return, tallied-Become, tallied-Break, tallied-Continue, tallied-Alloc, tallied-Unalloc, tallied-Check, tallied-Proc, tallied-Task, tallied-If-None, tallied-If-Some)
