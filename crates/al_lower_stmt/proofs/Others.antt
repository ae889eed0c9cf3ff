-- Statements that have no statement in them, and are no jump.
use Rattle.std.proofs.Common.{◌≡◌, ℕ, List, Option, None, length, refl, sym, ◌∙◌, subst}
use Rattle.al_typed.specs.declared.expression.TExpr.{TExpr}
use Rattle.al_typed.specs.declared.statement.TBounds.{TBounds}
use Rattle.al_typed.specs.declared.statement.TStmt.{TStmt}
use Rattle.al_typed.specs.declared.statement.TStmt.TheOpen as open_form
use Rattle.al_typed.specs.declared.statement.TStmt.TheOpen.{TStmt-F}
use Rattle.al_typed.specs.declared.statement.TStmt.TheViews.{out-TStmt, roll-TStmt, roll-out-TStmt}
use Rattle.al_typed.specs.declared.statement.TStmt.TheVariants as stmt
use Rattle.al_lower_code.specs.Homes.{Spot}
use Rattle.al_lower_code.specs.Simple.{simple_code}
use Rattle.al_lower_code.specs.Statements.{Targets, stmt_size, stmt_code, place_of}

size-other_at : (s : Spot) (f : TStmt-F TStmt)
    → ((line : ℕ) (body : List TStmt) → roll-TStmt f ≡ stmt.Block line body → ⊥)
    → ((line : ℕ) (bs : List TBounds) (e : TExpr) → roll-TStmt f ≡ stmt.Value line bs e → ⊥)
    → ((line number : ℕ) (body : TStmt) → roll-TStmt f ≡ stmt.Label line number body → ⊥)
    → ((line : ℕ) (test : TExpr) (chosen : TStmt) (other : Option TStmt) → roll-TStmt f ≡ stmt.If line test chosen other → ⊥)
    → ((line : ℕ) (test : TExpr) (body : TStmt) → roll-TStmt f ≡ stmt.While line test body → ⊥)
    → ((line : ℕ) (body : TStmt) (test : TExpr) → roll-TStmt f ≡ stmt.Do line body test → ⊥)
    → ((line : ℕ) (start test step : Option TExpr) (body : TStmt) → roll-TStmt f ≡ stmt.For line start test step body → ⊥)
    → ((line : ℕ) (e : TExpr) (body : List TStmt) → roll-TStmt f ≡ stmt.Switch line e body → ⊥)
    → ((line : ℕ) (body : List TStmt) → roll-TStmt f ≡ stmt.Alt line body → ⊥)
    → ((line number : ℕ) (body : TStmt) → roll-TStmt f ≡ stmt.Rescue line number body → ⊥)
    → ((line rescue : ℕ) → roll-TStmt f ≡ stmt.Raise line rescue → ⊥)
    → ((line label : ℕ) → roll-TStmt f ≡ stmt.Goto line label → ⊥)
    → ((line levels : ℕ) → roll-TStmt f ≡ stmt.Break line levels → ⊥)
    → ((line levels : ℕ) → roll-TStmt f ≡ stmt.Continue line levels → ⊥)
    → stmt_size s (roll-TStmt f) ≡ length (simple_code s (roll-TStmt f))
size-other_at s (open_form.Block line body) n0 n1 n2 n3 n4 n5 n6 n7 n8 n9 n10 n11 n12 n13 = absurd (n0 line body (stmt.rolls-Block line body))
size-other_at s (open_form.Value line bs e) n0 n1 n2 n3 n4 n5 n6 n7 n8 n9 n10 n11 n12 n13 = absurd (n1 line bs e (stmt.rolls-Value line bs e))
size-other_at s (open_form.Label line number body) n0 n1 n2 n3 n4 n5 n6 n7 n8 n9 n10 n11 n12 n13 = absurd (n2 line number body (stmt.rolls-Label line number body))
size-other_at s (open_form.If line test chosen other) n0 n1 n2 n3 n4 n5 n6 n7 n8 n9 n10 n11 n12 n13 = absurd (n3 line test chosen other (stmt.rolls-If line test chosen other))
size-other_at s (open_form.While line test body) n0 n1 n2 n3 n4 n5 n6 n7 n8 n9 n10 n11 n12 n13 = absurd (n4 line test body (stmt.rolls-While line test body))
size-other_at s (open_form.Do line body test) n0 n1 n2 n3 n4 n5 n6 n7 n8 n9 n10 n11 n12 n13 = absurd (n5 line body test (stmt.rolls-Do line body test))
size-other_at s (open_form.For line start test step body) n0 n1 n2 n3 n4 n5 n6 n7 n8 n9 n10 n11 n12 n13 = absurd (n6 line start test step body (stmt.rolls-For line start test step body))
size-other_at s (open_form.Switch line e body) n0 n1 n2 n3 n4 n5 n6 n7 n8 n9 n10 n11 n12 n13 = absurd (n7 line e body (stmt.rolls-Switch line e body))
size-other_at s (open_form.Alt line body) n0 n1 n2 n3 n4 n5 n6 n7 n8 n9 n10 n11 n12 n13 = absurd (n8 line body (stmt.rolls-Alt line body))
size-other_at s (open_form.Rescue line number body) n0 n1 n2 n3 n4 n5 n6 n7 n8 n9 n10 n11 n12 n13 = absurd (n9 line number body (stmt.rolls-Rescue line number body))
size-other_at s (open_form.Raise line rescue) n0 n1 n2 n3 n4 n5 n6 n7 n8 n9 n10 n11 n12 n13 = absurd (n10 line rescue (stmt.rolls-Raise line rescue))
size-other_at s (open_form.Goto line label) n0 n1 n2 n3 n4 n5 n6 n7 n8 n9 n10 n11 n12 n13 = absurd (n11 line label (stmt.rolls-Goto line label))
size-other_at s (open_form.Break line levels) n0 n1 n2 n3 n4 n5 n6 n7 n8 n9 n10 n11 n12 n13 = absurd (n12 line levels (stmt.rolls-Break line levels))
size-other_at s (open_form.Continue line levels) n0 n1 n2 n3 n4 n5 n6 n7 n8 n9 n10 n11 n12 n13 = absurd (n13 line levels (stmt.rolls-Continue line levels))
size-other_at s (open_form.Empty line) n0 n1 n2 n3 n4 n5 n6 n7 n8 n9 n10 n11 n12 n13 = subst (λ (x : TStmt). stmt_size s x ≡ length (simple_code s x)) (sym (stmt.rolls-Empty line)) refl
size-other_at s (open_form.Declare line initializers) n0 n1 n2 n3 n4 n5 n6 n7 n8 n9 n10 n11 n12 n13 = subst (λ (x : TStmt). stmt_size s x ≡ length (simple_code s x)) (sym (stmt.rolls-Declare line initializers)) refl
size-other_at s (open_form.Case label bits) n0 n1 n2 n3 n4 n5 n6 n7 n8 n9 n10 n11 n12 n13 = subst (λ (x : TStmt). stmt_size s x ≡ length (simple_code s x)) (sym (stmt.rolls-Case label bits)) refl
size-other_at s open_form.Default n0 n1 n2 n3 n4 n5 n6 n7 n8 n9 n10 n11 n12 n13 = subst (λ (x : TStmt). stmt_size s x ≡ length (simple_code s x)) (sym (stmt.rolls-Default)) refl
size-other_at s (open_form.AltCase talk) n0 n1 n2 n3 n4 n5 n6 n7 n8 n9 n10 n11 n12 n13 = subst (λ (x : TStmt). stmt_size s x ≡ length (simple_code s x)) (sym (stmt.rolls-AltCase talk)) refl
size-other_at s (open_form.Par line branches) n0 n1 n2 n3 n4 n5 n6 n7 n8 n9 n10 n11 n12 n13 = subst (λ (x : TStmt). stmt_size s x ≡ length (simple_code s x)) (sym (stmt.rolls-Par line branches)) refl
size-other_at s (open_form.Return line value) n0 n1 n2 n3 n4 n5 n6 n7 n8 n9 n10 n11 n12 n13 = subst (λ (x : TStmt). stmt_size s x ≡ length (simple_code s x)) (sym (stmt.rolls-Return line value)) refl
size-other_at s (open_form.Become line call) n0 n1 n2 n3 n4 n5 n6 n7 n8 n9 n10 n11 n12 n13 = subst (λ (x : TStmt). stmt_size s x ≡ length (simple_code s x)) (sym (stmt.rolls-Become line call)) refl
size-other_at s (open_form.Alloc line places) n0 n1 n2 n3 n4 n5 n6 n7 n8 n9 n10 n11 n12 n13 = subst (λ (x : TStmt). stmt_size s x ≡ length (simple_code s x)) (sym (stmt.rolls-Alloc line places)) refl
size-other_at s (open_form.Unalloc line values) n0 n1 n2 n3 n4 n5 n6 n7 n8 n9 n10 n11 n12 n13 = subst (λ (x : TStmt). stmt_size s x ≡ length (simple_code s x)) (sym (stmt.rolls-Unalloc line values)) refl
size-other_at s (open_form.Check line e) n0 n1 n2 n3 n4 n5 n6 n7 n8 n9 n10 n11 n12 n13 = subst (λ (x : TStmt). stmt_size s x ≡ length (simple_code s x)) (sym (stmt.rolls-Check line e)) refl
size-other_at s (open_form.Proc line calls) n0 n1 n2 n3 n4 n5 n6 n7 n8 n9 n10 n11 n12 n13 = subst (λ (x : TStmt). stmt_size s x ≡ length (simple_code s x)) (sym (stmt.rolls-Proc line calls)) refl
size-other_at s (open_form.Task line calls) n0 n1 n2 n3 n4 n5 n6 n7 n8 n9 n10 n11 n12 n13 = subst (λ (x : TStmt). stmt_size s x ≡ length (simple_code s x)) (sym (stmt.rolls-Task line calls)) refl

pub size-other : (s : Spot) (a : TStmt)
    → ((line : ℕ) (body : List TStmt) → a ≡ stmt.Block line body → ⊥)
    → ((line : ℕ) (bs : List TBounds) (e : TExpr) → a ≡ stmt.Value line bs e → ⊥)
    → ((line number : ℕ) (body : TStmt) → a ≡ stmt.Label line number body → ⊥)
    → ((line : ℕ) (test : TExpr) (chosen : TStmt) (other : Option TStmt) → a ≡ stmt.If line test chosen other → ⊥)
    → ((line : ℕ) (test : TExpr) (body : TStmt) → a ≡ stmt.While line test body → ⊥)
    → ((line : ℕ) (body : TStmt) (test : TExpr) → a ≡ stmt.Do line body test → ⊥)
    → ((line : ℕ) (start test step : Option TExpr) (body : TStmt) → a ≡ stmt.For line start test step body → ⊥)
    → ((line : ℕ) (e : TExpr) (body : List TStmt) → a ≡ stmt.Switch line e body → ⊥)
    → ((line : ℕ) (body : List TStmt) → a ≡ stmt.Alt line body → ⊥)
    → ((line number : ℕ) (body : TStmt) → a ≡ stmt.Rescue line number body → ⊥)
    → ((line rescue : ℕ) → a ≡ stmt.Raise line rescue → ⊥)
    → ((line label : ℕ) → a ≡ stmt.Goto line label → ⊥)
    → ((line levels : ℕ) → a ≡ stmt.Break line levels → ⊥)
    → ((line levels : ℕ) → a ≡ stmt.Continue line levels → ⊥)
    → stmt_size s a ≡ length (simple_code s a)
size-other s a n0 n1 n2 n3 n4 n5 n6 n7 n8 n9 n10 n11 n12 n13 =
    subst (λ (x : TStmt). stmt_size s x ≡ length (simple_code s x)) (roll-out-TStmt a)
    (size-other_at s (out-TStmt a)
    (λ line body is. n0 line body (sym (roll-out-TStmt a) ∙ is))
    (λ line bs e is. n1 line bs e (sym (roll-out-TStmt a) ∙ is))
    (λ line number body is. n2 line number body (sym (roll-out-TStmt a) ∙ is))
    (λ line test chosen other is. n3 line test chosen other (sym (roll-out-TStmt a) ∙ is))
    (λ line test body is. n4 line test body (sym (roll-out-TStmt a) ∙ is))
    (λ line body test is. n5 line body test (sym (roll-out-TStmt a) ∙ is))
    (λ line start test step body is. n6 line start test step body (sym (roll-out-TStmt a) ∙ is))
    (λ line e body is. n7 line e body (sym (roll-out-TStmt a) ∙ is))
    (λ line body is. n8 line body (sym (roll-out-TStmt a) ∙ is))
    (λ line number body is. n9 line number body (sym (roll-out-TStmt a) ∙ is))
    (λ line rescue is. n10 line rescue (sym (roll-out-TStmt a) ∙ is))
    (λ line label is. n11 line label (sym (roll-out-TStmt a) ∙ is))
    (λ line levels is. n12 line levels (sym (roll-out-TStmt a) ∙ is))
    (λ line levels is. n13 line levels (sym (roll-out-TStmt a) ∙ is)))

code-other_at : (s : Spot) (c : Targets) (pc : ℕ) (f : TStmt-F TStmt)
    → ((line : ℕ) (body : List TStmt) → roll-TStmt f ≡ stmt.Block line body → ⊥)
    → ((line : ℕ) (bs : List TBounds) (e : TExpr) → roll-TStmt f ≡ stmt.Value line bs e → ⊥)
    → ((line number : ℕ) (body : TStmt) → roll-TStmt f ≡ stmt.Label line number body → ⊥)
    → ((line : ℕ) (test : TExpr) (chosen : TStmt) (other : Option TStmt) → roll-TStmt f ≡ stmt.If line test chosen other → ⊥)
    → ((line : ℕ) (test : TExpr) (body : TStmt) → roll-TStmt f ≡ stmt.While line test body → ⊥)
    → ((line : ℕ) (body : TStmt) (test : TExpr) → roll-TStmt f ≡ stmt.Do line body test → ⊥)
    → ((line : ℕ) (start test step : Option TExpr) (body : TStmt) → roll-TStmt f ≡ stmt.For line start test step body → ⊥)
    → ((line : ℕ) (e : TExpr) (body : List TStmt) → roll-TStmt f ≡ stmt.Switch line e body → ⊥)
    → ((line : ℕ) (body : List TStmt) → roll-TStmt f ≡ stmt.Alt line body → ⊥)
    → ((line number : ℕ) (body : TStmt) → roll-TStmt f ≡ stmt.Rescue line number body → ⊥)
    → ((line rescue : ℕ) → roll-TStmt f ≡ stmt.Raise line rescue → ⊥)
    → ((line label : ℕ) → roll-TStmt f ≡ stmt.Goto line label → ⊥)
    → ((line levels : ℕ) → roll-TStmt f ≡ stmt.Break line levels → ⊥)
    → ((line levels : ℕ) → roll-TStmt f ≡ stmt.Continue line levels → ⊥)
    → stmt_code s c (roll-TStmt f) pc ≡ simple_code s (roll-TStmt f)
code-other_at s c pc (open_form.Block line body) n0 n1 n2 n3 n4 n5 n6 n7 n8 n9 n10 n11 n12 n13 = absurd (n0 line body (stmt.rolls-Block line body))
code-other_at s c pc (open_form.Value line bs e) n0 n1 n2 n3 n4 n5 n6 n7 n8 n9 n10 n11 n12 n13 = absurd (n1 line bs e (stmt.rolls-Value line bs e))
code-other_at s c pc (open_form.Label line number body) n0 n1 n2 n3 n4 n5 n6 n7 n8 n9 n10 n11 n12 n13 = absurd (n2 line number body (stmt.rolls-Label line number body))
code-other_at s c pc (open_form.If line test chosen other) n0 n1 n2 n3 n4 n5 n6 n7 n8 n9 n10 n11 n12 n13 = absurd (n3 line test chosen other (stmt.rolls-If line test chosen other))
code-other_at s c pc (open_form.While line test body) n0 n1 n2 n3 n4 n5 n6 n7 n8 n9 n10 n11 n12 n13 = absurd (n4 line test body (stmt.rolls-While line test body))
code-other_at s c pc (open_form.Do line body test) n0 n1 n2 n3 n4 n5 n6 n7 n8 n9 n10 n11 n12 n13 = absurd (n5 line body test (stmt.rolls-Do line body test))
code-other_at s c pc (open_form.For line start test step body) n0 n1 n2 n3 n4 n5 n6 n7 n8 n9 n10 n11 n12 n13 = absurd (n6 line start test step body (stmt.rolls-For line start test step body))
code-other_at s c pc (open_form.Switch line e body) n0 n1 n2 n3 n4 n5 n6 n7 n8 n9 n10 n11 n12 n13 = absurd (n7 line e body (stmt.rolls-Switch line e body))
code-other_at s c pc (open_form.Alt line body) n0 n1 n2 n3 n4 n5 n6 n7 n8 n9 n10 n11 n12 n13 = absurd (n8 line body (stmt.rolls-Alt line body))
code-other_at s c pc (open_form.Rescue line number body) n0 n1 n2 n3 n4 n5 n6 n7 n8 n9 n10 n11 n12 n13 = absurd (n9 line number body (stmt.rolls-Rescue line number body))
code-other_at s c pc (open_form.Raise line rescue) n0 n1 n2 n3 n4 n5 n6 n7 n8 n9 n10 n11 n12 n13 = absurd (n10 line rescue (stmt.rolls-Raise line rescue))
code-other_at s c pc (open_form.Goto line label) n0 n1 n2 n3 n4 n5 n6 n7 n8 n9 n10 n11 n12 n13 = absurd (n11 line label (stmt.rolls-Goto line label))
code-other_at s c pc (open_form.Break line levels) n0 n1 n2 n3 n4 n5 n6 n7 n8 n9 n10 n11 n12 n13 = absurd (n12 line levels (stmt.rolls-Break line levels))
code-other_at s c pc (open_form.Continue line levels) n0 n1 n2 n3 n4 n5 n6 n7 n8 n9 n10 n11 n12 n13 = absurd (n13 line levels (stmt.rolls-Continue line levels))
code-other_at s c pc (open_form.Empty line) n0 n1 n2 n3 n4 n5 n6 n7 n8 n9 n10 n11 n12 n13 = subst (λ (x : TStmt). stmt_code s c x pc ≡ simple_code s x) (sym (stmt.rolls-Empty line)) refl
code-other_at s c pc (open_form.Declare line initializers) n0 n1 n2 n3 n4 n5 n6 n7 n8 n9 n10 n11 n12 n13 = subst (λ (x : TStmt). stmt_code s c x pc ≡ simple_code s x) (sym (stmt.rolls-Declare line initializers)) refl
code-other_at s c pc (open_form.Case label bits) n0 n1 n2 n3 n4 n5 n6 n7 n8 n9 n10 n11 n12 n13 = subst (λ (x : TStmt). stmt_code s c x pc ≡ simple_code s x) (sym (stmt.rolls-Case label bits)) refl
code-other_at s c pc open_form.Default n0 n1 n2 n3 n4 n5 n6 n7 n8 n9 n10 n11 n12 n13 = subst (λ (x : TStmt). stmt_code s c x pc ≡ simple_code s x) (sym (stmt.rolls-Default)) refl
code-other_at s c pc (open_form.AltCase talk) n0 n1 n2 n3 n4 n5 n6 n7 n8 n9 n10 n11 n12 n13 = subst (λ (x : TStmt). stmt_code s c x pc ≡ simple_code s x) (sym (stmt.rolls-AltCase talk)) refl
code-other_at s c pc (open_form.Par line branches) n0 n1 n2 n3 n4 n5 n6 n7 n8 n9 n10 n11 n12 n13 = subst (λ (x : TStmt). stmt_code s c x pc ≡ simple_code s x) (sym (stmt.rolls-Par line branches)) refl
code-other_at s c pc (open_form.Return line value) n0 n1 n2 n3 n4 n5 n6 n7 n8 n9 n10 n11 n12 n13 = subst (λ (x : TStmt). stmt_code s c x pc ≡ simple_code s x) (sym (stmt.rolls-Return line value)) refl
code-other_at s c pc (open_form.Become line call) n0 n1 n2 n3 n4 n5 n6 n7 n8 n9 n10 n11 n12 n13 = subst (λ (x : TStmt). stmt_code s c x pc ≡ simple_code s x) (sym (stmt.rolls-Become line call)) refl
code-other_at s c pc (open_form.Alloc line places) n0 n1 n2 n3 n4 n5 n6 n7 n8 n9 n10 n11 n12 n13 = subst (λ (x : TStmt). stmt_code s c x pc ≡ simple_code s x) (sym (stmt.rolls-Alloc line places)) refl
code-other_at s c pc (open_form.Unalloc line values) n0 n1 n2 n3 n4 n5 n6 n7 n8 n9 n10 n11 n12 n13 = subst (λ (x : TStmt). stmt_code s c x pc ≡ simple_code s x) (sym (stmt.rolls-Unalloc line values)) refl
code-other_at s c pc (open_form.Check line e) n0 n1 n2 n3 n4 n5 n6 n7 n8 n9 n10 n11 n12 n13 = subst (λ (x : TStmt). stmt_code s c x pc ≡ simple_code s x) (sym (stmt.rolls-Check line e)) refl
code-other_at s c pc (open_form.Proc line calls) n0 n1 n2 n3 n4 n5 n6 n7 n8 n9 n10 n11 n12 n13 = subst (λ (x : TStmt). stmt_code s c x pc ≡ simple_code s x) (sym (stmt.rolls-Proc line calls)) refl
code-other_at s c pc (open_form.Task line calls) n0 n1 n2 n3 n4 n5 n6 n7 n8 n9 n10 n11 n12 n13 = subst (λ (x : TStmt). stmt_code s c x pc ≡ simple_code s x) (sym (stmt.rolls-Task line calls)) refl

pub code-other : (s : Spot) (c : Targets) (pc : ℕ) (a : TStmt)
    → ((line : ℕ) (body : List TStmt) → a ≡ stmt.Block line body → ⊥)
    → ((line : ℕ) (bs : List TBounds) (e : TExpr) → a ≡ stmt.Value line bs e → ⊥)
    → ((line number : ℕ) (body : TStmt) → a ≡ stmt.Label line number body → ⊥)
    → ((line : ℕ) (test : TExpr) (chosen : TStmt) (other : Option TStmt) → a ≡ stmt.If line test chosen other → ⊥)
    → ((line : ℕ) (test : TExpr) (body : TStmt) → a ≡ stmt.While line test body → ⊥)
    → ((line : ℕ) (body : TStmt) (test : TExpr) → a ≡ stmt.Do line body test → ⊥)
    → ((line : ℕ) (start test step : Option TExpr) (body : TStmt) → a ≡ stmt.For line start test step body → ⊥)
    → ((line : ℕ) (e : TExpr) (body : List TStmt) → a ≡ stmt.Switch line e body → ⊥)
    → ((line : ℕ) (body : List TStmt) → a ≡ stmt.Alt line body → ⊥)
    → ((line number : ℕ) (body : TStmt) → a ≡ stmt.Rescue line number body → ⊥)
    → ((line rescue : ℕ) → a ≡ stmt.Raise line rescue → ⊥)
    → ((line label : ℕ) → a ≡ stmt.Goto line label → ⊥)
    → ((line levels : ℕ) → a ≡ stmt.Break line levels → ⊥)
    → ((line levels : ℕ) → a ≡ stmt.Continue line levels → ⊥)
    → stmt_code s c a pc ≡ simple_code s a
code-other s c pc a n0 n1 n2 n3 n4 n5 n6 n7 n8 n9 n10 n11 n12 n13 =
    subst (λ (x : TStmt). stmt_code s c x pc ≡ simple_code s x) (roll-out-TStmt a)
    (code-other_at s c pc (out-TStmt a)
    (λ line body is. n0 line body (sym (roll-out-TStmt a) ∙ is))
    (λ line bs e is. n1 line bs e (sym (roll-out-TStmt a) ∙ is))
    (λ line number body is. n2 line number body (sym (roll-out-TStmt a) ∙ is))
    (λ line test chosen other is. n3 line test chosen other (sym (roll-out-TStmt a) ∙ is))
    (λ line test body is. n4 line test body (sym (roll-out-TStmt a) ∙ is))
    (λ line body test is. n5 line body test (sym (roll-out-TStmt a) ∙ is))
    (λ line start test step body is. n6 line start test step body (sym (roll-out-TStmt a) ∙ is))
    (λ line e body is. n7 line e body (sym (roll-out-TStmt a) ∙ is))
    (λ line body is. n8 line body (sym (roll-out-TStmt a) ∙ is))
    (λ line number body is. n9 line number body (sym (roll-out-TStmt a) ∙ is))
    (λ line rescue is. n10 line rescue (sym (roll-out-TStmt a) ∙ is))
    (λ line label is. n11 line label (sym (roll-out-TStmt a) ∙ is))
    (λ line levels is. n12 line levels (sym (roll-out-TStmt a) ∙ is))
    (λ line levels is. n13 line levels (sym (roll-out-TStmt a) ∙ is)))

place-other_at : (s : Spot) (l pc : ℕ) (f : TStmt-F TStmt)
    → ((line : ℕ) (body : List TStmt) → roll-TStmt f ≡ stmt.Block line body → ⊥)
    → ((line number : ℕ) (body : TStmt) → roll-TStmt f ≡ stmt.Label line number body → ⊥)
    → ((line : ℕ) (test : TExpr) (chosen : TStmt) (other : Option TStmt) → roll-TStmt f ≡ stmt.If line test chosen other → ⊥)
    → ((line : ℕ) (test : TExpr) (body : TStmt) → roll-TStmt f ≡ stmt.While line test body → ⊥)
    → ((line : ℕ) (body : TStmt) (test : TExpr) → roll-TStmt f ≡ stmt.Do line body test → ⊥)
    → ((line : ℕ) (start test step : Option TExpr) (body : TStmt) → roll-TStmt f ≡ stmt.For line start test step body → ⊥)
    → ((line : ℕ) (e : TExpr) (body : List TStmt) → roll-TStmt f ≡ stmt.Switch line e body → ⊥)
    → ((line : ℕ) (body : List TStmt) → roll-TStmt f ≡ stmt.Alt line body → ⊥)
    → ((line number : ℕ) (body : TStmt) → roll-TStmt f ≡ stmt.Rescue line number body → ⊥)
    → place_of s l (roll-TStmt f) pc ≡ None
place-other_at s l pc (open_form.Block line body) n0 n1 n2 n3 n4 n5 n6 n7 n8 = absurd (n0 line body (stmt.rolls-Block line body))
place-other_at s l pc (open_form.Label line number body) n0 n1 n2 n3 n4 n5 n6 n7 n8 = absurd (n1 line number body (stmt.rolls-Label line number body))
place-other_at s l pc (open_form.If line test chosen other) n0 n1 n2 n3 n4 n5 n6 n7 n8 = absurd (n2 line test chosen other (stmt.rolls-If line test chosen other))
place-other_at s l pc (open_form.While line test body) n0 n1 n2 n3 n4 n5 n6 n7 n8 = absurd (n3 line test body (stmt.rolls-While line test body))
place-other_at s l pc (open_form.Do line body test) n0 n1 n2 n3 n4 n5 n6 n7 n8 = absurd (n4 line body test (stmt.rolls-Do line body test))
place-other_at s l pc (open_form.For line start test step body) n0 n1 n2 n3 n4 n5 n6 n7 n8 = absurd (n5 line start test step body (stmt.rolls-For line start test step body))
place-other_at s l pc (open_form.Switch line e body) n0 n1 n2 n3 n4 n5 n6 n7 n8 = absurd (n6 line e body (stmt.rolls-Switch line e body))
place-other_at s l pc (open_form.Alt line body) n0 n1 n2 n3 n4 n5 n6 n7 n8 = absurd (n7 line body (stmt.rolls-Alt line body))
place-other_at s l pc (open_form.Rescue line number body) n0 n1 n2 n3 n4 n5 n6 n7 n8 = absurd (n8 line number body (stmt.rolls-Rescue line number body))
place-other_at s l pc (open_form.Value line bs e) n0 n1 n2 n3 n4 n5 n6 n7 n8 = subst (λ (x : TStmt). place_of s l x pc ≡ None) (sym (stmt.rolls-Value line bs e)) refl
place-other_at s l pc (open_form.Raise line rescue) n0 n1 n2 n3 n4 n5 n6 n7 n8 = subst (λ (x : TStmt). place_of s l x pc ≡ None) (sym (stmt.rolls-Raise line rescue)) refl
place-other_at s l pc (open_form.Goto line label) n0 n1 n2 n3 n4 n5 n6 n7 n8 = subst (λ (x : TStmt). place_of s l x pc ≡ None) (sym (stmt.rolls-Goto line label)) refl
place-other_at s l pc (open_form.Break line levels) n0 n1 n2 n3 n4 n5 n6 n7 n8 = subst (λ (x : TStmt). place_of s l x pc ≡ None) (sym (stmt.rolls-Break line levels)) refl
place-other_at s l pc (open_form.Continue line levels) n0 n1 n2 n3 n4 n5 n6 n7 n8 = subst (λ (x : TStmt). place_of s l x pc ≡ None) (sym (stmt.rolls-Continue line levels)) refl
place-other_at s l pc (open_form.Empty line) n0 n1 n2 n3 n4 n5 n6 n7 n8 = subst (λ (x : TStmt). place_of s l x pc ≡ None) (sym (stmt.rolls-Empty line)) refl
place-other_at s l pc (open_form.Declare line initializers) n0 n1 n2 n3 n4 n5 n6 n7 n8 = subst (λ (x : TStmt). place_of s l x pc ≡ None) (sym (stmt.rolls-Declare line initializers)) refl
place-other_at s l pc (open_form.Case label bits) n0 n1 n2 n3 n4 n5 n6 n7 n8 = subst (λ (x : TStmt). place_of s l x pc ≡ None) (sym (stmt.rolls-Case label bits)) refl
place-other_at s l pc open_form.Default n0 n1 n2 n3 n4 n5 n6 n7 n8 = subst (λ (x : TStmt). place_of s l x pc ≡ None) (sym (stmt.rolls-Default)) refl
place-other_at s l pc (open_form.AltCase talk) n0 n1 n2 n3 n4 n5 n6 n7 n8 = subst (λ (x : TStmt). place_of s l x pc ≡ None) (sym (stmt.rolls-AltCase talk)) refl
place-other_at s l pc (open_form.Par line branches) n0 n1 n2 n3 n4 n5 n6 n7 n8 = subst (λ (x : TStmt). place_of s l x pc ≡ None) (sym (stmt.rolls-Par line branches)) refl
place-other_at s l pc (open_form.Return line value) n0 n1 n2 n3 n4 n5 n6 n7 n8 = subst (λ (x : TStmt). place_of s l x pc ≡ None) (sym (stmt.rolls-Return line value)) refl
place-other_at s l pc (open_form.Become line call) n0 n1 n2 n3 n4 n5 n6 n7 n8 = subst (λ (x : TStmt). place_of s l x pc ≡ None) (sym (stmt.rolls-Become line call)) refl
place-other_at s l pc (open_form.Alloc line places) n0 n1 n2 n3 n4 n5 n6 n7 n8 = subst (λ (x : TStmt). place_of s l x pc ≡ None) (sym (stmt.rolls-Alloc line places)) refl
place-other_at s l pc (open_form.Unalloc line values) n0 n1 n2 n3 n4 n5 n6 n7 n8 = subst (λ (x : TStmt). place_of s l x pc ≡ None) (sym (stmt.rolls-Unalloc line values)) refl
place-other_at s l pc (open_form.Check line e) n0 n1 n2 n3 n4 n5 n6 n7 n8 = subst (λ (x : TStmt). place_of s l x pc ≡ None) (sym (stmt.rolls-Check line e)) refl
place-other_at s l pc (open_form.Proc line calls) n0 n1 n2 n3 n4 n5 n6 n7 n8 = subst (λ (x : TStmt). place_of s l x pc ≡ None) (sym (stmt.rolls-Proc line calls)) refl
place-other_at s l pc (open_form.Task line calls) n0 n1 n2 n3 n4 n5 n6 n7 n8 = subst (λ (x : TStmt). place_of s l x pc ≡ None) (sym (stmt.rolls-Task line calls)) refl

pub place-other : (s : Spot) (l pc : ℕ) (a : TStmt)
    → ((line : ℕ) (body : List TStmt) → a ≡ stmt.Block line body → ⊥)
    → ((line number : ℕ) (body : TStmt) → a ≡ stmt.Label line number body → ⊥)
    → ((line : ℕ) (test : TExpr) (chosen : TStmt) (other : Option TStmt) → a ≡ stmt.If line test chosen other → ⊥)
    → ((line : ℕ) (test : TExpr) (body : TStmt) → a ≡ stmt.While line test body → ⊥)
    → ((line : ℕ) (body : TStmt) (test : TExpr) → a ≡ stmt.Do line body test → ⊥)
    → ((line : ℕ) (start test step : Option TExpr) (body : TStmt) → a ≡ stmt.For line start test step body → ⊥)
    → ((line : ℕ) (e : TExpr) (body : List TStmt) → a ≡ stmt.Switch line e body → ⊥)
    → ((line : ℕ) (body : List TStmt) → a ≡ stmt.Alt line body → ⊥)
    → ((line number : ℕ) (body : TStmt) → a ≡ stmt.Rescue line number body → ⊥)
    → place_of s l a pc ≡ None
place-other s l pc a n0 n1 n2 n3 n4 n5 n6 n7 n8 =
    subst (λ (x : TStmt). place_of s l x pc ≡ None) (roll-out-TStmt a)
    (place-other_at s l pc (out-TStmt a)
    (λ line body is. n0 line body (sym (roll-out-TStmt a) ∙ is))
    (λ line number body is. n1 line number body (sym (roll-out-TStmt a) ∙ is))
    (λ line test chosen other is. n2 line test chosen other (sym (roll-out-TStmt a) ∙ is))
    (λ line test body is. n3 line test body (sym (roll-out-TStmt a) ∙ is))
    (λ line body test is. n4 line body test (sym (roll-out-TStmt a) ∙ is))
    (λ line start test step body is. n5 line start test step body (sym (roll-out-TStmt a) ∙ is))
    (λ line e body is. n6 line e body (sym (roll-out-TStmt a) ∙ is))
    (λ line body is. n7 line body (sym (roll-out-TStmt a) ∙ is))
    (λ line number body is. n8 line number body (sym (roll-out-TStmt a) ∙ is)))
