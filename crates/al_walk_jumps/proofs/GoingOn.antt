-- What goes on from a label in each kind of statement, where its part has the label.
use Rattle.std.proofs.Common.{◌≡◌, ℕ, List, [], ◌∷◌, Option, Some, eq-eqb, sym, ap, ◌∙◌}
use Rattle.std.proofs.lemmas.Bool.{ne_eqb}
use Rattle.std.specs.Prelude.{◌==◌, ◌||◌, if◌then◌else◌, Bool, true, false, unwrap_or}
use Rattle.al_typed.specs.declared.expression.TExpr.{TExpr}
use Rattle.al_typed.specs.declared.statement.TStmt.{TStmt}
use Rattle.al_typed.specs.declared.statement.TStmt.TheVariants as variant
use Rattle.al_meaning.specs.Items.{Item, WhileAgain, DoCondition, ForNext, CasesEnd}
use Rattle.al_meaning.specs.Parts.{first_of_two, going_on, item, to_do}
use Rattle.al_walk_jumps.specs.Labelled.{going_on_in, going_on_other, labelled, other_holds}
use Rattle.al_walk_jumps.specs.Holds.{holds, any_holds}
use Rattle.al_walk_jumps.proofs.Labels.{not_held, holds-Block, holds-Label, holds-If, holds-While, holds-Do, holds-For, holds-Switch, holds-Alt, holds-Rescue, going-Block, going-Label, going-If, going-While, going-Do, going-For, going-Switch, going-Alt, going-Rescue}

-- a statement and its part
through : {A : Type 0} (a b : Bool) (x y z : A) → a ≡ b → x ≡ y → (b ≡ true → y ≡ z) → a ≡ true → x ≡ z
through a b x y z e f goes h = f ∙ goes (sym e ∙ h)

-- ---- lists of statements

pub goes-Block : (n line : ℕ) (body b : List TStmt) (s : TStmt) (old : List Item) (new : Option (List Item)) → s ≡ variant.Block line body → b ≡ body
    → (any_holds n b ≡ true → going_on_in n b old ≡ new) → holds n s ≡ true → going_on n s old ≡ new
goes-Block n line body b s old new is same goes =
    through (holds n s) (any_holds n b) (going_on n s old) (going_on_in n b old) new
    (ap (holds n) is ∙ holds-Block n line body ∙ ap (any_holds n) (sym same))
    (ap (λ t. going_on n t old) is ∙ going-Block n line body old ∙ ap (λ l. going_on_in n l old) (sym same)) goes

pub goes-Switch : (n line : ℕ) (value : TExpr) (body b : List TStmt) (s : TStmt) (old mid : List Item) (new : Option (List Item))
    → s ≡ variant.Switch line value body → b ≡ body → mid ≡ item line CasesEnd ∷ old
    → (any_holds n b ≡ true → going_on_in n b mid ≡ new) → holds n s ≡ true → going_on n s old ≡ new
goes-Switch n line value body b s old mid new is same put goes =
    through (holds n s) (any_holds n b) (going_on n s old) (going_on_in n b mid) new
    (ap (holds n) is ∙ holds-Switch n line value body ∙ ap (any_holds n) (sym same))
    (ap (λ t. going_on n t old) is ∙ going-Switch n line value body old ∙ ap (going_on_in n body) (sym put) ∙ ap (λ l. going_on_in n l mid) (sym same)) goes

pub goes-Alt : (n line : ℕ) (body b : List TStmt) (s : TStmt) (old mid : List Item) (new : Option (List Item))
    → s ≡ variant.Alt line body → b ≡ body → mid ≡ item line CasesEnd ∷ old
    → (any_holds n b ≡ true → going_on_in n b mid ≡ new) → holds n s ≡ true → going_on n s old ≡ new
goes-Alt n line body b s old mid new is same put goes =
    through (holds n s) (any_holds n b) (going_on n s old) (going_on_in n b mid) new
    (ap (holds n) is ∙ holds-Alt n line body ∙ ap (any_holds n) (sym same))
    (ap (λ t. going_on n t old) is ∙ going-Alt n line body old ∙ ap (going_on_in n body) (sym put) ∙ ap (λ l. going_on_in n l mid) (sym same)) goes

-- ---- loops

pub goes-While : (n line : ℕ) (condition : TExpr) (body b s : TStmt) (old mid : List Item) (new : Option (List Item)) → s ≡ variant.While line condition body
    → b ≡ body → mid ≡ item line (WhileAgain s) ∷ old → (holds n b ≡ true → going_on n b mid ≡ new) → holds n s ≡ true → going_on n s old ≡ new
goes-While n line condition body b s old mid new is same put goes =
    through (holds n s) (holds n b) (going_on n s old) (going_on n b mid) new
    (ap (holds n) is ∙ holds-While n line condition body ∙ ap (holds n) (sym same))
    (ap (λ t. going_on n t old) is ∙ going-While n line condition body old
    ∙ ap (λ t. going_on n body (item line (WhileAgain t) ∷ old)) (sym is)
    ∙ ap (going_on n body) (sym put) ∙ ap (λ t. going_on n t mid) (sym same)) goes

pub goes-Do : (n line : ℕ) (body b : TStmt) (condition : TExpr) (s : TStmt) (old mid : List Item) (new : Option (List Item)) → s ≡ variant.Do line body condition
    → b ≡ body → mid ≡ item line (DoCondition s) ∷ old → (holds n b ≡ true → going_on n b mid ≡ new) → holds n s ≡ true → going_on n s old ≡ new
goes-Do n line body b condition s old mid new is same put goes =
    through (holds n s) (holds n b) (going_on n s old) (going_on n b mid) new
    (ap (holds n) is ∙ holds-Do n line body condition ∙ ap (holds n) (sym same))
    (ap (λ t. going_on n t old) is ∙ going-Do n line body condition old
    ∙ ap (λ t. going_on n body (item line (DoCondition t) ∷ old)) (sym is)
    ∙ ap (going_on n body) (sym put) ∙ ap (λ t. going_on n t mid) (sym same)) goes

pub goes-For : (n line : ℕ) (start condition step : Option TExpr) (body b s : TStmt) (old mid : List Item) (new : Option (List Item))
    → s ≡ variant.For line start condition step body
    → b ≡ body → mid ≡ item line (ForNext s) ∷ old → (holds n b ≡ true → going_on n b mid ≡ new) → holds n s ≡ true → going_on n s old ≡ new
goes-For n line start condition step body b s old mid new is same put goes =
    through (holds n s) (holds n b) (going_on n s old) (going_on n b mid) new
    (ap (holds n) is ∙ holds-For n line start condition step body ∙ ap (holds n) (sym same))
    (ap (λ t. going_on n t old) is ∙ going-For n line start condition step body old
    ∙ ap (λ t. going_on n body (item line (ForNext t) ∷ old)) (sym is)
    ∙ ap (going_on n body) (sym put) ∙ ap (λ t. going_on n t mid) (sym same)) goes

-- ---- labels and rescues

pub goes-Label : (n line number : ℕ) (body b s : TStmt) (old : List Item) (new : Option (List Item)) → s ≡ variant.Label line number body → b ≡ body
    → ((number == n) || holds n b ≡ true → labelled n number s b old ≡ new) → holds n s ≡ true → going_on n s old ≡ new
goes-Label n line number body b s old new is same goes =
    through (holds n s) ((number == n) || holds n b) (going_on n s old) (labelled n number s b old) new
    (ap (holds n) is ∙ holds-Label n line number body ∙ ap (λ t. (number == n) || holds n t) (sym same))
    (ap (λ t. going_on n t old) is ∙ going-Label n line number body old
    ∙ ap (λ t. labelled n number t body old) (sym is)
    ∙ ap (λ t. labelled n number s t old) (sym same)) goes

pub goes-Rescue : (n line number : ℕ) (body b s : TStmt) (old : List Item) (new : Option (List Item)) → s ≡ variant.Rescue line number body → b ≡ body
    → ((number == n) || holds n b ≡ true → labelled n number b b old ≡ new) → holds n s ≡ true → going_on n s old ≡ new
goes-Rescue n line number body b s old new is same goes =
    through (holds n s) ((number == n) || holds n b) (going_on n s old) (labelled n number b b old) new
    (ap (holds n) is ∙ holds-Rescue n line number body ∙ ap (λ t. (number == n) || holds n t) (sym same))
    (ap (λ t. going_on n t old) is ∙ going-Rescue n line number body old
    ∙ ap (λ t. labelled n number t t old) (sym same)) goes

pub labelled_here : (n label : ℕ) (there body : TStmt) (old its : List Item) → label ≡ n → its ≡ to_do there ∷ old → labelled n label there body old ≡ Some its
labelled_here n label there body old its this put =
    ap (λ (b : Bool). if b then Some (to_do there ∷ old) else going_on n body old) (eq-eqb label n this) ∙ ap Some (sym put)

pub labelled_behind : (n label : ℕ) (there body : TStmt) (old : List Item) (new : Option (List Item)) → (label ≡ n → ⊥)
    → (holds n body ≡ true → going_on n body old ≡ new) → (label == n) || holds n body ≡ true → labelled n label there body old ≡ new
labelled_behind n label there body old new other goes h =
    ap (λ (b : Bool). if b then Some (to_do there ∷ old) else going_on n body old) (ne_eqb label n other)
    ∙ goes (ap (λ a. a || holds n body) (sym (ne_eqb label n other)) ∙ h)

-- ---- ifs

pub goes-If : (n line : ℕ) (condition : TExpr) (chosen b s : TStmt) (other : Option TStmt) (old : List Item) (new : Option (List Item))
    → s ≡ variant.If line condition chosen other → b ≡ chosen
    → (holds n b || other_holds n other ≡ true → first_of_two (going_on n b old) (going_on_other n other old) ≡ new)
    → holds n s ≡ true → going_on n s old ≡ new
goes-If n line condition chosen b s other old new is same goes =
    through (holds n s) (holds n b || other_holds n other) (going_on n s old) (first_of_two (going_on n b old) (going_on_other n other old)) new
    (ap (holds n) is ∙ holds-If n line condition chosen other ∙ ap (λ t. holds n t || other_holds n other) (sym same))
    (ap (λ t. going_on n t old) is ∙ going-If n line condition chosen other old
    ∙ ap (λ t. first_of_two (going_on n t old) (going_on_other n other old)) (sym same)) goes

-- it stands in the first of the two statements
pub goes-chosen : (n : ℕ) (chosen : TStmt) (other : Option TStmt) (old its : List Item) → going_on n chosen old ≡ Some its
    → first_of_two (going_on n chosen old) (going_on_other n other old) ≡ Some its
goes-chosen n chosen other old its e = ap (λ o. first_of_two o (going_on_other n other old)) e

-- in the other
pub goes-other : (n : ℕ) (chosen : TStmt) (other : Option TStmt) (old : List Item) (new : Option (List Item)) → holds n chosen ≡ false
    → (other_holds n other ≡ true → going_on_other n other old ≡ new)
    → holds n chosen || other_holds n other ≡ true → first_of_two (going_on n chosen old) (going_on_other n other old) ≡ new
goes-other n chosen other old new not goes h =
    ap (λ o. first_of_two o (going_on_other n other old)) (not_held n chosen old not)
    ∙ goes (ap (λ b. b || other_holds n other) (sym not) ∙ h)

-- in the other statement, where there is one
pub goes-Some : (n : ℕ) (x b : TStmt) (other : Option TStmt) (old : List Item) (new : Option (List Item)) → other ≡ Some x → b ≡ x
    → (holds n b ≡ true → going_on n b old ≡ new) → other_holds n other ≡ true → going_on_other n other old ≡ new
goes-Some n x b other old new is same goes =
    through (other_holds n other) (holds n b) (going_on_other n other old) (going_on n b old) new
    (ap (other_holds n) is ∙ ap (holds n) (sym same))
    (ap (λ o. going_on_other n o old) is ∙ ap (λ t. going_on n t old) (sym same)) goes

-- ---- where it stands nowhere

pub nothing_goes : (n : ℕ) (s : TStmt) → holds n s ≡ false → [] ≡ unwrap_or (going_on n s []) []
nothing_goes n s not = sym (ap (λ o. unwrap_or o []) (not_held n s [] not))
