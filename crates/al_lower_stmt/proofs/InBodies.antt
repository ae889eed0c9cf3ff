-- Statements in a list, one after the other.
use Rattle.std.proofs.Common.{◌≡◌, ℕ, ◌+◌, ◌<◌, ◌≤◌, Bool, true, false, List, [], ◌++◌, drop, length, get_or, Option, Some, None, refl, sym, ap, ◌∙◌, append_assoc}
use Rattle.std.specs.Prelude.{if◌then◌else◌}
use Rattle.std.proofs.lemmas.List.{append-nil, at_drop_all}
use Rattle.al_typed.specs.declared.statement.TStmt.{TStmt}
use Rattle.al_meaning.specs.Parts.{first_of_two}
use Rattle.al_ir.specs.declared.ir.Operation.{Operation}
use Rattle.al_lower_code.specs.Homes.{Spot}
use Rattle.al_lower_code.specs.Heads.{CasePlace}
use Rattle.al_lower_code.specs.Statements.{Targets, stmt_size, stmt_code, place_of}
use Rattle.al_lower_base.proofs.Unconverted.{at_hand}
use Rattle.al_lower_stmt.specs.Bodies.{sizes, codes_from, place_from, case_at, cases_from, is_default, default_from, body_at, bodies_from}

-- what was made before, then one more, then the others
pub more : {A : Type 0} (out one others all rest : List A) → rest ≡ one ++ others → out ++ rest ≡ all → (out ++ one) ++ others ≡ all
more out one others all rest is so_far = append_assoc out one others ∙ ap (λ os. out ++ os) (sym is) ∙ so_far

pub done : {A : Type 0} (out all rest : List A) → rest ≡ [] → out ++ rest ≡ all → out ≡ all
done out all rest is so_far = sym (append-nil out) ∙ ap (λ os. out ++ os) (sym is) ∙ so_far

-- ---- how many operations

pub sizes_more : (s : Spot) (body : List TStmt) (i : ℕ) (a : TStmt) → i < length body → a ≡ get_or body i a → sizes s (drop i body) ≡ stmt_size s a + sizes s (drop (i + 1) body)
sizes_more s body i a h is = ap (sizes s) (at_hand body i a h is)

pub sizes_done : (s : Spot) (body : List TStmt) (i : ℕ) → length body ≤ i → sizes s (drop i body) ≡ 0
sizes_done s body i h = at_drop_all (sizes s) body i h

-- ---- the operations

pub codes_more : (s : Spot) (c : Targets) (body : List TStmt) (i : ℕ) (a : TStmt) (at : ℕ) (out all : List Operation) → i < length body → a ≡ get_or body i a
    → out ++ codes_from s c (drop i body) at ≡ all
    → (out ++ stmt_code s c a at) ++ codes_from s c (drop (i + 1) body) (at + stmt_size s a) ≡ all
codes_more s c body i a at out all h is = more out _ _ all _ (ap (λ (b : List TStmt). codes_from s c b at) (at_hand body i a h is))

pub codes_done : (s : Spot) (c : Targets) (body : List TStmt) (i at : ℕ) (out all : List Operation) → length body ≤ i → out ++ codes_from s c (drop i body) at ≡ all → out ≡ all
codes_done s c body i at out all h = done out all _ (at_drop_all (λ (b : List TStmt). codes_from s c b at) body i h)

-- ---- cases

pub cases_more : (s : Spot) (body : List TStmt) (i : ℕ) (a : TStmt) (at : ℕ) (out all : List CasePlace) → i < length body → a ≡ get_or body i a
    → out ++ cases_from s (drop i body) at ≡ all → (out ++ case_at a at) ++ cases_from s (drop (i + 1) body) (at + stmt_size s a) ≡ all
cases_more s body i a at out all h is = more out _ _ all _ (ap (λ (b : List TStmt). cases_from s b at) (at_hand body i a h is))

pub cases_done : (s : Spot) (body : List TStmt) (i at : ℕ) (out all : List CasePlace) → length body ≤ i → out ++ cases_from s (drop i body) at ≡ all → out ≡ all
cases_done s body i at out all h = done out all _ (at_drop_all (λ (b : List TStmt). cases_from s b at) body i h)

pub bodies_more : (s : Spot) (body : List TStmt) (i : ℕ) (a : TStmt) (at : ℕ) (out all : List ℕ) → i < length body → a ≡ get_or body i a
    → out ++ bodies_from s (drop i body) at ≡ all → (out ++ body_at a at) ++ bodies_from s (drop (i + 1) body) (at + stmt_size s a) ≡ all
bodies_more s body i a at out all h is = more out _ _ all _ (ap (λ (b : List TStmt). bodies_from s b at) (at_hand body i a h is))

pub bodies_done : (s : Spot) (body : List TStmt) (i at : ℕ) (out all : List ℕ) → length body ≤ i → out ++ bodies_from s (drop i body) at ≡ all → out ≡ all
bodies_done s body i at out all h = done out all _ (at_drop_all (λ (b : List TStmt). bodies_from s b at) body i h)

default_step : (s : Spot) (body : List TStmt) (i : ℕ) (a : TStmt) (at : ℕ) → i < length body → a ≡ get_or body i a
    → default_from s (drop i body) at ≡ (if is_default a then Some at else default_from s (drop (i + 1) body) (at + stmt_size s a))
default_step s body i a at h is = ap (λ (b : List TStmt). default_from s b at) (at_hand body i a h is)

pub default_more : (s : Spot) (body : List TStmt) (i : ℕ) (a : TStmt) (at : ℕ) (all : Option ℕ) → i < length body → a ≡ get_or body i a → is_default a ≡ false
    → default_from s (drop i body) at ≡ all → default_from s (drop (i + 1) body) (at + stmt_size s a) ≡ all
default_more s body i a at all h is not so_far =
    ap (λ (b : Bool). if b then Some at else default_from s (drop (i + 1) body) (at + stmt_size s a)) (sym not) ∙ sym (default_step s body i a at h is) ∙ so_far

pub default_here : (s : Spot) (body : List TStmt) (i : ℕ) (a : TStmt) (at : ℕ) (all : Option ℕ) → i < length body → a ≡ get_or body i a → is_default a ≡ true
    → default_from s (drop i body) at ≡ all → Some at ≡ all
default_here s body i a at all h is so so_far =
    ap (λ (b : Bool). if b then Some at else default_from s (drop (i + 1) body) (at + stmt_size s a)) (sym so) ∙ sym (default_step s body i a at h is) ∙ so_far

pub default_done : (s : Spot) (body : List TStmt) (i at : ℕ) (all : Option ℕ) → length body ≤ i → default_from s (drop i body) at ≡ all → None ≡ all
default_done s body i at all h so_far = sym (at_drop_all (λ (b : List TStmt). default_from s b at) body i h) ∙ so_far

-- ---- labels

pub first_then : {A : Type 0} (p q r : Option A) → first_of_two (first_of_two p q) r ≡ first_of_two p (first_of_two q r)
first_then (Some a) q r = refl
first_then None q r = refl

pub first_alone : {A : Type 0} (p : Option A) → first_of_two p None ≡ p
first_alone (Some a) = refl
first_alone None = refl

pub places_more : (s : Spot) (l : ℕ) (body : List TStmt) (i : ℕ) (a : TStmt) (at : ℕ) (before all : Option ℕ) → i < length body → a ≡ get_or body i a
    → first_of_two before (place_from s l (drop i body) at) ≡ all
    → first_of_two (first_of_two before (place_of s l a at)) (place_from s l (drop (i + 1) body) (at + stmt_size s a)) ≡ all
places_more s l body i a at before all h is so_far =
    first_then before _ _ ∙ ap (first_of_two before) (sym (ap (λ (b : List TStmt). place_from s l b at) (at_hand body i a h is))) ∙ so_far

pub places_done : (s : Spot) (l : ℕ) (body : List TStmt) (i at : ℕ) (before all : Option ℕ) → length body ≤ i
    → first_of_two before (place_from s l (drop i body) at) ≡ all → before ≡ all
places_done s l body i at before all h so_far =
    sym (first_alone before) ∙ ap (first_of_two before) (sym (at_drop_all (λ (b : List TStmt). place_from s l b at) body i h)) ∙ so_far
