-- Lists and parts of statements.
use Rattle.std.proofs.Common.{◌≡◌, ℕ, Bool, true, false, List, [], ◌∷◌, ◌++◌, map, length, Option, Some, None, refl, ap, ◌∙◌, suc}
use Rattle.std.specs.Prelude.{All, Contains, if◌then◌else◌, ⊤}
use Rattle.std.proofs.lemmas.List.Elements.{All-cons, All-contains, All-nil}
use Rattle.al_base.specs.declared.place.Place.{Place}
use Rattle.al_rules.specs.Outcome.{Outcome, Good, Bad, ask, judge, both}
use Rattle.al_rules.specs.declared.fault.TypeFault.{TypeFault}
use Rattle.al_type_expr.specs.Lists.{each}
use Rattle.al_type_stmt.specs.Statements.{of_each, optional}
use Rattle.al_sound_operators.specs.Typed.{IfGood}
use Rattle.al_sound_expressions.specs.Expressions.{Every}
use Rattle.al_sound_statements.specs.Statements.{IfThere}
use Rattle.al_sound_operators.proofs.OperatorKinds.{not_true}
use Rattle.al_sound_operators.proofs.Outcomes.{after, also}

both_hold : {A B C : Type 0} (P : A → Type 0) (Q : B → Type 0) (R : C → Type 0) (x : Outcome A) (y : Outcome B) (f : A → B → Outcome C)
    → IfGood x P → IfGood y Q → ((a : A) (b : B) → P a → Q b → IfGood (f a b) R) → IfGood (both x y f) R
both_hold P Q R (Good a) (Good b) f h k g = g a b h k
both_hold P Q R (Good a) (Bad bs) f h k g = tt
both_hold P Q R (Bad fs) (Good b) f h k g = tt
both_hold P Q R (Bad fs) (Bad bs) f h k g = tt

-- as many as there are
abbrev pub AreMany : {A : Type 0} → (A → Type 0) → ℕ → List A → Type 0
AreMany P n xs = Every P xs × (length xs ≡ n)

pub each_is : {A : Type 0} (P : A → Type 0) (xs : List (Outcome A)) → Every (λ x. IfGood x P) xs → IfGood (each xs) (AreMany P (length xs))
unfolding each
each_is P [] h = (tt, refl)
each_is P (x ∷ xs) h =
    both_hold P (AreMany P (length xs)) (AreMany P (suc (length xs))) x (each xs) (λ y ys. Good (y ∷ ys)) h.0 (each_is P xs h.1)
    (λ y ys u v. ((u, v.0), ap suc v.1))

pub every_map : {A B : Type 0} (P : A → Type 0) (Q : B → Type 0) (f : A → B) (xs : List A) → Every P xs → ((a : A) → P a → Q (f a)) → Every Q (map f xs)
every_map P Q f [] h k = tt
every_map P Q f (x ∷ xs) h k = (k x h.0, every_map P Q f xs h.1 k)

-- what holds also holds so
pub every_also : {A : Type 0} (P Q : A → Type 0) → ((a : A) → P a → Q a) → (xs : List A) → Every P xs → Every Q xs
every_also P Q f [] h = tt
every_also P Q f (x ∷ xs) h = (f x h.0, every_also P Q f xs h.1)

length_map : {A B : Type 0} (f : A → B) (xs : List A) → length (map f xs) ≡ length xs
length_map f [] = refl
length_map f (x ∷ xs) = ap suc (length_map f xs)

pub of_each_is : {A B : Type 0} (P : A → Type 0) (Q : B → Type 0) (f : A → Outcome B) (xs : List A) → Every P xs → ((a : A) → P a → IfGood (f a) Q)
    → IfGood (of_each f xs) (AreMany Q (length xs))
of_each_is P Q f xs h k =
    also (AreMany Q (length (map f xs))) (AreMany Q (length xs)) (each (map f xs))
    (each_is Q (map f xs) (every_map P (λ o. IfGood o Q) f xs h k)) (λ ys q. (q.0, q.1 ∙ length_map f xs))

pub every_all : {A : Type 0} (P : A → Type 0) (xs : List A) → Every P xs → All P xs
every_all P [] h = All-nil P
every_all P (x ∷ xs) h = All-cons P x xs h.0 (every_all P xs h.1)

pub every_append : {A : Type 0} (P : A → Type 0) (xs ys : List A) → Every P xs → Every P ys → Every P (xs ++ ys)
every_append P [] ys h k = k
every_append P (x ∷ xs) ys h k = (h.0, every_append P xs ys h.1 k)

pub every_at : {A : Type 0} (P : A → Type 0) (xs : List A) (x : A) → Every P xs → Contains xs x → P x
every_at P xs x h c = All-contains P xs x (every_all P xs h) c

pub every_split : {A : Type 0} (P : A → Type 0) (xs ys : List A) → Every P (xs ++ ys) → Every P xs × Every P ys
every_split P [] ys h = (tt, h)
every_split P (x ∷ xs) ys h = let b = every_split P xs ys h.1 in ((h.0, b.0), b.1)

pub optional_is : {A B : Type 0} (P : A → Type 0) (Q : B → Type 0) (f : A → Outcome B) (x : Option A) → IfThere P x → ((a : A) → P a → IfGood (f a) Q)
    → IfGood (optional f x) (IfThere Q)
optional_is P Q f None h k = tt
optional_is P Q f (Some x) h k = after Q (IfThere Q) (f x) (λ y. Good (Some y)) (k x h) (λ y q. q)

pub if_either : {A : Type 0} (P : A → Type 0) (b : Bool) (x y : Outcome A) → IfGood x P → IfGood y P → IfGood (if b then x else y) P
if_either P true x y h k = h
if_either P false x y h k = k

pub anything : {A : Type 0} (o : Outcome A) → IfGood o (λ a. ⊤)
anything (Good a) = tt
anything (Bad fs) = tt

pub judged_any : {A : Type 0} (P : A → Type 0) (fs : List TypeFault) (a : A) → P a → IfGood (judge fs a) P
judged_any P [] a h = h
judged_any P (f ∷ fs) a h = tt

-- what holds where a rule is asked, where the rule holds
pub judged : {A : Type 0} (P : A → Type 0) (n : ℕ) (at : Place) (b : Bool) (a : A) → IfGood (judge (ask n at b) a) P → b ≡ true → P a
judged P n at true a h q = h
judged P n at false a h q = not_true q
