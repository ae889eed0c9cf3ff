-- Lists in statements, from each of their elements on.
use Rattle.std.proofs.Common.{◌≡◌, ℕ, suc, Bool, true, false, if◌then◌else◌, ◌||◌, ◌+◌, ◌<◌, ◌≤◌, List, [], ◌∷◌, ◌++◌, map, filter, length, drop, get_or, Option, Some, None, refl, ap, ◌∙◌, sym, append_assoc, drop-cons, add-one}
use Rattle.std.specs.List.{flat_map}
use Rattle.std.proofs.lemmas.List.{drop_all, append-nil}
use Rattle.al_base.specs.declared.place.Place.{Place}
use Rattle.al_rules.specs.declared.fault.TypeFault.{TypeFault}
use Rattle.al_rules.specs.declared.fault.TypeStop.{TypeStop}
use Rattle.al_rules.specs.declared.fault.TypeStop.TheVariants.{Fault as Broken, NoMemory}
use Rattle.al_rules.specs.Outcome.{Outcome, Good, Bad, both, preceded, permits, among, same_fault}
use Rattle.al_rules.proofs.Permits.{permits-left, permits-right, preceded-nil, preceded-cons}
use Rattle.al_typed.specs.declared.statement.TStmt.{TStmt}
use Rattle.al_statements.specs.declared.cases.Cases.{Cases}
use Rattle.al_type_expr.specs.Lists.{each}
use Rattle.al_type_stmt.specs.Statements.{label_faults, is_alt_case, alt_cases}

-- ---- each of two lists

good-is : {A : Type 0} (a b : A) → Good a ≡ Good b → a ≡ b
good-is a b h = cc

bad-first : {A : Type 0} (P : Type 0) (d : List A) (fs : List TypeFault) (o : Outcome (List A)) (e : List A) → preceded d (both (Bad fs) o (λ (x : A) xs. Good (x ∷ xs))) ≡ Good e → P
bad-first P d fs (Good a) e h = cc
bad-first P d fs (Bad gs) e h = cc

each-append : {A : Type 0} (d : List A) (xs ys : List (Outcome A)) (e : List A) → preceded d (each xs) ≡ Good e → preceded d (each (xs ++ ys)) ≡ preceded e (each ys)
unfolding each
each-append d [] ys e h = ap (λ l. preceded l (each ys)) (sym (append-nil d) ∙ good-is (d ++ []) e h)
each-append d (Good x ∷ xs) ys e h =
    preceded-cons d x (each (xs ++ ys)) ∙ each-append (d ++ x ∷ []) xs ys e (sym (preceded-cons d x (each xs)) ∙ h)
each-append d (Bad fs ∷ xs) ys e h = bad-first (preceded d (each (Bad fs ∷ (xs ++ ys))) ≡ preceded e (each ys)) d fs (each xs) e h

split : (P : Type 0) (f : TypeFault) (fs gs : List TypeFault) → (among f fs ≡ true → P) → (among f gs ≡ true → P) → among f (fs ++ gs) ≡ true → P
split P f [] gs l r h = r h
split P f (g ∷ fs) gs l r h =
    elim (same_fault f g) as (λ b. ((b || among f fs) ≡ true → P) → (b || among f (fs ++ gs)) ≡ true → P) [ true ↦ λ l h. l refl | false ↦ λ l h. split P f fs gs l r h ] l h

more-permits : {A : Type 0} (x : Outcome A) (o p : Outcome (List A)) (f : TypeFault) → (permits o (Broken f) ≡ true → permits p (Broken f) ≡ true) → permits (both x o (λ (x : A) xs. Good (x ∷ xs))) (Broken f) ≡ true → permits (both x p (λ (x : A) xs. Good (x ∷ xs))) (Broken f) ≡ true
more-permits (Good x) (Good a) p f k h = cc
more-permits (Good x) (Bad gs) p f k h = permits-right (Good x) p (λ x xs. Good (x ∷ xs)) (Broken f) (k h)
more-permits (Bad fs) (Good a) p f k h = permits-left (Bad fs) p (λ x xs. Good (x ∷ xs)) (Broken f) h
more-permits {A} (Bad fs) (Bad gs) p f k h =
    split (permits (both {A = A} (Bad fs) p (λ x xs. Good (x ∷ xs))) (Broken f) ≡ true) f fs gs
    (λ a. permits-left (Bad fs) p (λ x xs. Good (x ∷ xs)) (Broken f) a)
    (λ b. permits-right (Bad fs) p (λ x xs. Good (x ∷ xs)) (Broken f) (k b)) h

each-stops : {A : Type 0} (xs ys : List (Outcome A)) (s : TypeStop) → permits (each xs) s ≡ true → permits (each (xs ++ ys)) s ≡ true
unfolding each
each-stops xs ys NoMemory h = refl
each-stops [] ys (Broken f) h = cc
each-stops (x ∷ xs) ys (Broken f) h = more-permits x (each xs) (each (xs ++ ys)) f (each-stops xs ys (Broken f)) h

preceded-permits : {A : Type 0} (d : List A) (o : Outcome (List A)) (s : TypeStop) → permits (preceded d o) s ≡ permits o s
preceded-permits d (Good a) NoMemory = refl
preceded-permits d (Good a) (Broken f) = refl
preceded-permits d (Bad fs) NoMemory = refl
preceded-permits d (Bad fs) (Broken f) = refl

flat_map-here : {A B : Type 0} (f : A → List B) (xs : List A) (i : ℕ) (x : A) → i < length xs → x ≡ get_or xs i x → flat_map f (drop i xs) ≡ f x ++ flat_map f (drop (i + 1) xs)
flat_map-here f xs i x h e = rw (add-one) (ap (flat_map f) (drop-cons xs i x h) ∙ ap (λ y. f y ++ flat_map f (drop (suc i) xs)) (sym e))

-- what is found in one element more
pub each-here : {A B : Type 0} (f : A → List (Outcome B)) (xs : List A) (i : ℕ) (x : A) (d e : List B) → i < length xs → x ≡ get_or xs i x → preceded d (each (f x)) ≡ Good e → preceded d (each (flat_map f (drop i xs))) ≡ preceded e (each (flat_map f (drop (i + 1) xs)))
each-here f xs i x d e h q g = ap (λ l. preceded d (each l)) (flat_map-here f xs i x h q) ∙ each-append d (f x) (flat_map f (drop (i + 1) xs)) e g

pub stops-here : {A B : Type 0} (f : A → List (Outcome B)) (xs : List A) (i : ℕ) (x : A) (d : List B) (s : TypeStop) → i < length xs → x ≡ get_or xs i x → permits (preceded d (each (f x))) s ≡ true → permits (preceded d (each (flat_map f (drop i xs)))) s ≡ true
stops-here f xs i x d s h q g =
    preceded-permits d (each (flat_map f (drop i xs))) s
    ∙ ap (λ l. permits (each l) s) (flat_map-here f xs i x h q)
    ∙ each-stops (f x) (flat_map f (drop (i + 1) xs)) s (sym (preceded-permits d (each (f x)) s) ∙ g)

pub each-end : {A B : Type 0} (f : A → List (Outcome B)) (xs : List A) (i : ℕ) (d : List B) → length xs ≤ i → preceded d (each (flat_map f (drop i xs))) ≡ Good d
unfolding each
each-end f xs i d h = ap (λ l. preceded d (each (flat_map f l))) (drop_all i xs h) ∙ ap Good (append-nil d)

pub ruleset starts_so_far = (each-here, stops-here, each-end, preceded-nil)

-- ---- one element, where there is one

pub one-started : {A : Type 0} (d : List A) (x : A) → preceded d (each (Good x ∷ [])) ≡ Good (d ++ x ∷ [])
unfolding each
one-started d x = refl

pub none-started : {A : Type 0} (d : List A) → preceded d (each []) ≡ Good d
unfolding each
none-started d = ap Good (append-nil d)

pub one-stops : {A : Type 0} (d : List A) (x : Outcome A) (s : TypeStop) → permits x s ≡ true → permits (preceded d (each (x ∷ []))) s ≡ true
unfolding each
one-stops d x s h = preceded-permits d (each (x ∷ [])) s ∙ permits-left x (Good []) (λ e es. Good (e ∷ es)) s h

pub ruleset started = (one-started, none-started, one-stops)

-- ---- the labels of a switch

pub drop-here : {A : Type 0} (xs : List A) (i : ℕ) (x : A) → i < length xs → x ≡ get_or xs i x → drop i xs ≡ x ∷ drop (i + 1) xs
drop-here xs i x h e = rw (add-one) (drop-cons xs i x h ∙ ap (λ y. y ∷ drop (suc i) xs) (sym e))

pub labels-end : (c : Cases) (ats : List Place) (ss : List TStmt) (i : ℕ) → length ss ≤ i → label_faults c ats (drop i ss) ≡ []
unfolding label_faults
labels-end c [] ss i h = refl
labels-end c (at ∷ ats) ss i h = ap (label_faults c (at ∷ ats)) (drop_all i ss h)

pub labels-none : (c : Cases) (ss : List TStmt) → label_faults c [] ss ≡ []
unfolding label_faults
labels-none c ss = refl

pub ruleset labels = (drop-here, labels-end, labels-none, append_assoc, append-nil)

-- ---- the cases of an alt

pub counted-here : (ss : List TStmt) (i : ℕ) (s : TStmt) → i < length ss → s ≡ get_or ss i s → is_alt_case s ≡ true → alt_cases (drop i ss) ≡ suc (alt_cases (drop (i + 1) ss))
counted-here ss i s h e c = ap alt_cases (drop-here ss i s h e) ∙ ap (λ b. length (if b then s ∷ filter is_alt_case (drop (i + 1) ss) else filter is_alt_case (drop (i + 1) ss))) c

pub passed-here : (ss : List TStmt) (i : ℕ) (s : TStmt) → i < length ss → s ≡ get_or ss i s → is_alt_case s ≡ false → alt_cases (drop i ss) ≡ alt_cases (drop (i + 1) ss)
passed-here ss i s h e c = ap alt_cases (drop-here ss i s h e) ∙ ap (λ b. length (if b then s ∷ filter is_alt_case (drop (i + 1) ss) else filter is_alt_case (drop (i + 1) ss))) c

pub counted-end : (ss : List TStmt) (i : ℕ) → length ss ≤ i → alt_cases (drop i ss) ≡ 0
counted-end ss i h = ap alt_cases (drop_all i ss h)

pub ruleset counted = (counted-here, passed-here, counted-end)
