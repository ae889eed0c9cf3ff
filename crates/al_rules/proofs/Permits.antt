-- A fault of a part is one of the whole.
use Rattle.std.proofs.Common.{◌≡◌, ℕ, true, false, ◌||◌, List, [], ◌∷◌, ◌++◌, refl, ap, ◌∙◌, sym, append_assoc, suc, ◌+◌, ◌<◌, ◌≤◌, length, get_or, drop, map, drop-cons, add-one}
use Rattle.std.proofs.lemmas.List.{drop_all}
use Rattle.al_rules.specs.declared.fault.TypeFault.{TypeFault}
use Rattle.al_rules.specs.declared.fault.TypeStop.{TypeStop}
use Rattle.al_rules.specs.declared.fault.TypeStop.TheVariants.{Fault as Broken, NoMemory}
use Rattle.al_rules.specs.Outcome.{Outcome, Good, Bad, and_then, both, pair, preceded, same_fault, among, permits}

among-left : (f : TypeFault) (fs gs : List TypeFault) → among f fs ≡ true → among f (fs ++ gs) ≡ true
among-left f [] gs h = cc
among-left f (g ∷ fs) gs h = elim (same_fault f g) as (λ b. (b || among f fs) ≡ true → (b || among f (fs ++ gs)) ≡ true) [ true ↦ λ _. refl | false ↦ among-left f fs gs ] h

among-right : (f : TypeFault) (fs gs : List TypeFault) → among f gs ≡ true → among f (fs ++ gs) ≡ true
among-right f [] gs h = h
among-right f (g ∷ fs) gs h = elim (same_fault f g) as (λ b. (b || among f (fs ++ gs)) ≡ true) [ true ↦ refl | false ↦ among-right f fs gs h ]

pub permits-left : {A B C : Type 0} (x : Outcome A) (y : Outcome B) (f : A → B → Outcome C) (s : TypeStop) → permits x s ≡ true → permits (both x y f) s ≡ true
permits-left x y f NoMemory h = refl
permits-left (Good a) y f (Broken g) h = cc
permits-left (Bad fs) (Good b) f (Broken g) h = h
permits-left (Bad fs) (Bad gs) f (Broken g) h = among-left g fs gs h

pub permits-right : {A B C : Type 0} (x : Outcome A) (y : Outcome B) (f : A → B → Outcome C) (s : TypeStop) → permits y s ≡ true → permits (both x y f) s ≡ true
permits-right x y f NoMemory h = refl
permits-right x (Good b) f (Broken g) h = cc
permits-right (Good a) (Bad gs) f (Broken g) h = h
permits-right (Bad fs) (Bad gs) f (Broken g) h = among-right g fs gs h

pub permits-then : {A B : Type 0} (x : Outcome A) (f : A → Outcome B) (s : TypeStop) → permits x s ≡ true → permits (and_then x f) s ≡ true
permits-then x f NoMemory h = refl
permits-then (Good a) f (Broken g) h = cc
permits-then (Bad fs) f (Broken g) h = h

pub permits-pair-left : {A B : Type 0} (x : Outcome A) (y : Outcome B) (s : TypeStop) → permits x s ≡ true → permits (pair x y) s ≡ true
permits-pair-left x y s h = permits-left x y (λ a b. Good (a, b)) s h

pub permits-pair-right : {A B : Type 0} (x : Outcome A) (y : Outcome B) (s : TypeStop) → permits y s ≡ true → permits (pair x y) s ≡ true
permits-pair-right x y s h = permits-right x y (λ a b. Good (a, b)) s h

pub permits-preceded : {A : Type 0} (d : List A) (x : Outcome (List A)) (s : TypeStop) → permits x s ≡ true → permits (preceded d x) s ≡ true
permits-preceded d x NoMemory h = refl
permits-preceded d (Good a) (Broken g) h = cc
permits-preceded d (Bad fs) (Broken g) h = h

pub preceded-nil : {A : Type 0} (x : Outcome (List A)) → preceded [] x ≡ x
preceded-nil (Good a) = refl
preceded-nil (Bad fs) = refl

pub preceded-cons : {A : Type 0} (d : List A) (e : A) (x : Outcome (List A)) → preceded d (both (Good e) x (λ e es. Good (e ∷ es))) ≡ preceded (d ++ e ∷ []) x
preceded-cons d e (Good a) = ap Good (sym (append_assoc d (e ∷ []) a))
preceded-cons d e (Bad fs) = refl

pub ruleset permitted = (permits-left, permits-right, permits-pair-left, permits-pair-right, permits-then, permits-preceded)

-- the list from a place on begins with what stands there
pub from_here : {A B : Type 0} (f : A → B) (xs : List A) (i : ℕ) (x : A) → i < length xs → x ≡ get_or xs i x → map f (drop i xs) ≡ f x ∷ map f (drop (i + 1) xs)
from_here f xs i x h e = rw (add-one) (ap (map f) (drop-cons xs i x h) ∙ ap (λ y. f y ∷ map f (drop (suc i) xs)) (sym e))

-- and past its end there is nothing
pub none_here : {A B : Type 0} (f : A → B) (xs : List A) (i : ℕ) → length xs ≤ i → map f (drop i xs) ≡ []
none_here f xs i h = ap (map f) (drop_all i xs h)

pub ruleset fronts = (preceded-nil, preceded-cons, from_here, none_here)
