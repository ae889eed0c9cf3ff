-- Iterators of one part after those of another.
use Rattle.std.proofs.Common.{◌≡◌, ℕ, suc, true, ◌+◌, ◌<◌, ◌≤◌, List, [], ◌∷◌, ◌++◌, length, drop, get_or, refl, ap, ◌∙◌, sym, append_assoc, length-append, drop-cons, add-one}
use Rattle.std.specs.List.{flat_map}
use Rattle.std.proofs.lemmas.List.{drop_all, append-nil}
use Rattle.al_rules.specs.declared.fault.TypeStop.{TypeStop}
use Rattle.al_rules.specs.declared.fault.TypeStop.TheVariants.{Fault as Broken, NoMemory}
use Rattle.al_rules.specs.Outcome.{Outcome, Good, Bad, and_then, preceded, permits}
use Rattle.al_rules.proofs.Permits.{permits-left, permits-right, permits-then, preceded-nil, preceded-cons}
use Rattle.al_typed.specs.declared.statement.TBounds.{TBounds}
use Rattle.al_type_expr.specs.Lists.{each}
use Rattle.al_type_stmt.specs.Iterators.{Spread, numbered, numbered_at, all_bounds, none_met, with_one, gathering, IsGathered}
use Rattle.al_type_stmt.specs.declared.iterators.Gathered.{Gathered}

pub gathering-append : (g : Gathered) (ss ts : List Spread) → gathering g (ss ++ ts) ≡ and_then (gathering g ss) (λ h. gathering h ts)
unfolding gathering
gathering-append g [] ts = refl
gathering-append g ((at, Good b) ∷ ss) ts = gathering-append (with_one g at b) ss ts
gathering-append g ((at, Bad fs) ∷ ss) ts = refl

pub ruleset joined = (gathering-append)

-- ---- a list, from a place on

pub gathering-here : {A : Type 0} (f : A → List Spread) (xs : List A) (g : Gathered) (i : ℕ) (x : A) → i < length xs → x ≡ get_or xs i x → gathering g (flat_map f (drop i xs)) ≡ and_then (gathering g (f x)) (λ h. gathering h (flat_map f (drop (i + 1) xs)))
gathering-here f xs g i x h e =
    rw (add-one) (ap (λ l. gathering g (flat_map f l)) (drop-cons xs i x h)
    ∙ gathering-append g (f (get_or xs i x)) (flat_map f (drop (suc i) xs))
    ∙ ap (λ y. and_then (gathering g (f y)) (λ h. gathering h (flat_map f (drop (suc i) xs)))) (sym e))

pub gathering-end : {A : Type 0} (f : A → List Spread) (xs : List A) (g : Gathered) (i : ℕ) → length xs ≤ i → gathering g (flat_map f (drop i xs)) ≡ Good g
unfolding gathering
gathering-end f xs g i h = ap (λ l. gathering g (flat_map f l)) (drop_all i xs h)

pub gathering-goes_on : {A : Type 0} (f : A → List Spread) (xs : List A) (o : Outcome Gathered) (g h : Gathered) (i : ℕ) (x : A) → o ≡ gathering g (flat_map f (drop i xs)) → i < length xs → x ≡ get_or xs i x → gathering g (f x) ≡ Good h → o ≡ gathering h (flat_map f (drop (i + 1) xs))
gathering-goes_on f xs o g h i x before l e q = before ∙ gathering-here f xs g i x l e ∙ ap (λ o. and_then o (λ h. gathering h (flat_map f (drop (i + 1) xs)))) q

pub gathering-stops : {A : Type 0} (f : A → List Spread) (xs : List A) (o : Outcome Gathered) (g : Gathered) (i : ℕ) (x : A) (s : TypeStop) → o ≡ gathering g (flat_map f (drop i xs)) → i < length xs → x ≡ get_or xs i x → permits (gathering g (f x)) s ≡ true → permits o s ≡ true
gathering-stops f xs o g i x s before l e q =
    ap (λ o. permits o s) (before ∙ gathering-here f xs g i x l e) ∙ permits-then (gathering g (f x)) (λ h. gathering h (flat_map f (drop (i + 1) xs))) s q

pub ruleset lists = (gathering-end)

-- ---- from none

good-is : (a b : Gathered) → Good a ≡ Good b → a ≡ b
good-is a b h = cc

numbers-after : (d : List TBounds) (b : TBounds) (ss : List Spread) → numbered (length (d ++ b ∷ [])) ss ≡ numbered (length d + 1) ss
numbers-after d b ss = ap (λ n. numbered n ss) (length-append d (b ∷ []))

gathered-is : (g : Gathered) (ss : List Spread) (h : Gathered) → gathering g ss ≡ Good h → (preceded g.bounds (all_bounds ss) ≡ Good h.bounds) × (h.numbers ≡ g.numbers ++ numbered (length g.bounds) ss)
unfolding gathering each
gathered-is g [] h e =
    (ap Good (append-nil g.bounds) ∙ ap (λ (x : Gathered). Good x.bounds) (good-is g h e), sym (ap (λ (x : Gathered). x.numbers) (good-is g h e)) ∙ sym (append-nil g.numbers))
gathered-is g ((at, Good b) ∷ ss) h e =
    let r : (preceded (g.bounds ++ b ∷ []) (all_bounds ss) ≡ Good h.bounds) × (h.numbers ≡ (g.numbers ++ numbered_at (length g.bounds) at) ++ numbered (length (g.bounds ++ b ∷ [])) ss) = gathered-is (with_one g at b) ss h e in (
      preceded-cons g.bounds b (all_bounds ss) ∙ r.0,
      r.1 ∙ ap (λ l. (g.numbers ++ numbered_at (length g.bounds) at) ++ l) (numbers-after g.bounds b ss) ∙ append_assoc g.numbers (numbered_at (length g.bounds) at) (numbered (length g.bounds + 1) ss),
    )
gathered-is g ((at, Bad fs) ∷ ss) h e = cc

stops : (g : Gathered) (ss : List Spread) (s : TypeStop) → permits (gathering g ss) s ≡ true → permits (all_bounds ss) s ≡ true
unfolding gathering each
stops g ss NoMemory h = refl
stops g [] (Broken f) h = cc
stops g ((at, Good b) ∷ ss) (Broken f) h = permits-right (Good b) (all_bounds ss) (λ e es. Good (e ∷ es)) (Broken f) (stops (with_one g at b) ss (Broken f) h)
stops g ((at, Bad fs) ∷ ss) (Broken f) h = permits-left (Bad fs) (all_bounds ss) (λ e es. Good (e ∷ es)) (Broken f) h

pub none-gathered : (ss : List Spread) (h : Gathered) → gathering none_met ss ≡ Good h → IsGathered h ss
none-gathered ss h e = let r : (preceded [] (all_bounds ss) ≡ Good h.bounds) × (h.numbers ≡ numbered 0 ss) = gathered-is none_met ss h e in (sym (preceded-nil (all_bounds ss)) ∙ r.0, r.1)

pub none-stops : (ss : List Spread) (s : TypeStop) → permits (gathering none_met ss) s ≡ true → permits (all_bounds ss) s ≡ true
none-stops ss s h = stops none_met ss s h

pub ruleset from_none = (none-gathered, none-stops)
