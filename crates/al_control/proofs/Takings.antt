-- What was found is taken.
use Rattle.std.proofs.Common.{◌≡◌, ℕ, zero, suc, ◌+◌, ◌-◌, ◌<◌, ◌≤◌, List, [], ◌∷◌, map, Result, IfOk, refl, sym, ap, subst, ◌∙◌, arith}
use Rattle.std.proofs.lemmas.Result.{IfOk-weaker}
use Rattle.al_typed.specs.declared.program.Program.{Program}
use Rattle.al_meaning.specs.Items as item
use Rattle.al_meaning.specs.Here as step
use Rattle.al_control.specs.declared.work.Found.{Found}
use Rattle.al_control.specs.declared.work.Found.TheVariants as found
use Rattle.al_control.specs.declared.control.Here.{Here}
use Rattle.al_control.specs.declared.control.Next.{Next}
use Rattle.al_control.specs.declared.take.Taken.{Taken}
use Rattle.al_control.specs.declared.take.Taken.TheVariants.{Took}
use Rattle.al_control.specs.Models.{found_of, here_of, next_of}
use Rattle.al_control.specs.Takes.{Keeps, taken_by}

-- with these found
abbrev pub finding : Here → List Found → Here
finding h fs = record h { frame = record h.frame { found = fs } }

-- what is found again is what was found
pub value_there : (h : Here) (f : Found) (fs : List Found) (k : List ℕ → step.Here → step.Next) → h.frame.found ≡ f ∷ fs
    → step.with_value (here_of h) k
    ≡ step.value_taken (found_of f ∷ map found_of fs) (step.with_found (found_of f ∷ map found_of fs) (here_of (finding h fs))) k
value_there h f fs k e = ap (λ l. step.value_taken (map found_of l) (here_of (finding h l)) k) e

pub no_value : (h : Here) (fs : List Found) (k : List ℕ → step.Here → step.Next) → h.frame.found ≡ [] → fs ≡ []
    → step.with_value (here_of h) k ≡ step.lost (here_of (finding h fs))
no_value h fs k e e' = ap (λ l. step.value_taken (map found_of l) (here_of (finding h l)) k) e ∙ ap (λ l. step.lost (here_of (finding h l))) (sym e')

pub place_there : (h : Here) (f : Found) (fs : List Found) (k : item.Found → step.Here → step.Next) → h.frame.found ≡ f ∷ fs
    → step.with_place (here_of h) k ≡ k (found_of f) (here_of (finding h fs))
place_there h f fs k e = ap (λ l. step.place_taken (map found_of l) (here_of (finding h l)) k) e

pub no_place : (h : Here) (fs : List Found) (k : item.Found → step.Here → step.Next) → h.frame.found ≡ [] → fs ≡ []
    → step.with_place (here_of h) k ≡ step.lost (here_of (finding h fs))
no_place h fs k e e' = ap (λ l. step.place_taken (map found_of l) (here_of (finding h l)) k) e ∙ ap (λ l. step.lost (here_of (finding h l))) (sym e')

-- ---- how a step goes on

-- with what was taken
pub goes_on : {T E : Type 0} (r : Result Next E) (t : Taken T) (x : T) (h : Here) (s : step.Next) (k : T → step.Here → step.Next) → s ≡ taken_by t k → t ≡ Took x h
    → IfOk r (λ n. next_of n ≡ k x (here_of h)) → IfOk r (λ n. next_of n ≡ s)
goes_on r t x h s k e is goes =
    IfOk-weaker r _ _ (λ n (e' : next_of n ≡ k x (here_of h)). e' ∙ sym (e ∙ ap (λ t. taken_by t k) is)) goes

pub keeps_took : {T : Type 0} (p : Program) (t : Taken T) (x : T) (h : Here) → t ≡ Took x h → Keeps p t → h.program.now ≡ p
keeps_took p t x h is keeps = subst (Keeps p) is keeps

-- ---- several

one_less : (count i : ℕ) → i < count → count - i ≡ suc (count - (i + 1))
one_less count i h = omega arith

none_left : (count i : ℕ) → count ≤ i → count - i ≡ 0
none_left count i h = omega arith

pub values_begun : (count : ℕ) (h : step.Here) (k : List (List ℕ) → step.Here → step.Next) → step.with_values count h k ≡ step.words_before (count - 0) [] h k
values_begun count h k = ap (λ n. step.words_before n [] h k) (omega arith)

pub value_more : (count i : ℕ) (values : List (List ℕ)) (h : step.Here) (k : List (List ℕ) → step.Here → step.Next) → i < count
    → step.words_before (count - i) values h k ≡ step.with_value h (λ ws h. step.words_before (count - (i + 1)) (ws ∷ values) h k)
value_more count i values h k below = ap (λ n. step.words_before n values h k) (one_less count i below)

pub values_over : (count i : ℕ) (values : List (List ℕ)) (h : step.Here) (k : List (List ℕ) → step.Here → step.Next) → count ≤ i
    → step.words_before (count - i) values h k ≡ k values h
values_over count i values h k past = ap (λ (n : ℕ). step.words_before n values h k) (none_left count i past)

pub places_begun : (count : ℕ) (h : step.Here) (k : List item.Found → step.Here → step.Next) → step.places_before count [] h k ≡ step.places_before (count - 0) [] h k
places_begun count h k = ap (λ n. step.places_before n [] h k) (omega arith)

pub place_more : (count i : ℕ) (places : List item.Found) (h : step.Here) (k : List item.Found → step.Here → step.Next) → i < count
    → step.places_before (count - i) places h k ≡ step.with_place h (λ f h. step.places_before (count - (i + 1)) (f ∷ places) h k)
place_more count i places h k below = ap (λ n. step.places_before n places h k) (one_less count i below)

pub places_over : (count i : ℕ) (places : List item.Found) (h : step.Here) (k : List item.Found → step.Here → step.Next) → count ≤ i
    → step.places_before (count - i) places h k ≡ k places h
places_over count i places h k past = ap (λ (n : ℕ). step.places_before n places h k) (none_left count i past)
