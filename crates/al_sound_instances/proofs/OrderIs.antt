-- Each form has a number, where forms are few: the numbers are places in an order that has each form at most once.
use Rattle.std.proofs.Common.{◌≡◌, ℕ, zero, suc, ◌+◌, ◌<◌, ◌≤◌, Bool, true, false, ◌&&◌, List, [], ◌∷◌, map, length, Some, None, arith, refl, sym, ap, ◌∙◌, subst}
use Rattle.std.specs.Prelude.{if◌then◌else◌, nat_le, not, option_and_then, slice_get, slice_set}
use Rattle.std.specs.List.{list_all}
use Rattle.std.proofs.lemmas.List.{length-map}
use Rattle.std.proofs.lemmas.Bool.Decides.{nat_tests}
use Rattle.al_rules.specs.Outcome.{Good}
use Rattle.al_form.specs.declared.form.Forms.{Forms}
use Rattle.al_layout.specs.declared.row.LaidOut.{LaidOut}
use Rattle.al_layout.specs.Order.{Graph, begun, coming, has_come, left, numbers, order, placed, places, round, rounds, with_left}
use Rattle.al_layout.specs.Rows.{laid as laid_as, laid_out, with_rows}
use Rattle.al_layout.specs.Types.{form_parts, number_of_form, within}
use Rattle.al_sound_environment.specs.Members.{Every}
use Rattle.al_sound_environment.proofs.Lists.{every_at, every_set, good_is, then_good}
use Rattle.al_sound_calls.proofs.Lists.{length_more}
use Rattle.al_sound_instances.proofs.Unnamed.{Placed}

-- the most numbers of forms
abbrev pub most : ℕ
most = 4294967295

pub le_is : (m n : ℕ) → m ≤ n → nat_le m n ≡ true
le_is m n h = grind (arith, nat_tests)

-- how many have come
abbrev trues : List Bool → ℕ
trues [] = 0
trues (true ∷ bs) = suc (trues bs)
trues (false ∷ bs) = trues bs

trues_few : (bs : List Bool) → trues bs ≤ length bs
trues_few [] = omega arith
trues_few (true ∷ bs) = omega (arith, trues_few bs)
trues_few (false ∷ bs) = omega (arith, trues_few bs)

no_trues : {A : Type 0} (xs : List A) → trues (map (λ _. false) xs) ≡ 0
no_trues [] = refl
no_trues (x ∷ xs) = no_trues xs

pub length_set : {A : Type 0} (xs : List A) (k : ℕ) (y : A) → length (slice_set xs k y) ≡ length xs
length_set [] k y = refl
length_set (x ∷ xs) zero y = refl
length_set (x ∷ xs) (suc k) y = ap suc (length_set xs k y)

set_true : (bs : List Bool) (k : ℕ) → k < length bs → has_come bs k ≡ false → trues (slice_set bs k true) ≡ suc (trues bs)
set_true [] k lt h = absurd (omega (arith, lt))
set_true (true ∷ bs) zero lt h = absurd (let f : ⊥ = cc in f)
set_true (false ∷ bs) zero lt h = refl
set_true (true ∷ bs) (suc k) lt h = ap suc (set_true bs k (omega (arith, lt)) h)
set_true (false ∷ bs) (suc k) lt h = set_true bs k (omega (arith, lt)) h

record IsRight (n : ℕ) (w : Placed) : Type 0 where
  all : length w.come ≡ n
  once : length w.order ≡ trues w.come

coming_right : (n k : ℕ) (w : Placed) → k < n → has_come w.come k ≡ false → IsRight n w → IsRight n (coming w k)
coming_right n k w lt h r =
    record { all = length_set w.come k true ∙ r.all; once = length_more w.order k ∙ ap suc r.once ∙ sym (set_true w.come k (subst (λ m. k < m) (sym r.all) lt) h) }

not_true : (a b : Bool) → (not a && b) ≡ true → a ≡ false
not_true true b h = absurd (let f : ⊥ = cc in f)
not_true false b h = refl

placed_right : (n k : ℕ) (parts : List ℕ) (w : Placed) → k < n → IsRight n w → IsRight n (placed w k parts)
unfolding placed
placed_right n k parts w lt r = go (not (has_come w.come k) && list_all (has_come w.come) parts) refl
  where
    go : (c : Bool) → (not (has_come w.come k) && list_all (has_come w.come) parts) ≡ c → IsRight n (if c then coming w k else w)
    go true h = coming_right n k w lt (not_true (has_come w.come k) _ h) r
    go false h = r

round_right : (graph : Graph) (n from : ℕ) (w : Placed) → from + length graph ≡ n → IsRight n w → IsRight n (round from graph w)
unfolding round
round_right [] n from w h r = r
round_right (parts ∷ rest) n from w h r = round_right rest n (from + 1) (placed w from parts) (omega (arith, h)) (placed_right n from parts w (omega (arith, h)) r)

rounds_right : (m : ℕ) (graph : Graph) (w : Placed) → IsRight (length graph) w → IsRight (length graph) (rounds m graph w)
unfolding rounds
rounds_right zero graph w r = r
rounds_right (suc m) graph w r = rounds_right m graph (round 0 graph w) (round_right graph (length graph) 0 w (omega arith) r)

left_right : (n k : ℕ) (w : Placed) → k < n → IsRight n w → IsRight n (left w k)
unfolding left
left_right n k w lt r = go (has_come w.come k) refl
  where
    go : (c : Bool) → has_come w.come k ≡ c → IsRight n (if c then w else coming w k)
    go true h = r
    go false h = coming_right n k w lt h r

with_left_right : (graph : Graph) (n from : ℕ) (w : Placed) → from + length graph ≡ n → IsRight n w → IsRight n (with_left from graph w)
unfolding with_left
with_left_right [] n from w h r = r
with_left_right (parts ∷ rest) n from w h r = with_left_right rest n (from + 1) (left w from) (omega (arith, h)) (left_right n from w (omega (arith, h)) r)

pub order_few : (graph : Graph) → length (order graph) ≤ length graph
unfolding order
order_few graph =
    let start : IsRight (length graph) (begun graph) = record { all = length-map graph (λ _. false); once = sym (no_trues graph) } in
    let w = with_left 0 graph (rounds (length graph) graph (begun graph)) in
    let r = with_left_right graph (length graph) 0 (rounds (length graph) graph (begun graph)) (omega arith) (rounds_right (length graph) graph (begun graph) start) in
    let few = trues_few w.come in
    omega (arith, few, r.all, r.once)

-- ---- numbers

places_few : (m from : ℕ) (ks ns : List ℕ) → from + length ks ≤ m → Every (λ n. n ≤ m) ns → Every (λ n. n ≤ m) (places from ks ns)
unfolding places
places_few m from [] ns h all = all
places_few m from (k ∷ ks) ns h all = places_few m (from + 1) ks (slice_set ns k from) (omega (arith, h)) (every_set (λ n. n ≤ m) ns k from all (omega (arith, h)))

places_length : (from : ℕ) (ks ns : List ℕ) → length (places from ks ns) ≡ length ns
unfolding places
places_length from [] ns = refl
places_length from (k ∷ ks) ns = places_length (from + 1) ks (slice_set ns k from) ∙ length_set ns k from

none_yet : {A : Type 0} (m : ℕ) (xs : List A) → Every (λ n. n ≤ m) (map (λ _. 0) xs)
none_yet m [] = tt
none_yet m (x ∷ xs) = (omega arith, none_yet m xs)

pub get_within : {A : Type 0} (xs : List A) (k : ℕ) → k < length xs → (x : A) × (slice_get xs k ≡ Some x)
get_within [] k lt = absurd (omega (arith, lt))
get_within (x ∷ xs) zero lt = (x, refl)
get_within (x ∷ xs) (suc k) lt = get_within xs k (omega (arith, lt))

-- where forms are few, each has a number
pub has_number : (graph : Graph) → length graph ≤ most → (k : ℕ) → k < length graph → (n : ℕ) × (number_of_form (numbers graph) (Some k) ≡ Some n)
unfolding numbers number_of_form
has_number graph few k lt =
    let none : List ℕ = map (λ _. 0) graph in
    let ns : List ℕ = places 0 (order graph) none in
    let all : length ns ≡ length graph = places_length 0 (order graph) none ∙ length-map graph (λ _. 0) in
    let x : (n : ℕ) × (slice_get ns k ≡ Some n) = get_within ns k (subst (λ m. k < m) (sym all) lt) in
    let o : length (order graph) ≤ length graph = order_few graph in
    let small : x.0 ≤ most = every_at (λ n. n ≤ most) ns k x.0 x.1 (places_few most 0 (order graph) none (omega (arith, o, few)) (none_yet most graph)) in
    (x.0, ap (option_and_then within) x.1 ∙ ap (λ b. if b then Some x.0 else None) (le_is x.0 most small))

-- the forms of a text
pub form_has_number : (fs : Forms) (laid : LaidOut) → laid_out fs ≡ Good laid → length fs.list ≤ most → (k : ℕ) → k < length fs.list
    → (n : ℕ) × (number_of_form laid.numbers (Some k) ≡ Some n)
unfolding laid_out
form_has_number fs laid h few k lt =
    let graph = map (form_parts fs) fs.list in
    let t = then_good (with_rows fs (numbers graph) [] (order graph)) (laid_as (order graph) (numbers graph)) laid h in
    let same : length graph ≡ length fs.list = length-map fs.list (form_parts fs) in
    subst (λ (l : LaidOut). (n : ℕ) × (number_of_form l.numbers (Some k) ≡ Some n)) (good_is t.2)
    (has_number graph (subst (λ m. m ≤ most) (sym same) few) k (subst (λ m. k < m) (sym same) lt))
