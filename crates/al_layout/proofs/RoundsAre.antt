-- Rounds, and lists of places, from a place on.
use Rattle.std.proofs.Common.{◌≡◌, ℕ, zero, suc, ◌+◌, ◌-◌, ◌<◌, ◌≤◌, arith, List, length, get_or, drop, refl, ap, ◌∙◌, sym, drop-cons, add-one}
use Rattle.std.specs.Prelude.{slice_set}
use Rattle.std.proofs.lemmas.List.{drop_all}
use Rattle.al_layout.specs.declared.order.Placed.{Placed}
use Rattle.al_layout.specs.Order.{Graph, placed, round, rounds, left, with_left, places}

module _ (graph : Graph) where
  pub round-from : (n : ℕ) (parts : List ℕ) (w : Placed) → n < length graph → parts ≡ get_or graph n parts
      → round n (drop n graph) w ≡ round (n + 1) (drop (n + 1) graph) (placed w n parts)
  unfolding round
  round-from n parts w h is =
      ap (λ g. round n g w) (drop-cons graph n parts h)
      ∙ ap (λ x. round (n + 1) (drop (suc n) graph) (placed w n x)) (sym is)
      ∙ ap (λ k. round (n + 1) (drop k graph) (placed w n parts)) (sym (add-one n))

  pub round-end : (n : ℕ) (w : Placed) → length graph ≤ n → round n (drop n graph) w ≡ w
  unfolding round
  round-end n w h = ap (λ g. round n g w) (drop_all n graph h)

  pub left-from : (n : ℕ) (w : Placed) (parts : List ℕ) → n < length graph → parts ≡ get_or graph n parts
      → with_left n (drop n graph) w ≡ with_left (n + 1) (drop (n + 1) graph) (left w n)
  unfolding with_left
  left-from n w parts h is =
      ap (λ g. with_left n g w) (drop-cons graph n parts h)
      ∙ ap (λ k. with_left (n + 1) (drop k graph) (left w n)) (sym (add-one n))

  pub left-end : (n : ℕ) (w : Placed) → length graph ≤ n → with_left n (drop n graph) w ≡ w
  unfolding with_left
  left-end n w h = ap (λ g. with_left n g w) (drop_all n graph h)

  -- one round of those that are left
  pub rounds-next : (all n : ℕ) (w : Placed) → n < all → rounds (all - n) graph w ≡ rounds (all - (n + 1)) graph (round 0 graph w)
  unfolding rounds
  rounds-next all n w h = let e : all - n ≡ suc (all - (n + 1)) = omega arith in ap (λ k. rounds k graph w) e

  pub rounds-end : (all n : ℕ) (w : Placed) → all ≤ n → rounds (all - n) graph w ≡ w
  unfolding rounds
  rounds-end all n w h = let e : all - n ≡ 0 = omega arith in ap (λ k. rounds k graph w) e

  -- where one changes nothing, none does
  pub rounds-still : (n : ℕ) (w : Placed) → round 0 graph w ≡ w → rounds n graph w ≡ w
  unfolding rounds
  rounds-still zero w h = refl
  rounds-still (suc n) w h = ap (rounds n graph) h ∙ rounds-still n w h

pub ruleset round_is = (round-from, round-end)

pub ruleset left_is = (left-from, left-end)

pub ruleset rounds_are = (rounds-next, rounds-end, rounds-still)

pub places-from : (order : List ℕ) (n : ℕ) (ns : List ℕ) → n < length order
    → places n (drop n order) ns ≡ places (n + 1) (drop (n + 1) order) (slice_set ns (get_or order n 0) n)
unfolding places
places-from order n ns h =
    ap (λ l. places n l ns) (drop-cons order n 0 h)
    ∙ ap (λ j. places (n + 1) (drop j order) (slice_set ns (get_or order n 0) n)) (sym (add-one n))

pub places-end : (order : List ℕ) (n : ℕ) (ns : List ℕ) → length order ≤ n → places n (drop n order) ns ≡ ns
unfolding places
places-end order n ns h = ap (λ l. places n l ns) (drop_all n order h)

pub ruleset places_are = (places-from, places-end)
