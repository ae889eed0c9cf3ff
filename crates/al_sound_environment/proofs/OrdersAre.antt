-- Each number of the order of forms is that of a form.
use Rattle.std.proofs.Common.{◌≡◌, ℕ, zero, suc, ◌+◌, ◌<◌, Bool, true, false, ◌&&◌, List, [], ◌∷◌, map, length, arith, refl, subst, inl, inr}
use Rattle.std.specs.Prelude.{if◌then◌else◌, not}
use Rattle.std.specs.List.{list_all}
use Rattle.std.proofs.lemmas.List.{length-map}
use Rattle.std.proofs.lemmas.Option.{slice_get_cases}
use Rattle.al_rules.specs.Outcome.{Good}
use Rattle.al_form.specs.declared.form.Forms.{Forms}
use Rattle.al_layout.specs.declared.row.LaidOut.{LaidOut}
use Rattle.al_layout.specs.Order.{Graph, begun, coming, has_come, left, numbers, order, placed, round, rounds, with_left}
use Rattle.al_layout.specs.Rows.{laid as laid_as, laid_out, with_rows}
use Rattle.al_layout.specs.Types.{form_parts}
use Rattle.al_sound_environment.specs.Members.{AreForms, Every}
use Rattle.al_sound_environment.proofs.Lists.{every_more, good_is, then_good}

abbrev Below : ℕ → List ℕ → Type 0
Below n ks = Every (λ k. k < n) ks

coming_right : (n k : ℕ) (w : _) → coming w k ≡ coming w k → k < n → Below n w.order → Below n (coming w k).order
coming_right n k w is h r = every_more (λ j. j < n) w.order k r h

placed_right : (n k : ℕ) (parts : List ℕ) (w : _) → placed w k parts ≡ placed w k parts → k < n → Below n w.order → Below n (placed w k parts).order
unfolding placed
placed_right n k parts w is h r = go (not (has_come w.come k) && list_all (has_come w.come) parts)
  where
    go : (c : Bool) → Below n (if c then coming w k else w).order
    go true = coming_right n k w refl h r
    go false = r

round_right : (graph : Graph) (n from : ℕ) (w : _) → round from graph w ≡ round from graph w → from + length graph ≡ n → Below n w.order → Below n (round from graph w).order
unfolding round
round_right [] n from w is h r = r
round_right (parts ∷ rest) n from w is h r = round_right rest n (from + 1) (placed w from parts) refl (omega arith) (placed_right n from parts w refl (omega arith) r)

rounds_right : (m : ℕ) (graph : Graph) (w : _) → rounds m graph w ≡ rounds m graph w → Below (length graph) w.order → Below (length graph) (rounds m graph w).order
unfolding rounds
rounds_right zero graph w is r = r
rounds_right (suc m) graph w is r = rounds_right m graph (round 0 graph w) refl (round_right graph (length graph) 0 w refl (omega arith) r)

left_right : (n k : ℕ) (w : _) → left w k ≡ left w k → k < n → Below n w.order → Below n (left w k).order
unfolding left
left_right n k w is h r = go (has_come w.come k)
  where
    go : (c : Bool) → Below n (if c then w else coming w k).order
    go true = r
    go false = coming_right n k w refl h r

with_left_right : (graph : Graph) (n from : ℕ) (w : _) → with_left from graph w ≡ with_left from graph w → from + length graph ≡ n → Below n w.order → Below n (with_left from graph w).order
unfolding with_left
with_left_right [] n from w is h r = r
with_left_right (parts ∷ rest) n from w is h r = with_left_right rest n (from + 1) (left w from) refl (omega arith) (left_right n from w refl (omega arith) r)

order_below : (graph : Graph) → Below (length graph) (order graph)
unfolding order
order_below graph =
    with_left_right graph (length graph) 0 (rounds (length graph) graph (begun graph)) refl (omega arith) (rounds_right (length graph) graph (begun graph) refl tt)

-- ---- forms

every_form : (fs : Forms) (ks : List ℕ) → Below (length fs.list) ks → AreForms fs ks
every_form fs [] h = tt
every_form fs (k ∷ ks) h = (
  elim (slice_get_cases fs.list k).1 [
    | inl x ↦ (x.0, x.2)
    | inr x ↦ absurd (omega (arith, x.0, h.0))
  ],
  every_form fs ks h.1,
)

pub are_forms : (fs : Forms) (laid : LaidOut) → laid_out fs ≡ Good laid → AreForms fs laid.forms
unfolding laid_out
are_forms fs laid h =
    let graph = map (form_parts fs) fs.list in
    let t = then_good (with_rows fs (numbers graph) [] (order graph)) (laid_as (order graph) (numbers graph)) laid h in
    subst (λ (l : LaidOut). AreForms fs l.forms) (good_is t.2)
    (every_form fs (order graph) (subst (λ n. Below n (order graph)) (length-map fs.list (form_parts fs)) (order_below graph)))
