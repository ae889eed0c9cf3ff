-- The functions of a text, and the branches of pars in them, are no more than its tokens.
use Rattle.std.proofs.Common.{◌≡◌, ◌+◌, ◌≤◌, Bool, true, false, List, [], ◌∷◌, ◌++◌, length, flat_map, refl, sym, ap, arith, length-append}
use Rattle.al_base.specs.declared.place.Place.{Place}
use Rattle.al_lex.specs.declared.token.Token.{Token}
use Rattle.al_tree.specs.Leaves.{leaves_of}
use Rattle.al_rules.specs.Outcome.{same_place}
use Rattle.al_branches.specs.Statements.{in_par}
use Rattle.al_tree_places.specs.Few.{BodiesAreFew, body_places}
use Rattle.al_tree_places.proofs.Times.{one_if, times, times_append, places, Within}
use Rattle.al_tree_places.proofs.BodiesAre.{branches_modest, items_marks}
use Rattle.al_tree_places.proofs.TokensAre.{same_is, same_self}

-- what stands before a place in a list, and behind it
abbrev Parts : Place → List Place → Type 0
Parts at ps = (front : List Place) × (rest : List Place) × (ps ≡ front ++ at ∷ rest)

parts : (at : Place) (ps : List Place) → 1 ≤ times at ps → Parts at ps
parts at [] h = absurd (omega (arith, h))
parts at (p ∷ ps) h = on (same_place at p) refl (parts at ps)
  where
    on : (same : Bool) → same_place at p ≡ same → (1 ≤ times at ps → Parts at ps) → Parts at (p ∷ ps)
    on true q rest = ([], ps, ap (λ x. x ∷ ps) (sym (same_is at p q)))
    on false q rest =
        let all : 1 ≤ one_if (same_place at p) + times at ps = h in
        let other : one_if (same_place at p) ≡ 0 = ap one_if q in
        let r = rest (omega (arith, all, other)) in
        (p ∷ r.0, r.1, ap (λ xs. p ∷ xs) r.2)

-- a list in which each place stands no more often is no longer
no_longer : (ps qs : List Place) → ((at : Place) → times at ps ≤ times at qs) → length ps ≤ length qs
no_longer [] qs h = omega arith
no_longer (p ∷ ps) qs h =
    let own : one_if (same_place p p) ≡ 1 = ap one_if (same_self p) in
    let first : one_if (same_place p p) + times p ps ≤ times p qs = h p in
    let s = parts p qs (omega (arith, own, first)) in
    let fewer : length ps ≤ length (s.0 ++ s.1) = no_longer ps (s.0 ++ s.1) (rest_few s.0 s.1 s.2) in
    omega (arith, fewer, ap length s.2, length-append s.0 (p ∷ s.1), length-append s.0 s.1)
  where
    rest_few : (front rest : List Place) → qs ≡ front ++ p ∷ rest → (at : Place) → times at ps ≤ times at (front ++ rest)
    rest_few front rest e at =
        let all : one_if (same_place at p) + times at ps ≤ times at qs = h at in
        let whole : times at (front ++ p ∷ rest) ≡ times at front + (one_if (same_place at p) + times at rest) = times_append at front (p ∷ rest) in
        omega (arith, all, ap (times at) e, whole, times_append at front rest)

places_many : (u : List Token) → length (places u) ≡ length u
places_many [] = refl
places_many (t ∷ u) = let e : length (places u) ≡ length u = places_many u in omega (arith, e)

within_few : (u : List Token) (ats : List Place) → Within u ats → length ats ≤ length u
within_few u ats f = omega (arith, no_longer ats (places u) f.few, places_many u)

pub bodies_are_few : BodiesAreFew
bodies_are_few tokens tree height is =
    let few = within_few is.front (flat_map (body_places in_par) tree.items) (items_marks in_par branches_modest (leaves_of tokens.text) is.tree_of.items) in
    omega (arith, few, ap length is.is, length-append is.front (is.last ∷ []))
