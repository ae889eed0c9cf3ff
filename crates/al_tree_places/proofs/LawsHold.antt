-- Places of names, jumps and branches are apart, and an entry is found at the place of each name.
use Rattle.std.proofs.Common.{◌≡◌, ℕ, zero, suc, ◌+◌, ◌<◌, ◌≤◌, Bool, true, false, cond, List, [], ◌∷◌, length, map, find, Some, option_map, refl, sym, ap, ◌∙◌, subst, arith}
use Rattle.std.specs.List.{slice_index_or}
use Rattle.al_base.specs.declared.place.Place.{Place}
use Rattle.al_lex.specs.declared.token.Token.{Token}
use Rattle.al_lex.specs.Written.{IsCutInto}
use Rattle.al_tree.specs.Leaves.{leaves_of}
use Rattle.al_tree.specs.Tree.{IsTree}
use Rattle.al_tree.specs.declared.item.Tree.{Tree}
use Rattle.al_rules.specs.Outcome.{same_place}
use Rattle.al_scope.specs.declared.declaration.Resolved.{Resolved}
use Rattle.al_scope.specs.Firsts.{declaration_at}
use Rattle.al_branches.specs.Statements.{branch_places, in_par, place}
use Rattle.al_tree_places.specs.Names.{resolved_places}
use Rattle.al_tree_places.specs.Jumps.{jump_places}
use Rattle.al_tree_places.specs.Apart.{PlacesAreApart}
use Rattle.al_tree_places.specs.Entries.{place_of, EntriesAreFound}
use Rattle.al_tree_places.proofs.Times.{one_if, times, places, Within}
use Rattle.al_tree_places.proofs.ItemsAre.{items_within}
use Rattle.al_tree_places.proofs.BodiesAre.{jumps_modest, branches_modest, body_within}
use Rattle.al_tree_places.proofs.TokensAre.{same_is, same_self, tokens_once, once_apart}
use Rattle.al_tree_places.proofs.ItemsResolve.{entries_are}

-- ---- places

once_within : {u : List Token} {ats : List Place} → Within u ats → ((at : Place) → times at (places u) ≤ 1) → (at : Place) → times at ats ≤ 1
once_within {u} {ats} f h at = let p : times at ats ≤ times at (places u) = f.few at in omega (arith, p, h at)

names_once : (text : List ℕ) (tokens : List Token) (tree : Tree) (height : ℕ) → IsCutInto text tokens → IsTree (record { list = tokens; text = text }) tree height → (at : Place) → times at (resolved_places tree) ≤ 1
names_once text tokens tree height c is = once_within (items_within (leaves_of text) is.tree_of.items) (tokens_once text tokens is.front is.last c is.is)

-- without its first place
rest_once : (p : Place) (ps : List Place) → ((at : Place) → times at (p ∷ ps) ≤ 1) → (at : Place) → times at ps ≤ 1
rest_once p ps h at = let all : one_if (same_place at p) + times at ps ≤ 1 = h at in omega (arith, all)

pub places_are_apart : PlacesAreApart
places_are_apart text tokens tree height c is =
    let once = tokens_once text tokens is.front is.last c is.is in
    let leaves = leaves_of text in
    record {
      names = once_apart (resolved_places tree) (names_once text tokens tree height c is);
      jumps = λ k body b. once_apart (jump_places body) (once_within (body_within jump_places jumps_modest leaves tree is.tree_of.items k body b) once);
      branches = λ k body b.
          once_apart (branch_places body) (rest_once (place body) (branch_places body) (once_within (body_within in_par branches_modest leaves tree is.tree_of.items k body b) once));
    }

-- ---- entries

there : (names : List Resolved) (r : Resolved) (k : ℕ) → k < length names → slice_index_or names k r ≡ r → 1 ≤ times r.at (map place_of names)
there [] r k b e = absurd (omega (arith, b))
there (x ∷ names) r zero b e =
    let same : one_if (same_place r.at x.at) ≡ 1 = ap (λ (y : Resolved). one_if (same_place r.at y.at)) e ∙ ap one_if (same_self r.at) in
    omega (arith, same)
there (x ∷ names) r (suc k) b e = let h : 1 ≤ times r.at (map place_of names) = there names r k (omega (arith, b)) e in omega (arith, h)

found_at : (names : List Resolved) → ((at : Place) → times at (map place_of names) ≤ 1) → (r : Resolved) (k : ℕ) → k < length names → slice_index_or names k r ≡ r → declaration_at names r.at ≡ Some r.declaration
unfolding declaration_at
found_at [] h r k b e = absurd (omega (arith, b))
found_at (x ∷ names) h r zero b e =
    ap (λ (y : Resolved). option_map (λ (s : Resolved). s.declaration) (cond (same_place y.at r.at) (Some x) (find (λ (s : Resolved). same_place s.at r.at) names))) e
    ∙ ap (λ b. option_map (λ (s : Resolved). s.declaration) (cond b (Some x) (find (λ (s : Resolved). same_place s.at r.at) names))) (same_self r.at) ∙ ap (λ (y : Resolved). Some y.declaration) e
found_at (x ∷ names) h r (suc k) b e = on (same_place x.at r.at) refl (found_at names (rest_once x.at (map place_of names) h) r k (omega (arith, b)) e)
  where
    all : one_if (same_place r.at x.at) + times r.at (map place_of names) ≤ 1
    all = h r.at

    on : (same : Bool) → same_place x.at r.at ≡ same → option_map (λ (s : Resolved). s.declaration) (find (λ (s : Resolved). same_place s.at r.at) names) ≡ Some r.declaration
        → option_map (λ (s : Resolved). s.declaration) (cond same (Some x) (find (λ (s : Resolved). same_place s.at r.at) names)) ≡ Some r.declaration
    on true q rest =
        let own : one_if (same_place r.at x.at) ≡ 1 = ap (λ p. one_if (same_place r.at p)) (same_is x.at r.at q) ∙ ap one_if (same_self r.at) in
        let some : 1 ≤ times r.at (map place_of names) = there names r k (omega (arith, b)) e in
        absurd (omega (arith, own, some, all))
    on false q rest = rest

pub entries_are_found : EntriesAreFound
entries_are_found text tokens tree height scopes c is e =
    let same = entries_are tree scopes e in
    record {
      places = same;
      found = λ r i. found_at scopes.names (λ at. subst (λ ps. times at ps ≤ 1) (sym same) (names_once text tokens tree height c is at)) r i.0 i.1 i.2;
    }
