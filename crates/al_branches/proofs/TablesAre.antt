-- What stands in the tables.
use Rattle.std.proofs.Common.{◌≡◌, ℕ, zero, suc, ◌+◌, ◌<◌, ◌≤◌, ◌^◌, ◌-◌, ◌*◌, ◌∷◌, min, List, [], length, get_or, map, take, refl, ap, ◌∙◌, arith}
use Rattle.std.proofs.lemmas.List.{length-map}
use Rattle.std.proofs.lemmas.List.FromFn.{length-map-range_with_len, get_or-map-range_with_len}
use Rattle.std.proofs.lemmas.Option.{slice_get_past}
use Rattle.al_base.specs.declared.place.Place.{Place}
use Rattle.al_tree.specs.declared.item.Item.{Item}
use Rattle.al_declare.specs.declared.function.Defined.{Defined}
use Rattle.al_typed.specs.Capped.{capped}
use Rattle.al_branches.specs.declared.table.Tables.{Tables}
use Rattle.al_branches.specs.Numbers.{branches_of, branches_if, branches_at, uses, given, first, numbered, numbers_of}
use Rattle.al_branches.specs.Tables.{all_uses, tables}
use Rattle.al_branches.proofs.CountsAre.{uses-length, use-at}
use Rattle.al_branches.proofs.NumbersAre.{numbered-capped}

-- the branches of the items of a text
places-at : (items : List Item) (i : ℕ) (ps : List Place) → i < length items → get_or (map branches_of items) i ps ≡ branches_at items i
places-at [] i ps h = absurd (omega arith)
places-at (x ∷ xs) zero ps h = refl
places-at (x ∷ xs) (suc i) ps h = places-at xs i ps (omega arith)

past-end : (items : List Item) (i : ℕ) → length items ≤ i → branches_at items i ≡ []
past-end items i h = ap branches_if (slice_get_past items i h)

module _ (items : List Item) (ds : List Defined) where
  -- how many branches an item gives the program, as code finds it
  pub given-is : (i : ℕ) (places : List (List Place)) (ps : List Place) (us : List ℕ) → places ≡ map branches_of items → us ≡ all_uses ds (length items) → i < length items
      → ps ≡ get_or places i ps → length ps * get_or us i 0 ≡ given items ds i
  given-is i places ps us e f h is =
      ap (λ (l : List Place). length l * get_or us i 0) (is ∙ ap (λ (l : List (List Place)). get_or l i ps) e ∙ places-at items i ps h)
      ∙ ap (λ n. length (branches_at items i) * n) (ap (λ l. get_or l i 0) f ∙ get_or-map-range_with_len (uses ds) 0 (length items) i i 0 h (omega arith))

  -- an item that there is not has no branches
  pub no_item : (k : ℕ) (d : Defined) → length items ≤ d.item → numbers_of items ds k d ≡ []
  unfolding numbers_of numbered
  no_item k d h = ap (numbered (first items ds d.item + uses (take k ds) d.item) (uses ds d.item)) (past-end items d.item h)

  pub places-length : (t : Tables) → t ≡ tables items ds → length t.places ≡ length items
  places-length t e = ap (λ (t : Tables). length t.places) e ∙ length-map items branches_of

  pub uses-length-of : (t : Tables) → t ≡ tables items ds → length t.uses ≡ length items
  uses-length-of t e = ap (λ (t : Tables). length t.uses) e ∙ uses-length ds (length items)

  pub firsts-length : (t : Tables) → t ≡ tables items ds → length t.firsts ≡ length items
  firsts-length t e = ap (λ (t : Tables). length t.firsts) e ∙ length-map-range_with_len (λ i. capped (first items ds i)) 0 (length items)

  -- the numbers of the branches of a function, as code finds them
  pub numbers-are : (t : Tables) (k f b u : ℕ) (bs : List ℕ) (ps : List Place) (d : Defined) → t ≡ tables items ds → bs ≡ all_uses (take k ds) (length items)
      → d.item < length items → f ≡ get_or t.firsts d.item f → b ≡ get_or bs d.item b → u ≡ get_or t.uses d.item u → ps ≡ get_or t.places d.item ps
      → numbered (min (f + b) (2 ^ 64 - 1)) u ps ≡ numbers_of items ds k d
  unfolding numbers_of
  numbers-are t k f b u bs ps d e before h is-f is-b is-u is-ps =
      let first-is : f ≡ capped (first items ds d.item) =
      is-f ∙ ap (λ (t : Tables). get_or t.firsts d.item f) e
      ∙ get_or-map-range_with_len (λ i. capped (first items ds i)) 0 (length items) d.item d.item f h (omega arith) in
      let rank-is : b ≡ uses (take k ds) d.item = use-at (take k ds) (length items) d.item b bs before h is-b in
      let uses-is : u ≡ uses ds d.item = use-at ds (length items) d.item u t.uses (ap (λ (t : Tables). t.uses) e) h is-u in
      let places-is : ps ≡ branches_at items d.item =
      is-ps ∙ ap (λ (t : Tables). get_or t.places d.item ps) e ∙ places-at items d.item ps h in
      let from : min (f + b) (2 ^ 64 - 1) ≡ capped (first items ds d.item + uses (take k ds) d.item) = omega arith in
      ap (λ n. numbered n u ps) from
      ∙ numbered-capped (first items ds d.item + uses (take k ds) d.item) u ps
      ∙ ap (λ n. numbered (first items ds d.item + uses (take k ds) d.item) n ps) uses-is
      ∙ ap (numbered (first items ds d.item + uses (take k ds) d.item) (uses ds d.item)) places-is
