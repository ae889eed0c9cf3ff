-- Functions among names of which the same are found.
use Rattle.std.proofs.Common.{◌≡◌, ℕ, ◌+◌, ◌<◌, ◌∙◌, if◌then◌else◌, List, [], ◌∷◌, ◌++◌, length, get_or, map, drop, find, Option, Some, None, refl, sym, ap}
use Rattle.std.specs.Prelude.{option_map}
use Rattle.std.proofs.lemmas.List.{drop_more}
use Rattle.al_base.specs.declared.place.Place.{Place}
use Rattle.al_link_text.specs.Linked.{among, Alike}
use Rattle.al_link_text.specs.declared.file.File.{File}
use Rattle.al_link_text.proofs.Alike.{among_alike, more_alike}
use Rattle.al_link_names.specs.Twice.{all_defined, name_of, first_among, at_or, twice_from}
use Rattle.al_link_names.specs.declared.at.At.{At}
use Rattle.al_link_names.specs.declared.defined.Defined.{Defined}

abbrev found : List (List ℕ) → List Defined → Option Defined
found earlier list = find (λ (d : Defined). among earlier d.name) list

found_alike : (a b : List (List ℕ)) → Alike a b → (list : List Defined) → found a list ≡ found b list
found_alike a b same [] = refl
found_alike a b same (d ∷ ds) =
    ap (λ t. if t then Some d else found a ds) (among_alike a b same d.name) ∙ ap (λ o. if among b d.name then Some d else o) (found_alike a b same ds)

twice_alike : (files : List File) (a b : List (List ℕ)) (k : ℕ) → Alike a b → twice_from a k files ≡ twice_from b k files
twice_alike [] a b k same = refl
twice_alike (file ∷ files) a b k same =
    ap (λ o. at_or (option_map (λ (d : Defined). d.at) o) k (twice_from (a ++ map name_of (all_defined file)) (k + 1) files)) (found_alike a b same (all_defined file))
    ∙ ap (at_or (first_among b (all_defined file)) k) (twice_alike files (a ++ map name_of (all_defined file)) (b ++ map name_of (all_defined file)) (k + 1) (more_alike a b (map name_of (all_defined file)) same))

-- a file that defines none of the earlier ones' functions
pub twice_step : (files : List File) (i : ℕ) (file : File) (seen list : List Defined) (earlier grown : List (List ℕ)) (k : ℕ) (all : Option At)
    → i < length files → file ≡ get_or files i file → seen ≡ all_defined file → list ≡ all_defined file → None ≡ first_among earlier seen
    → Alike grown (earlier ++ map name_of list)
    → all ≡ twice_from earlier k (drop i files) → all ≡ twice_from grown (k + 1) (drop (i + 1) files)
twice_step files i file seen list earlier grown k all h is sees lists none same before =
    let front : drop i files ≡ file ∷ drop (i + 1) files = drop_more files i file h ∙ ap (λ x. x ∷ drop (i + 1) files) (sym is) in
    before ∙ ap (twice_from earlier k) front
    ∙ ap (λ l. at_or (first_among earlier l) k (twice_from (earlier ++ map name_of (all_defined file)) (k + 1) (drop (i + 1) files))) (sym sees)
    ∙ ap (λ o. at_or o k (twice_from (earlier ++ map name_of (all_defined file)) (k + 1) (drop (i + 1) files))) (sym none)
    ∙ ap (λ l. twice_from (earlier ++ map name_of l) (k + 1) (drop (i + 1) files)) (sym lists)
    ∙ sym (twice_alike (drop (i + 1) files) grown (earlier ++ map name_of list) (k + 1) same)

-- a file that defines one
pub twice_here : (files : List File) (i : ℕ) (file : File) (list : List Defined) (earlier : List (List ℕ)) (k : ℕ) (place : Place) (all : Option At)
    → i < length files → file ≡ get_or files i file → list ≡ all_defined file → Some place ≡ first_among earlier list
    → all ≡ twice_from earlier k (drop i files) → Some (record { file = k; place = place }) ≡ all
twice_here files i file list earlier k place all h is lists some before =
    let front : drop i files ≡ file ∷ drop (i + 1) files = drop_more files i file h ∙ ap (λ x. x ∷ drop (i + 1) files) (sym is) in
    ap (λ o. at_or o k (twice_from (earlier ++ map name_of list) (k + 1) (drop (i + 1) files))) some
    ∙ ap (λ l. at_or (first_among earlier l) k (twice_from (earlier ++ map name_of l) (k + 1) (drop (i + 1) files))) lists
    ∙ sym (ap (twice_from earlier k) front) ∙ sym before
