-- Each part of a value is put into its place.
use denote.Ref.{Bor}
use Rattle.std.proofs.Common.{◌≡◌, ℕ, ◌+◌, ◌<◌, ◌≤◌, ◌^◌, min, List, [], ◌∷◌, ◌++◌, map, take, drop, length, get_or, refl, sym, ap, ap₂, ◌∙◌, append_assoc, Result, Ok, Err, IfOk, inl, inr, arith}
use Rattle.std.proofs.lemmas.Bool.{cases_lt}
use Rattle.std.proofs.lemmas.List.{append-nil, drop_all, drop_more, length-map, map-append, take_all}
use Rattle.al_typed.specs.Capped.{capped}
use Rattle.al_typed.specs.declared.ty.Ty.{Ty}
use Rattle.al_typed.specs.declared.program.Program.{Program}
use Rattle.al_meaning.specs.Evaluate.{saves}
use Rattle.al_meaning.specs.Here.{Here, does, places_before}
use Rattle.al_meaning.specs.Items as item
use Rattle.al_meaning.specs.Places.{words_in}
use Rattle.al_control.specs.declared.work.Found.{Found}
use Rattle.al_control.specs.declared.work.Storage.TheVariants as storage
use Rattle.al_control.specs.declared.work.Work.{Work}
use Rattle.al_control.specs.declared.work.Work.TheVariants as work
use Rattle.al_control.specs.declared.control.Next.{Next}
use Rattle.al_control.specs.Models.{found_of, next_of, work_of}
use Rattle.al_walk_places.specs.Referred.{referred}

-- where a list is cut, and where it is cut by as much of that number as a word and the list have
cut : (n count : ℕ) (xs : List ℕ) → length xs < 2 ^ 64 → count ≡ min (capped n) (length xs) → take count xs ≡ take n xs
cut n count xs h e =
    elim (cases_lt n (length xs)) [
      | inl within ↦ let e' : count ≡ n = omega arith in ap (λ k. take k xs) e'
      | inr past ↦ take_all count xs (omega arith) ∙ sym (take_all n xs (omega arith))
    ]

left : (n count : ℕ) (xs : List ℕ) → length xs < 2 ^ 64 → count ≡ min (capped n) (length xs) → drop count xs ≡ drop n xs
left n count xs h e =
    elim (cases_lt n (length xs)) [
      | inl within ↦ let e' : count ≡ n = omega arith in ap (λ k. drop k xs) e'
      | inr past ↦ drop_all count xs (omega arith) ∙ sym (drop_all n xs (omega arith))
    ]

-- the next type of those that are left
next_type : (types : List (Bor Ty)) (i : ℕ) (t : Bor Ty) → i < length types → t ≡ get_or types i t → referred (drop i types) ≡ t.now ∷ referred (drop (i + 1) types)
next_type types i t h is = ap referred (drop_more types i t h) ∙ ap (λ (r : Bor Ty). r.now ∷ referred (drop (i + 1) types)) (sym is)

-- one part more
pub saves_more : (p : Program) (types : List (Bor Ty)) (i : ℕ) (t : Bor Ty) (before more : List Found) (f : Found) (works new : List Work)
    (rest front back : List ℕ) (count : ℕ) (all : List item.Work)
    → i < length types → t ≡ get_or types i t → before ≡ f ∷ more
    → length rest < 2 ^ 64 → count ≡ min (capped (words_in p t.now)) (length rest) → front ≡ take count rest → back ≡ drop count rest
    → new ≡ works ++ work.Storage (storage.Save t front f) ∷ []
    → map work_of works ++ saves p (referred (drop i types)) (map found_of before) rest ≡ all
    → map work_of new ++ saves p (referred (drop (i + 1) types)) (map found_of more) back ≡ all
saves_more p types i t before more f works new rest front back count all h is b few e fr bk n so_far =
    let n_words = words_in p t.now in
    let others = referred (drop (i + 1) types) in
    let made = map work_of works in
    let saved = λ (ws : List ℕ). item.Save t.now ws (found_of f) in
    ap (λ ws. map work_of ws ++ saves p others (map found_of more) back) n
    ∙ ap (λ ws. ws ++ saves p others (map found_of more) back) (map-append work_of works (work.Storage (storage.Save t front f) ∷ []))
    ∙ append_assoc made (saved front ∷ []) (saves p others (map found_of more) back)
    ∙ ap₂ (λ (a b : List ℕ). made ++ (saved a ∷ saves p others (map found_of more) b)) (fr ∙ cut n_words count rest few e) (bk ∙ left n_words count rest few e)
    ∙ sym (ap₂ (λ (ts : List Ty) (fs : List Found). made ++ saves p ts (map found_of fs) rest) (next_type types i t h is) b)
    ∙ so_far

-- there is no place for another part
no_places : (p : Program) (ts : List Ty) (words : List ℕ) → saves p ts [] words ≡ []
no_places p [] words = refl
no_places p (t ∷ ts) words = refl

no_types : (p : Program) (places : List item.Found) (words : List ℕ) → saves p [] places words ≡ []
no_types p [] words = refl
no_types p (f ∷ places) words = refl

pub places_over : (p : Program) (ts : List Ty) (places : List Found) (works : List Work) (rest : List ℕ) (all : List item.Work)
    → places ≡ [] → map work_of works ++ saves p ts (map found_of places) rest ≡ all → map work_of works ≡ all
places_over p ts places works rest all none so_far =
    sym (append-nil (map work_of works))
    ∙ ap (λ ws. map work_of works ++ ws) (sym (no_places p ts rest) ∙ ap (λ fs. saves p ts (map found_of fs) rest) (sym none))
    ∙ so_far

pub types_over : (p : Program) (types : List (Bor Ty)) (i : ℕ) (places : List Found) (works : List Work) (rest : List ℕ) (all : List item.Work)
    → length types ≤ i → map work_of works ++ saves p (referred (drop i types)) (map found_of places) rest ≡ all → map work_of works ≡ all
types_over p types i places works rest all past so_far =
    sym (append-nil (map work_of works))
    ∙ ap (λ ws. map work_of works ++ ws)
    (sym (no_types p (map found_of places) rest) ∙ ap (λ (ts : List (Bor Ty)). saves p (referred ts) (map found_of places) rest) (sym (drop_all i types past)))
    ∙ so_far

-- ---- all of them

pub assigned : {E : Type 0} (r : Result Next E) (types slice : List (Bor Ty)) (ts : List Ty) (words : List ℕ) (h : Here) → slice ≡ types → referred types ≡ ts
    → IfOk r
    (λ n.
    next_of n
    ≡ places_before (length slice) [] h (λ (fs : List item.Found) (at : Here). does at (saves at.program (referred slice) fs words ++ item.Give words ∷ [])))
    → IfOk r
    (λ n. next_of n ≡ places_before (length ts) [] h (λ (fs : List item.Found) (at : Here). does at (saves at.program ts fs words ++ item.Give words ∷ [])))
assigned (Ok n) types slice ts words h s e is =
    let given = λ (ts : List Ty) (fs : List item.Found) (at : Here). does at (saves at.program ts fs words ++ item.Give words ∷ []) in
    is
    ∙ ap (λ (k : ℕ). places_before k [] h (given (referred slice))) (sym (length-map slice (λ (r : Bor Ty). r.now)))
    ∙ ap (λ (ts : List Ty). places_before (length ts) [] h (given ts)) (ap referred s ∙ e)
assigned (Err x) types slice ts words h s e is = tt
