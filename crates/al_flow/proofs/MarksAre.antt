-- The number of a name, with one mark more.
use Rattle.std.proofs.Common.{◌≡◌, ℕ, ◌+◌, Bool, true, false, cond, List, [], ◌∷◌, ◌++◌, length, Option, Some, None, refl, ap, ◌∙◌, sym, add-zero, arith}
use Rattle.std.specs.List.{position, position_from}
use Rattle.std.proofs.lemmas.Iterator.Adapters.{position_from-zero}
use Rattle.al_flow.specs.declared.mark.Mark.{Mark}
use Rattle.al_flow.specs.Firsts.{first_given}
use Rattle.al_flow.specs.Marks.{is_label, is_rescue, label_named, rescue_named}

position_from-push : {A : Type 0} (p : A → Bool) (i : ℕ) (xs : List A) (x : A) → position_from p i (xs ++ x ∷ []) ≡ first_given (position_from p i xs) (p x) (i + length xs)
position_from-push p i [] x = elim (p x) as (λ b. cond b (Some i) None ≡ first_given None b (i + 0)) [ true ↦ ap Some (sym (add-zero i)) | false ↦ refl ]
position_from-push p i (y ∷ xs) x =
    let later : i + 1 + length xs ≡ i + length (y ∷ xs) = omega arith in
    elim (p y) as (λ b. cond b (Some i) (position_from p (i + 1) (xs ++ x ∷ [])) ≡ first_given (cond b (Some i) (position_from p (i + 1) xs)) (p x) (i + length (y ∷ xs)))
    [ true ↦ refl | false ↦ position_from-push p (i + 1) xs x ∙ ap (first_given (position_from p (i + 1) xs) (p x)) later ]

position-push : {A : Type 0} (p : A → Bool) (xs : List A) (x : A) → position p (xs ++ x ∷ []) ≡ first_given (position p xs) (p x) (length xs)
position-push p xs x =
    position_from-zero p (xs ++ x ∷ []) ∙ position_from-push p 0 xs x
    ∙ (let none_before : 0 + length xs ≡ length xs = omega arith in ap (first_given (position_from p 0 xs) (p x)) none_before)
    ∙ ap (λ o. first_given o (p x) (length xs)) (sym (position_from-zero p xs))

pub label_named-push : (marks : List Mark) (m : Mark) (name : ℕ) → label_named (marks ++ m ∷ []) name ≡ first_given (label_named marks name) (is_label m name) (length marks)
unfolding label_named
label_named-push marks m name = position-push (λ m. is_label m name) marks m

pub rescue_named-push : (marks : List Mark) (m : Mark) (name : ℕ) → rescue_named (marks ++ m ∷ []) name ≡ first_given (rescue_named marks name) (is_rescue m name) (length marks)
unfolding rescue_named
rescue_named-push marks m name = position-push (λ m. is_rescue m name) marks m

-- another's number changes nothing
pub first_given-false : (o : Option ℕ) (n : ℕ) → first_given o false n ≡ o
first_given-false (Some first) n = refl
first_given-false None n = refl

pub ruleset named_push = (label_named-push, rescue_named-push, first_given-false)
