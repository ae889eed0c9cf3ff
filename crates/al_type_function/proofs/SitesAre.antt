-- What comes off the end of a list, and where a site is again behind a branch.
use Rattle.std.proofs.Common.{◌≡◌, ℕ, List, [], ◌∷◌, ◌++◌, Option, Some, None, ap, ◌∙◌, sym, subst}
use Rattle.std.specs.Prelude.{MatchOption, Result, Ok, IfOk}
use Rattle.std.proofs.lemmas.List.{same_from_push}
use Rattle.al_environment.specs.declared.environment.Variable.{Variable}
use Rattle.al_environment.specs.declared.environment.Here.{Here}
use Rattle.al_type_function.specs.declared.site.Site.{Site}
use Rattle.al_type_function.specs.Branches.{inside, entered}

filled : {T : Type 0} (P : Type 0) (xs : List T) (x : T) → xs ++ x ∷ [] ≡ [] → P
filled P [] x h = cc
filled P (y ∷ xs) x h = cc

pub rest_of : {T : Type 0} (r : Option T) (old new xs : List T) (x : T) → MatchOption r ((old ≡ []) × (new ≡ [])) (λ l. old ≡ new ++ l ∷ []) → old ≡ xs ++ x ∷ [] → new ≡ xs
rest_of None old new xs x h e = filled (new ≡ xs) xs x (sym e ∙ h.0)
rest_of (Some l) old new xs x h e = (same_from_push new xs l x (sym h ∙ e)).0

pub end_of : {T : Type 0} (r : Option T) (old new xs : List T) (x : T) → MatchOption r ((old ≡ []) × (new ≡ [])) (λ l. old ≡ new ++ l ∷ []) → old ≡ xs ++ x ∷ [] → r ≡ Some x
end_of None old new xs x h e = filled (None ≡ Some x) xs x (sym e ∙ h.0)
end_of (Some l) old new xs x h e = ap Some (same_from_push new xs l x (sym h ∙ e)).1

pub ruleset last_of = (rest_of, end_of)

-- what is said of a value that is there
pub of_ok : {T E : Type 0} (P : T → Type 0) (r : Result T E) (x : T) → r ≡ Ok x → IfOk r P → P x
of_ok P r x e h = subst (λ r. IfOk r P) e h

-- out of what was gone into
pub left : (old outer : Site) (vs : List Variable) (n : ℕ) (here : Here) (around : List ℕ)
    → ((o : Here) (v : List Variable) → old.here ≡ inside o v → here ≡ o)
    → ((xs : List ℕ) (x : ℕ) → old.around ≡ xs ++ x ∷ [] → around ≡ xs)
    → old ≡ entered outer vs n → ◌≡◌ {A = Site} (record { here = here; around = around }) outer
left old outer vs n here around out off e =
    let here_is = out outer.here vs (ap (λ (s : Site). s.here) e) in
    let around_is = off outer.around n (ap (λ (s : Site). s.around) e) in
    ap (λ (h : Here). let s : Site = record { here = h; around = around } in s) here_is
    ∙ ap (λ (r : List ℕ). let s : Site = record { here = outer.here; around = r } in s) around_is
