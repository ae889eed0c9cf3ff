-- Members, and the types that have them, from a place on.
use Rattle.std.proofs.Common.{◌≡◌, ℕ, suc, ◌+◌, ◌<◌, ◌≤◌, List, ◌∷◌, length, get_or, drop, ap, ◌∙◌, sym, drop-cons, add-one}
use Rattle.std.specs.Prelude.{slice_get}
use Rattle.std.proofs.lemmas.List.{drop_all}
use Rattle.al_rules.specs.Outcome.{Good, and_then}
use Rattle.al_rules.proofs.Permits.{permits-then}
use Rattle.al_environment.specs.declared.environment.MemberNames.{MemberNames}
use Rattle.al_form.specs.declared.form.FormMember.{FormMember}
use Rattle.al_form.specs.declared.form.Forms.{Forms}
use Rattle.al_member_names.specs.declared.function.OwnFunction.{OwnFunction}
use Rattle.al_member_names.specs.declared.walk.Walk.{Walk}
use Rattle.al_member_names.specs.Members.{with_numbered, with_members, with_form, with_forms}

module _ (fs : Forms) (ns : List ℕ) where
  pub members-from : (before : List MemberNames) (adt : ℕ) (ms : List FormMember) (n : ℕ) (m : FormMember) (w : Walk) → n < length ms → m ≡ get_or ms n m
      → with_members fs ns before adt n (drop n ms) w ≡ with_members fs ns before adt (n + 1) (drop (n + 1) ms) (with_numbered fs ns before adt n w m)
  unfolding with_members
  members-from before adt ms n m w h is =
      ap (λ l. with_members fs ns before adt n l w) (drop-cons ms n m h)
      ∙ ap (λ x. with_members fs ns before adt (n + 1) (drop (suc n) ms) (with_numbered fs ns before adt n w x)) (sym is)
      ∙ ap (λ k. with_members fs ns before adt (n + 1) (drop k ms) (with_numbered fs ns before adt n w m)) (sym (add-one n))

  pub members-end : (before : List MemberNames) (adt : ℕ) (ms : List FormMember) (n : ℕ) (w : Walk) → length ms ≤ n → with_members fs ns before adt n (drop n ms) w ≡ w
  unfolding with_members
  members-end before adt ms n w h = ap (λ l. with_members fs ns before adt n l w) (drop_all n ms h)

  pub forms-from : (own : List (List OwnFunction)) (names : List MemberNames) (list : List ℕ) (i : ℕ) → i < length list
      → with_forms fs ns own names (drop i list) ≡ and_then (with_form fs ns own names (slice_get fs.list (get_or list i 0))) (λ more. with_forms fs ns own more (drop (i + 1) list))
  unfolding with_forms
  forms-from own names list i h =
      ap (with_forms fs ns own names) (drop-cons list i 0 h)
      ∙ ap (λ j. and_then (with_form fs ns own names (slice_get fs.list (get_or list i 0))) (λ more. with_forms fs ns own more (drop j list))) (sym (add-one i))

  pub forms-end : (own : List (List OwnFunction)) (names : List MemberNames) (list : List ℕ) (i : ℕ) → length list ≤ i → with_forms fs ns own names (drop i list) ≡ Good names
  unfolding with_forms
  forms-end own names list i h = ap (with_forms fs ns own names) (drop_all i list h)

pub ruleset members_are = (members-from, members-end)

pub ruleset forms_are = (forms-from, forms-end, permits-then)
