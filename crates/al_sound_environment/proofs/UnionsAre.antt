-- The row of a union has a member, where its form has one.
use Rattle.std.proofs.Common.{◌≡◌, ℕ, true, List, [], ◌∷◌, ◌++◌, Option, Some, None, refl, sym, ap, subst, ◌∙◌}
use Rattle.std.specs.Prelude.{slice_get}
use Rattle.std.specs.Option.{option_to_list}
use Rattle.al_rules.specs.Outcome.{Good, ask}
use Rattle.al_typed.specs.declared.program.Aggregate.{Aggregate}
use Rattle.al_typed.specs.declared.ty.Ty.{Ty}
use Rattle.al_typed.specs.Layout.{body_layout, layouts_after}
use Rattle.al_form.specs.declared.form.Form.{Form}
use Rattle.al_form.specs.declared.form.FormMember.{FormMember}
use Rattle.al_form.specs.declared.form.Forms.{Forms}
use Rattle.al_layout.specs.Rules.{rule_18_size}
use Rattle.al_layout.specs.Rows.{faults_of_members, member_types, row, types_of_members, with_form, with_members, with_number, with_rows}
use Rattle.al_sound_environment.specs.Members.{Every}
use Rattle.al_sound_environment.proofs.Lists.{every_at, every_more, good_is, judged_good, some_is, then_good}
use Rattle.al_sound_environment.proofs.MembersAre.{one_type}
use Rattle.al_sound_environment.proofs.FormsAre.{IsFilled}

abbrev pub IsFilledRow : Aggregate → Type 0
IsFilledRow a = a.is_union ≡ true → a.members ≡ Some [] → ⊥

module _ (fs : Forms) (ns : List ℕ) where
  some_types : (rows : List Aggregate) (ms : List FormMember) → faults_of_members fs ns rows ms ≡ [] → types_of_members fs ns ms ≡ [] → ms ≡ []
  unfolding faults_of_members types_of_members
  some_types rows [] h e = refl
  some_types rows (m ∷ ms) h e =
      let one = one_type fs ns rows m (faults_of_members fs ns rows ms) h in
      absurd (none (sym (ap (λ o. option_to_list o ++ types_of_members fs ns ms) one.1) ∙ e))
    where
      none : {A : Type 0} {x : A} {xs : List A} → x ∷ xs ≡ [] → ⊥
      none e = absurd (cc)

  some_members : (rows : List Aggregate) (o : Option (List FormMember)) (types : Option (List Ty)) → member_types fs ns rows o ≡ Good types → types ≡ Some [] → o ≡ Some []
  some_members rows None types h e = absurd (none (good_is h ∙ e))
    where
      none : {A : Type 0} {x : A} → None ≡ Some x → ⊥
      none e = absurd (cc)
  some_members rows (Some ms) types h e =
      let j = judged_good (faults_of_members fs ns rows ms) (Some (types_of_members fs ns ms)) types h in
      ap Some (some_types rows ms j.0 (some_is (j.1 ∙ e)))

  form_filled : (rows more : List Aggregate) (f : Form) → IsFilled f → Every IsFilledRow rows → with_form fs ns rows f ≡ Good more → Every IsFilledRow more
  unfolding with_form with_members
  form_filled rows more f is all h =
      let t = then_good (member_types fs ns rows f.members) (with_members rows f) more h in
      let l = body_layout (layouts_after [] rows) f.is_union t.0 in
      let a = row f.is_union t.0 l in
      let j = judged_good (ask 18 f.at (rule_18_size l)) (rows ++ a ∷ []) more t.2 in
      subst (Every IsFilledRow) j.1 (every_more IsFilledRow rows a all (λ u e. is u (some_members rows f.members t.0 t.1 e)))

  number_filled : (rows more : List Aggregate) (o : Option Form) → ((f : Form) → o ≡ Some f → IsFilled f) → Every IsFilledRow rows → with_number fs ns rows o ≡ Good more → Every IsFilledRow more
  number_filled rows more None is all h = subst (Every IsFilledRow) (good_is h) all
  number_filled rows more (Some f) is all h = form_filled rows more f (is f refl) all h

  pub rows_filled : Every IsFilled fs.list → (rows : List Aggregate) (ks : List ℕ) (more : List Aggregate) → Every IsFilledRow rows → with_rows fs ns rows ks ≡ Good more → Every IsFilledRow more
  unfolding with_rows
  rows_filled forms rows [] more all h = subst (Every IsFilledRow) (good_is h) all
  rows_filled forms rows (k ∷ ks) more all h =
      let t = then_good (with_number fs ns rows (slice_get fs.list k)) (λ next. with_rows fs ns next ks) more h in
      rows_filled forms t.0 ks more (number_filled rows t.0 (slice_get fs.list k) (λ f e. every_at IsFilled fs.list k f e forms) all t.1) t.2
