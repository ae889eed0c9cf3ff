-- The rows of a text are laid out, complete and small.
use Rattle.std.proofs.Common.{◌≡◌, ℕ, ◌≤◌, Bool, true, List, [], ◌∷◌, ◌++◌, Option, Some, None, refl, subst, ◌∙◌, arith}
use Rattle.std.specs.Prelude.{nat_le, slice_get, unwrap_or, ◌^◌}
use Rattle.std.specs.List.{list_all}
use Rattle.std.proofs.lemmas.Bool.Decides.{nat_tests}
use Rattle.std.proofs.lemmas.List.Folds.{list_all-append}
use Rattle.std.proofs.lemmas.List.Sums.{AllPass-from_list_all}
use Rattle.al_rules.specs.Outcome.{Good, ask}
use Rattle.al_typed.specs.declared.program.Aggregate.{Aggregate}
use Rattle.al_typed.specs.declared.ty.Ty.{Ty}
use Rattle.al_typed.specs.Types.{is_complete}
use Rattle.al_typed.specs.Layout.{IsLaidOut, Keeps, Layout, aggregate_layout, body_layout, layouts_after}
use Rattle.al_typed.proofs.Rows.{more_laid_out}
use Rattle.al_typed.proofs.Layouts.{none_laid_out}
use Rattle.al_form.specs.declared.form.FormMember.{FormMember}
use Rattle.al_form.specs.declared.form.Form.{Form}
use Rattle.al_form.specs.declared.form.Forms.{Forms}
use Rattle.al_layout.specs.declared.row.LaidOut.{LaidOut}
use Rattle.al_layout.specs.Rules.{rule_18_size}
use Rattle.al_layout.specs.Rows.{faults_of_members, laid_out, member_types, row, types_of_members, with_form, with_members, with_number, with_rows}
use Rattle.al_layout.proofs.RowsAre.{all_complete}
use Rattle.al_sound_environment.proofs.Lists.{all_at, asked_true, both, good_is, judged_good, then_good}

-- ---- one more row

abbrev pub is_small_row : Aggregate → Bool
is_small_row a = nat_le a.size 268435456

pub record AreRows (rows : List Aggregate) : Type 0 where
  pub laid : IsLaidOut rows
  pub small : list_all is_small_row rows ≡ true

types_complete : (fs : Forms) (ns : List ℕ) (rows : List Aggregate) (o : Option (List FormMember)) (types : Option (List Ty)) → member_types fs ns rows o ≡ Good types
    → list_all (is_complete rows) (unwrap_or types []) ≡ true
types_complete fs ns rows None types h = subst (λ o. list_all (is_complete rows) (unwrap_or o []) ≡ true) (good_is h) refl
types_complete fs ns rows (Some ms) types h =
    let j = judged_good (faults_of_members fs ns rows ms) (Some (types_of_members fs ns ms)) types h in
    subst (λ o. list_all (is_complete rows) (unwrap_or o []) ≡ true) j.1 (all_complete fs ns rows ms j.0)

row_keeps : (known : List Layout) (is_union : Bool) (types : Option (List Ty)) → Keeps (row is_union types (body_layout known is_union types)) (aggregate_layout known (row is_union types (body_layout known is_union types)))
unfolding aggregate_layout
row_keeps known is_union types = record { size = refl; align = refl; units = refl }

one_row : (rows more : List Aggregate) (f : Form) (types : Option (List Ty)) → AreRows rows → list_all (is_complete rows) (unwrap_or types []) ≡ true
    → with_members rows f types ≡ Good more → AreRows more
unfolding with_members
one_row rows more f types r complete h =
    let l = body_layout (layouts_after [] rows) f.is_union types in
    let a = row f.is_union types l in
    let j = judged_good (ask 18 f.at (rule_18_size l)) (rows ++ a ∷ []) more h in
    subst AreRows j.1 (record {
      laid = more_laid_out rows a r.laid (row_keeps (layouts_after [] rows) f.is_union types) (AllPass-from_list_all (is_complete rows) (unwrap_or types []) complete);
      small = list_all-append is_small_row rows (a ∷ []) ∙ both _ _ r.small (both _ _ (asked_true 18 f.at _ j.0) refl);
    })

one_form : (fs : Forms) (ns : List ℕ) (rows more : List Aggregate) (o : Option Form) → AreRows rows → with_number fs ns rows o ≡ Good more → AreRows more
unfolding with_form
one_form fs ns rows more None r h = subst AreRows (good_is h) r
one_form fs ns rows more (Some f) r h =
    let t = then_good (member_types fs ns rows f.members) (with_members rows f) more h in
    one_row rows more f t.0 r (types_complete fs ns rows f.members t.0 t.1) t.2

all_rows : (fs : Forms) (ns : List ℕ) (rows : List Aggregate) (ks : List ℕ) (more : List Aggregate) → AreRows rows → with_rows fs ns rows ks ≡ Good more → AreRows more
unfolding with_rows
all_rows fs ns rows [] more r h = subst AreRows (good_is h) r
all_rows fs ns rows (k ∷ ks) more r h =
    let t = then_good (with_number fs ns rows (slice_get fs.list k)) (λ next. with_rows fs ns next ks) more h in
    all_rows fs ns t.0 ks more (one_form fs ns rows t.0 (slice_get fs.list k) r t.1) t.2

-- ---- all of them

pub rows_of : (fs : Forms) (laid : LaidOut) → laid_out fs ≡ Good laid → with_rows fs laid.numbers [] laid.forms ≡ Good laid.aggregates
unfolding laid_out
rows_of fs laid h =
    let t = then_good _ _ laid h in
    let is = good_is t.2 in
    subst (λ (l : LaidOut). with_rows fs l.numbers [] l.forms ≡ Good l.aggregates) is t.1

none_small : AreRows []
none_small = record { laid = none_laid_out [] refl; small = refl }

pub are_rows : (fs : Forms) (laid : LaidOut) → laid_out fs ≡ Good laid → AreRows laid.aggregates
are_rows fs laid h = all_rows fs laid.numbers [] laid.forms laid.aggregates none_small (rows_of fs laid h)

pub small_row : (rows : List Aggregate) (k : ℕ) (a : Aggregate) → AreRows rows → slice_get rows k ≡ Some a → a.size ≤ 2 ^ 28
small_row rows k a r e = at_most a.size (all_at is_small_row rows k a e r.small)
  where
    at_most : (n : ℕ) → nat_le n 268435456 ≡ true → n ≤ 2 ^ 28
    at_most n h = grind (arith, nat_tests)
