-- Rows, one more, and the types of members.
use Rattle.std.proofs.Common.{◌≡◌, ℕ, suc, ◌+◌, ◌<◌, ◌≤◌, Bool, true, false, cond, List, [], ◌∷◌, ◌++◌, length, get_or, drop, Option, Some, None, refl, ap, ◌∙◌, sym, subst, append_assoc, drop-cons, add-one, arith}
use Rattle.std.specs.Prelude.{slice_get, unwrap_or, All, ◌&&◌, ◌||◌, not, nat_le, nat_eq}
use Rattle.std.proofs.lemmas.Bool.Decides.{nat_tests}
use Rattle.std.specs.List.{list_all}
use Rattle.std.specs.Option.{option_to_list}
use Rattle.std.proofs.lemmas.List.{drop_all, append-nil}
use Rattle.std.proofs.lemmas.List.Elements.{All-nil}
use Rattle.al_rules.specs.declared.fault.TypeFault.{TypeFault}
use Rattle.al_rules.specs.declared.fault.TypeStop.TheVariants as stop
use Rattle.al_rules.specs.Outcome.{Good, and_then, ask, judge, permits, fault}
use Rattle.al_rules.proofs.Permits.{permits-then}
use Rattle.al_typed.specs.declared.program.Aggregate.{Aggregate}
use Rattle.al_typed.specs.declared.ty.Ty.{Ty}
use Rattle.al_typed.specs.Types.{is_complete, is_void}
use Rattle.al_typed.specs.Layout.{Layout, IsLaidOut, Keeps, aggregate_layout, body_layout, layouts_after}
use Rattle.al_typed.proofs.Rows.{more_laid_out, pushed_laid_out}
use Rattle.al_form.specs.declared.form.FormMember.{FormMember}
use Rattle.al_form.specs.declared.form.Form.{Form}
use Rattle.al_form.specs.declared.form.Forms.{Forms}
use Rattle.al_layout.specs.Rules.{rule_7_member, rule_16_member}
use Rattle.al_layout.specs.Rows.{ty_of_member, fault_of_member, faults_of_members, types_of_member, types_of_members, with_number, with_rows, row, with_members}
use Rattle.al_layout.proofs.Fronts.{flat_here, flat_end}

module _ (fs : Forms) (ns : List ℕ) where
  pub types-from : (ms : List FormMember) (i : ℕ) (m : FormMember) → i < length ms → m ≡ get_or ms i m
      → types_of_members fs ns (drop i ms) ≡ types_of_member fs ns m ++ types_of_members fs ns (drop (i + 1) ms)
  unfolding types_of_members
  types-from ms i m h is = flat_here (types_of_member fs ns) ms i m h is

  pub types-end : (ms : List FormMember) (i : ℕ) → length ms ≤ i → types_of_members fs ns (drop i ms) ≡ []
  unfolding types_of_members
  types-end ms i h = flat_end (types_of_member fs ns) ms i h

  pub faults-from : (rows : List Aggregate) (ms : List FormMember) (i : ℕ) (m : FormMember) → i < length ms → m ≡ get_or ms i m
      → faults_of_members fs ns rows (drop i ms) ≡ fault_of_member fs ns rows m ++ faults_of_members fs ns rows (drop (i + 1) ms)
  unfolding faults_of_members
  faults-from rows ms i m h is = flat_here (fault_of_member fs ns rows) ms i m h is

  pub faults-end : (rows : List Aggregate) (ms : List FormMember) (i : ℕ) → length ms ≤ i → faults_of_members fs ns rows (drop i ms) ≡ []
  unfolding faults_of_members
  faults-end rows ms i h = flat_end (fault_of_member fs ns rows) ms i h

  -- where no member breaks rule 7, each has a type that is complete
  complete_with : (rows : List Aggregate) (m : FormMember) (ty : Option Ty) (faults : List TypeFault) (types : List Ty)
      → (ask 16 m.at (rule_16_member ty) ++ ask 7 m.at (rule_7_member rows ty)) ++ faults ≡ [] → (faults ≡ [] → list_all (is_complete rows) types ≡ true)
      → list_all (is_complete rows) (option_to_list ty ++ types) ≡ true
  complete_with rows m None faults types h rest = cc
  complete_with rows m (Some t) faults types h rest =
      elim (is_void t) as (λ v. (ask 16 m.at (not v) ++ ask 7 m.at (v || is_complete rows t)) ++ faults ≡ [] → (is_complete rows t && list_all (is_complete rows) types) ≡ true) [
        | true ↦ λ h. cc
        | false ↦ λ h. elim (is_complete rows t) as (λ b. ask 7 m.at b ++ faults ≡ [] → (b && list_all (is_complete rows) types) ≡ true) [ true ↦ rest | false ↦ λ h. cc ] h
      ] h

  pub all_complete : (rows : List Aggregate) (ms : List FormMember) → faults_of_members fs ns rows ms ≡ [] → list_all (is_complete rows) (types_of_members fs ns ms) ≡ true
  unfolding faults_of_members types_of_members
  all_complete rows [] h = refl
  all_complete rows (m ∷ ms) h =
      complete_with rows m (ty_of_member fs ns m) (faults_of_members fs ns rows ms) (types_of_members fs ns ms) h (all_complete rows ms)

  pub rows-from : (rows : List Aggregate) (order : List ℕ) (i : ℕ) → i < length order
      → with_rows fs ns rows (drop i order) ≡ and_then (with_number fs ns rows (slice_get fs.list (get_or order i 0))) (λ more. with_rows fs ns more (drop (i + 1) order))
  unfolding with_rows
  rows-from rows order i h =
      ap (with_rows fs ns rows) (drop-cons order i 0 h)
      ∙ ap (λ j. and_then (with_number fs ns rows (slice_get fs.list (get_or order i 0))) (λ more. with_rows fs ns more (drop j order))) (sym (add-one i))

  pub rows-end : (rows : List Aggregate) (order : List ℕ) (i : ℕ) → length order ≤ i → with_rows fs ns rows (drop i order) ≡ Good rows
  unfolding with_rows
  rows-end rows order i h = ap (with_rows fs ns rows) (drop_all i order h)

pub ruleset members_are = (types-from, types-end, faults-from, faults-end, all_complete, append_assoc, append-nil)

pub ruleset rows_are = (rows-from, rows-end, permits-then)

-- a row that was pushed
pub pushed_row : (rows new : List Aggregate) (a : Aggregate) (types : Option (List Ty)) → IsLaidOut rows → list_all (is_complete rows) (unwrap_or types []) ≡ true
    → a.members ≡ types → Keeps a (aggregate_layout (layouts_after [] rows) a) → new ≡ rows ++ a ∷ [] → IsLaidOut new
pushed_row rows new a None laid complete is keeps pushed =
    subst IsLaidOut (sym pushed) (more_laid_out rows a laid keeps (subst (λ (o : Option (List Ty)). All (λ t. is_complete rows t ≡ true) (unwrap_or o [])) (sym is) (All-nil _)))
pushed_row rows new a (Some types) laid complete is keeps pushed = pushed_laid_out rows new a types true laid (sym complete) refl is keeps pushed

-- no rows
pub no_rows : (rows : List Aggregate) → rows ≡ [] → IsLaidOut rows
no_rows rows e = subst IsLaidOut (sym e) (record {
  keeps = λ k a h. cc;
  ordered = λ k a h. cc;
})

pub ruleset none_are = (no_rows, permits-then)

-- ---- a row that is pushed

abbrev made : Bool → Option (List Ty) → ℕ → ℕ → ℕ → Aggregate
made is_union members size align units = record { is_union = is_union; members = members; size = size; align = align; units = units }

row_is : (k : List Layout) (a : Aggregate) → Keeps a (aggregate_layout k a) → row a.is_union a.members (aggregate_layout k a) ≡ a
row_is k a keeps =
    let l = aggregate_layout k a in
    ap (λ n. made a.is_union a.members n l.align (length l.units)) (sym keeps.size)
    ∙ ap (λ n. made a.is_union a.members a.size n (length l.units)) (sym keeps.align)
    ∙ ap (λ n. made a.is_union a.members a.size a.align n) (sym keeps.units)

laid_as : (k : List Layout) (a : Aggregate) (is_union : Bool) (types : Option (List Ty)) → a.is_union ≡ is_union → a.members ≡ types
    → Keeps a (aggregate_layout k a) → row is_union types (body_layout k is_union types) ≡ a
unfolding aggregate_layout
laid_as k a is_union types u m keeps =
    ap (λ x. row x types (body_layout k x types)) (sym u) ∙ ap (λ y. row a.is_union y (body_layout k a.is_union y)) (sym m) ∙ row_is k a keeps

nat_le-true : (m n : ℕ) → (n < m → ⊥) → nat_le m n ≡ true
nat_le-true m n h = grind (arith, nat_tests)

nat_le-false : (m n : ℕ) → n < m → nat_le m n ≡ false
nat_le-false m n h = grind (arith, nat_tests)

nat_eq-self : (n : ℕ) → nat_eq n n ≡ true
nat_eq-self n = grind arith

-- a type that is small enough
pub row_good : (rows : List Aggregate) (f : Form) (types : Option (List Ty)) (a : Aggregate) (new : List Aggregate)
    → a.is_union ≡ f.is_union → a.members ≡ types → Keeps a (aggregate_layout (layouts_after [] rows) a)
    → (268435456 < (body_layout (layouts_after [] rows) f.is_union types).size → ⊥) → new ≡ rows ++ a ∷ [] → with_members rows f types ≡ Good new
unfolding with_members
row_good rows f types a new u m keeps fits pushed =
    let k = layouts_after [] rows in
    let l = body_layout k f.is_union types in
    ap (λ b. judge (ask 18 f.at b) (rows ++ row f.is_union types l ∷ [])) (nat_le-true l.size 268435456 fits)
    ∙ ap (λ (r : Aggregate). Good (rows ++ r ∷ [])) (laid_as k a f.is_union types u m keeps)
    ∙ ap Good (sym pushed)

-- the same, where the rows are those of a slice
pub row_pushed : (slice rows : List Aggregate) (f : Form) (types : Option (List Ty)) (a : Aggregate) (new : List Aggregate)
    → slice ≡ rows → a.is_union ≡ f.is_union → a.members ≡ types → Keeps a (aggregate_layout (layouts_after [] slice) a)
    → (268435456 < (body_layout (layouts_after [] slice) f.is_union types).size → ⊥) → new ≡ rows ++ a ∷ [] → with_members rows f types ≡ Good new
row_pushed slice rows f types a new e u m keeps fits pushed =
    ap (λ r. with_members r f types) (sym e) ∙ row_good slice f types a new u m keeps fits (pushed ∙ ap (λ r. r ++ a ∷ []) (sym e))

-- one that is too large
pub row_bad : (rows : List Aggregate) (f : Form) (types : Option (List Ty))
    → 268435456 < (body_layout (layouts_after [] rows) f.is_union types).size → permits (with_members rows f types) (stop.Fault (fault 18 f.at)) ≡ true
unfolding with_members
row_bad rows f types large =
    let l = body_layout (layouts_after [] rows) f.is_union types in
    ap (λ b. permits (judge (ask 18 f.at b) (rows ++ row f.is_union types l ∷ [])) (stop.Fault (fault 18 f.at))) (nat_le-false l.size 268435456 large)
    ∙ (rw (nat_eq-self f.at.line) (rw (nat_eq-self f.at.col) refl))

pub ruleset pushed = (pushed_row, row_bad)
