-- The parameters and locals of a function or branch, and the numbers of its string constants.
use Rattle.std.proofs.Common.{◌≡◌, ℕ, ◌+◌, ◌<◌, ◌≤◌, Bool, true, false, List, [], ◌∷◌, ◌++◌, length, refl, arith}
use Rattle.std.specs.Prelude.{All, nat_le, if◌then◌else◌}
use Rattle.std.specs.List.{list_all}
use Rattle.std.proofs.lemmas.Bool.{and_parts}
use Rattle.std.proofs.lemmas.List.Elements.{All-append, All-cons, All-head, All-nil, All-tail}
use Rattle.al_base.specs.declared.place.Place.{Place}
use Rattle.al_rules.specs.declared.fault.TypeFault.{TypeFault}
use Rattle.al_rules.specs.Outcome.{Good, ask, judge}
use Rattle.al_typed.specs.declared.program.Aggregate.{Aggregate}
use Rattle.al_typed.specs.declared.program.Local.{Local}
use Rattle.al_typed.specs.declared.ty.Ty.{Ty}
use Rattle.al_typed.specs.WellTyped.{is_sound, is_stored}
use Rattle.al_environment.specs.declared.environment.Variable.{Variable}
use Rattle.al_environment.specs.declared.numbered.Numbered.{Numbered}
use Rattle.al_body_parts.specs.declared.parts.WrittenText.{WrittenText}
use Rattle.al_type_stmt.specs.Iterators.{numbered_at}
use Rattle.al_sound_programs.specs.Unnamed.{Declared}
use Rattle.al_type_function.specs.Numbers.{indexed}
use Rattle.al_type_function.specs.Locals.{local, locals_faults, result_faults, rule_18_locals, types_faults, variable}
use Rattle.al_type_function.specs.Texts.{numbered}
use Rattle.al_sound_types.specs.Types.{is_local, types_hold}

good_is : {A : Type 0} {a b : A} → Good a ≡ Good b → a ≡ b
good_is h = cc

-- ---- rules

pub judged_good : {A : Type 0} (fs : List TypeFault) (a b : A) → judge fs a ≡ Good b → (fs ≡ []) × (a ≡ b)
judged_good [] a b e = (refl, good_is e)
judged_good (f ∷ fs) a b e = absurd (cc)

pub none_left : (xs ys : List TypeFault) → xs ++ ys ≡ [] → (xs ≡ []) × (ys ≡ [])
none_left [] ys e = (refl, e)
none_left (x ∷ xs) ys e = absurd (cc)

pub asked_none : (n : ℕ) (at : Place) (h : Bool) → ask n at h ≡ [] → h ≡ true
asked_none n at true e = refl
asked_none n at false e = absurd (cc)

pub small_of : (rows : List Aggregate) (at : Place) (ls : List Local) → locals_faults rows at ls ≡ [] → rule_18_locals rows ls ≡ true
small_of rows at ls e = asked_none 18 at (rule_18_locals rows ls) e

pub hold_of : (rows : List Aggregate) (at : Place) (ls : List Local) (ts : List Ty) → types_faults rows at ls ts ≡ [] → types_hold rows ls ts ≡ true
hold_of rows at ls ts e = asked_none 18 at (types_hold rows ls ts) e

pub result_of : (rows : List Aggregate) (at : Place) (returns : Ty) → result_faults rows at returns ≡ [] → is_sound rows returns ≡ true
result_of rows at returns e = asked_none 18 at (is_sound rows returns) e

-- ---- types

pub all_hold : {A : Type 0} (p : A → Bool) (xs : List A) → list_all p xs ≡ true → All (λ x. p x ≡ true) xs
all_hold p [] h = All-nil (λ x. p x ≡ true)
all_hold p (x ∷ xs) h = let b = and_parts _ _ h in All-cons (λ x. p x ≡ true) x xs b.0 (all_hold p xs b.1)

abbrev pub IsStoredLocal : List Aggregate → Local → Type 0
IsStoredLocal rows l = is_stored rows l.ty ≡ true

abbrev pub IsStoredVariable : List Aggregate → Variable → Type 0
IsStoredVariable rows v = is_stored rows v.ty ≡ true

pub locals_hold : (rows : List Aggregate) (ls : List Local) (ts : List Ty) → types_hold rows ls ts ≡ true → All (IsStoredLocal rows) ls
locals_hold rows ls ts h = all_hold (is_local rows) ls (and_parts _ _ h).0

pub written_hold : (rows : List Aggregate) (ls : List Local) (ts : List Ty) → types_hold rows ls ts ≡ true → list_all (is_sound rows) ts ≡ true
written_hold rows ls ts h = (and_parts (list_all (is_local rows) ls) _ h).1

-- what expressions know of locals has their types
pub variables_hold : (rows : List Aggregate) (names : List (List ℕ)) (marks : List Bool) (k : ℕ) (ds : List Declared) → All (IsStoredLocal rows) (indexed (local names marks) k ds)
    → All (IsStoredVariable rows) (indexed variable k ds)
unfolding indexed
variables_hold rows names marks k [] h = All-nil (IsStoredVariable rows)
variables_hold rows names marks k (d ∷ ds) h =
    let rest : List Local = indexed (local names marks) (k + 1) ds in
    All-cons (IsStoredVariable rows) (variable k d) (indexed variable (k + 1) ds) (All-head (IsStoredLocal rows) (local names marks k d) rest h)
    (variables_hold rows names marks (k + 1) ds (All-tail (IsStoredLocal rows) (local names marks k d) rest h))

-- ---- string constants

abbrev pub IsBelow : ℕ → Numbered → Type 0
IsBelow most m = m.number < most

pub first_below : (b : Bool) (most : ℕ) (m : Numbered) → m.number < most → All (IsBelow most) (if b then m ∷ [] else [])
first_below true most m h = All-cons (IsBelow most) m [] h (All-nil (IsBelow most))
first_below false most m h = All-nil (IsBelow most)

pub texts_below : (most from : ℕ) (ts : List WrittenText) → from + length ts ≤ most → All (IsBelow most) (numbered from ts)
unfolding numbered
texts_below most from [] h = All-nil (IsBelow most)
texts_below most from (t ∷ ts) h =
    All-append (IsBelow most) (numbered_at from t.at) (numbered (from + 1) ts)
    (first_below (nat_le from 4294967295) most (record { at = t.at; number = from }) (omega arith)) (texts_below most (from + 1) ts (omega arith))
