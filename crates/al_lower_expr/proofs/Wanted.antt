-- Operations of expressions whose values may be wanted, put together of those before and behind their parts.
use Rattle.std.proofs.Common.{◌≡◌, ℕ, ◌+◌, Bool, true, false, not, if◌then◌else◌, List, [], ◌++◌, Option, Some, None, unwrap_or, refl, sym, ap, ◌∙◌, subst, append_assoc}
use Rattle.std.proofs.lemmas.List.{append-nil}
use Rattle.al_typed.specs.declared.ty.Ty.{Ty}
use Rattle.al_typed.specs.declared.expression.Change.{Change}
use Rattle.al_typed.specs.declared.expression.TExpr.{TExpr}
use Rattle.al_typed.specs.declared.expression.Passed.{Passed}
use Rattle.al_typed.specs.declared.expression.Passed.TheVariants as passed
use Rattle.al_meaning.specs.Here.{member_type}
use Rattle.al_meaning.specs.Places.{path_offset}
use Rattle.al_ir.specs.declared.ir.Operation.{Operation}
use Rattle.al_lower_code.specs.Homes.{Spot, words}
use Rattle.al_lower_code.specs.Moving.{Where, home_of, moved_by, copies, read_code, save_code}
use Rattle.al_lower_code.specs.Coded.{Coded, Placed, Row, Given, Aimed}
use Rattle.al_lower_code.specs.Actions.{changing, changed_home, before_change, behind_change, change_code, updates_home, updates_place, updated_slot, update_coded, assign_coded, stepped_coded, steps_variable, steps_place, gives_old, zerox_coded, clears_variable, clears_place, arguments_code, call_coded, call_pointer_coded}
use Rattle.al_lower_parts.specs.Parts.{object_free, passes_at}
use Rattle.al_lower_operands.specs.Rows.{row_of}
use Rattle.al_lower_forms.specs.declared.steps.Step.{Step}
use Rattle.al_lower_forms.specs.declared.steps.Step.TheVariants as step
use Rattle.al_lower_forms.specs.Calls.{called, called_pointer}
use Rattle.al_lower_forms.specs.Steps.{wanted, kept, stepped, step_at}
use Rattle.al_lower_forms.specs.Updates.{opens, opens_home, opens_stored, home_old, old_slot, new_slot, closes, closes_stored}
use Rattle.al_lower_expr.specs.Members.{object_placed}
use Rattle.al_lower_expr.specs.Stored.{value_slot, updates_at}
use Rattle.al_lower_expr.proofs.Targets.{assigned_value}

-- ---- changes that stand somewhere

-- what changes something, and a copy of its value where that is wanted
pub wanted_change : (s : Spot) (t : Ty) (does : (to : ℕ) → List Operation) (slot : (to : ℕ) → ℕ) (dest : Option ℕ) (to : ℕ)
    → does to ++ kept s t dest (slot to) ≡ wanted (changing s t does slot) dest to
wanted_change s t does slot (Some dest) to = refl
wanted_change s t does slot None to = append-nil (does to)

pub assignment : (s : Spot) (t : Ty) (x : Aimed) (c : Coded) (dest : Option ℕ) (to : ℕ)
    → (assign_coded s t x c).effect to ++ kept s t dest (value_slot x c to) ≡ wanted (assign_coded s t x c) dest to
assignment s t x c (Some dest) to = assigned_value s t x c dest to
assignment s t x c None to = append-nil ((assign_coded s t x c).effect to)

-- ---- `op=`

in_home : (s : Spot) (t : Ty) (how : Change) (c : Coded) (home to : ℕ) (rest : List Operation) (b : Bool)
    → (if b then [] else copies s.line (to + 1) home (words s t)) ++ (change_code s t how c home (if b then home else to + 1) (to + 3) ++ rest)
    ≡ (if b then change_code s t how c home home (to + 3) else copies s.line (to + 1) home (words s t) ++ change_code s t how c home (to + 1) (to + 3)) ++ rest
in_home s t how c home to rest true = refl
in_home s t how c home to rest false = sym (append_assoc (copies s.line (to + 1) home (words s t)) (change_code s t how c home (to + 1) (to + 3)) rest)

five : (a b c d e f : List Operation) → (a ++ b) ++ (c ++ ((d ++ e) ++ f)) ≡ (a ++ (b ++ (c ++ (d ++ e)))) ++ f
five a b c d e f =
    append_assoc a b (c ++ ((d ++ e) ++ f))
    ∙ ap (λ (ops : List Operation). a ++ (b ++ ops)) (sym (append_assoc c (d ++ e) f))
    ∙ ap (λ (ops : List Operation). a ++ ops) (sym (append_assoc b (c ++ (d ++ e)) f))
    ∙ sym (append_assoc a (b ++ (c ++ (d ++ e))) f)

by_home : (s : Spot) (t : Ty) (how : Change) (c : Coded) (at : Where) (to : ℕ) (rest : List Operation) (home : Option ℕ)
    → (elim home as (λ (_ : Option ℕ). List Operation) [ Some h ↦ opens_home s t c h to | None ↦ opens_stored s t how at to ])
    ++ (change_code s t how c (unwrap_or home (to + 1)) (elim home as (λ (_ : Option ℕ). ℕ) [ Some h ↦ home_old c h to | None ↦ to + 1 ]) (to + 3)
    ++ ((elim home as (λ (_ : Option ℕ). List Operation) [ Some h ↦ [] | None ↦ closes_stored s t how at (unwrap_or home (to + 1)) ]) ++ rest))
    ≡ (elim home as (λ (_ : Option ℕ). List Operation) [ Some h ↦ updates_home s t how c h to | None ↦ updates_place s t how c at to ]) ++ rest
by_home s t how c at to rest (Some home) = in_home s t how c home to rest c.keeps
by_home s t how c at to rest None = five (read_code s t at (to + 1)) (before_change s t how (to + 1)) (change_code s t how c (to + 1) (to + 1) (to + 3)) (behind_change s t how (to + 1)) (save_code s t at (to + 1)) rest

-- before the right side, that, and behind it
pub update_is : (s : Spot) (t : Ty) (how : Change) (c : Coded) (at : Where) (dest : Option ℕ) (to : ℕ)
    → opens s t how c at to ++ (change_code s t how c (new_slot t how at to) (old_slot t how c at to) (to + 3) ++ (closes s t how at (new_slot t how at to) ++ kept s t dest (new_slot t how at to)))
    ≡ updates_at s t how c at dest to
update_is s t how c at dest to = by_home s t how c at to (kept s t dest (new_slot t how at to)) (changed_home t how at)

-- the same by the slots that were found
pub update_by : (s : Spot) (t : Ty) (how : Change) (c : Coded) (at : Where) (dest : Option ℕ) (to new old free : ℕ)
    → new ≡ new_slot t how at to → old ≡ old_slot t how c at to → free ≡ to + 3
    → opens s t how c at to ++ (change_code s t how c new old free ++ (closes s t how at new ++ kept s t dest new)) ≡ updates_at s t how c at dest to
update_by s t how c at dest to new old free n o f = rw (n, o, f) (update_is s t how c at dest to)

-- the place, and all of it
pub placed_update : (s : Spot) (t : Ty) (pl : Placed) (how : Change) (c : Coded) (dest : Option ℕ) (to : ℕ)
    → pl.code (not c.keeps) to ++ updates_at s t how c (pl.at (not c.keeps) to) dest to ≡ wanted (update_coded s t pl how c) dest to
placed_update s t pl how c dest to =
    sym (append_assoc (pl.code (not c.keeps) to) _ (kept s t dest (updated_slot t pl how c to)))
    ∙ wanted_change s t _ (updated_slot t pl how c) dest to

pub placed_update_by : (s : Spot) (t : Ty) (pl : Placed) (how : Change) (c : Coded) (dest : Option ℕ) (to : ℕ) (keeps : Bool) (at : Where)
    → keeps ≡ c.keeps → at ≡ pl.at (not keeps) to
    → pl.code (not keeps) to ++ updates_at s t how c at dest to ≡ wanted (update_coded s t pl how c) dest to
placed_update_by s t pl how c dest to keeps at k a =
    subst (λ (b : Bool). (x : Where) → x ≡ pl.at (not b) to → pl.code (not b) to ++ updates_at s t how c x dest to ≡ wanted (update_coded s t pl how c) dest to) (sym k)
    (λ x h. subst (λ (y : Where). pl.code (not c.keeps) to ++ updates_at s t how c y dest to ≡ wanted (update_coded s t pl how c) dest to) (sym h) (placed_update s t pl how c dest to))
    at a

-- ---- `++`, `--`, zerox

stored_step : (s : Spot) (t : Ty) (how : Step) (pl : Placed) → home_of (pl.at false 0) ≡ None
    → changing s t (λ to. pl.code false to ++ step_at s t how (pl.at false to) to) (λ to. to + 1) ≡ stepped s t how pl
stored_step s t (step.By op) pl h = sym (ap (λ (home : Option ℕ). elim home as (λ (_ : Option ℕ). Coded) [ Some h ↦ steps_variable s t op h | None ↦ changing s t (λ to. steps_place s t op pl (if gives_old op then to + 1 + words s t else to + 1) to) (λ to. to + 1) ]) h)
stored_step s t step.Clear pl h = sym (ap (λ (home : Option ℕ). elim home as (λ (_ : Option ℕ). Coded) [ Some h ↦ clears_variable s t h | None ↦ changing s t (clears_place s t pl) (λ to. to + 1) ]) h)

-- what does not stand in slots
pub step_is : (s : Spot) (t : Ty) (how : Step) (pl : Placed) (dest : Option ℕ) (to : ℕ) → home_of (pl.at false 0) ≡ None
    → pl.code false to ++ (step_at s t how (pl.at false to) to ++ kept s t dest (to + 1)) ≡ wanted (stepped s t how pl) dest to
step_is s t how pl dest to h =
    sym (append_assoc (pl.code false to) (step_at s t how (pl.at false to) to) (kept s t dest (to + 1)))
    ∙ wanted_change s t (λ to. pl.code false to ++ step_at s t how (pl.at false to) to) (λ to. to + 1) dest to
    ∙ ap (λ (c : Coded). wanted c dest to) (stored_step s t how pl h)

-- ---- calls

pub arguments_by : (s : Spot) (object : Given) (xs ys : List TExpr) (to behind n : ℕ) → ys ≡ xs → behind ≡ to + n → n ≡ object.words
    → object.code to ++ (row_of s ys).values behind ≡ arguments_code object (row_of s xs) to
arguments_by s object xs ys to behind n same b w = rw (same, b, w) refl

pub call_is : (s : Spot) (t : Ty) (function : ℕ) (object : Given) (row : Row) (dest : Option ℕ) (to : ℕ)
    → arguments_code object row to ++ called s t function dest to ≡ wanted (call_coded s t function object row) dest to
call_is s t function object row (Some dest) to = sym (append_assoc (arguments_code object row to) _ _)
call_is s t function object row None to = refl

pub pointed_call : (s : Spot) (t : Ty) (class : ℕ) (c : Coded) (row : Row) (dest : Option ℕ) (to : ℕ)
    → c.value to to ++ (row.values (to + 1) ++ called_pointer s class t dest to) ≡ wanted (call_pointer_coded s t class c row) dest to
pointed_call s t class c row (Some dest) to =
    ap (λ (ops : List Operation). c.value to to ++ ops) (sym (append_assoc (row.values (to + 1)) _ _)) ∙ sym (append_assoc (c.value to to) _ _)
pointed_call s t class c row None to = ap (λ (ops : List Operation). c.value to to ++ (row.values (to + 1) ++ ops)) (append-nil _)

pub pointed_call_by : (s : Spot) (t : Ty) (class : ℕ) (c : Coded) (xs ys : List TExpr) (dest : Option ℕ) (to behind : ℕ) → ys ≡ xs → behind ≡ to + 1
    → c.value to to ++ ((row_of s ys).values behind ++ called_pointer s class t dest to) ≡ wanted (call_pointer_coded s t class c (row_of s xs)) dest to
pointed_call_by s t class c xs ys dest to behind same b = rw (same, b) (pointed_call s t class c (row_of s xs) dest to)

-- ---- objects

-- an object at a place
pub found_object : (s : Spot) (how : Passed) (whole : Ty) (path : List ℕ) (pl : Placed) (to : ℕ)
    → pl.code false (object_free how (words s (member_type s.program whole path)) to)
    ++ passes_at s how (member_type s.program whole path) (moved_by (path_offset s.program whole path) (pl.at false (object_free how (words s (member_type s.program whole path)) to))) to
    ≡ (object_placed s how whole path pl).code to
found_object s passed.Address whole path pl to = refl
found_object s passed.Value whole path pl to = refl
found_object s passed.Nothing whole path pl to = append-nil (pl.code false to)
