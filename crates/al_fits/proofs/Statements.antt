-- The work of statements is that of well-typed ones, and jumps lead to such work.
use Rattle.std.proofs.Common.{◌≡◌, ℕ, zero, suc, ◌==◌, Bool, true, false, if◌then◌else◌, List, [], ◌∷◌, ◌++◌, map, Option, Some, None, refl, sym, ap, subst}
use Rattle.std.specs.Prelude.{⊤, slice_get, unwrap_or}
use Rattle.std.specs.List.{AllByRecursion}
use Rattle.al_typed.specs.declared.program.Function.{Function as FunctionRow}
use Rattle.al_typed.specs.declared.program.Program.{Program}
use Rattle.al_typed.specs.declared.expression.TExpr.{TExpr}
use Rattle.al_typed.specs.declared.statement.TCommunication.{TCommunication}
use Rattle.al_typed.specs.declared.statement.TCommunication.TheVariants as talk
use Rattle.al_typed.specs.declared.statement.TStmt.{TStmt, Empty, Block', Declare, Value, If', Switch', Case, Default, Alt', AltCase, Par, Raise, Goto, Return, Become, Break, Continue, Alloc, Unalloc, Check, Proc, Task, Held-TStmt-If-3, Row_of-TStmt, end_of-TStmt, more_of-TStmt}
use Rattle.al_typed.specs.declared.statement.TStmt as stmt
use Rattle.al_typed.specs.StatementForms as part
use Rattle.al_typed.specs.Sound.{HasSoundTypes, outermost}
use Rattle.al_typed.specs.WellTyped.{IsTarget, IsStatement, AreStatements, IsOther, Communicates, IsAltCase, CaseLabels, no_labels, switch_labels, alt_labels, Nest, Scope, inside, in_loop, in_cases}
use Rattle.al_meaning.specs.Places.{function_at}
use Rattle.al_meaning.specs.Items.{Eval, WhileAgain, DoCondition, ForNext, CasesEnd, Item}
use Rattle.al_meaning.specs.Parts.{Border, Inside, LoopEnd, BodyEnd, border, other_of, item, to_do, statements, behind_bodies, next_of_loop, going_on, going_on_in, going_on_in_other, behind_case, behind_default, Branching, branchings, first_of_two}
use Rattle.al_meaning.specs.Here.{Here}
use Rattle.al_meaning.specs.Calls.{evaluated}
use Rattle.al_meaning.specs.Evaluate.{alt_exprs, communication_exprs, communications, goes_into, went_work}
use Rattle.al_meaning.specs.Execute.{cases_of, items_from, selects, select}
use Rattle.al_fits.specs.Controls.{HaveFewIterators, OtherHasFewIterators, HasRoom, In, OtherStands, Stands, ItemIs, WorkIs, NextIs}
use Rattle.al_fits.proofs.Going.{HereIs, WorksAre, does_items, each_append, goes_on, items_are, lost_it}
use Rattle.al_fits.proofs.Members.{function_is}
use Rattle.al_fits.proofs.Terms.{leaves_small, narrow}

-- the statements of a body
abbrev pub BodyStands : {m : _} → Row_of-TStmt m → Scope → Type 0
BodyStands row scope = (n : Nest) × (AreStatements scope n row × HaveFewIterators row)

pub body_items : (p : Program) {m : _} (row : Row_of-TStmt m) → In p (BodyStands row) → AllByRecursion (ItemIs p) (statements row)
unfolding AreStatements
body_items p end_of-TStmt x = tt
body_items p (more_of-TStmt (Case e bits) rest) x = body_items p rest (narrow x (λ s v. (v.0, (v.1.0.1, v.1.1.1))))
body_items p (more_of-TStmt Default rest) x = body_items p rest (narrow x (λ s v. (v.0, (v.1.0.1, v.1.1.1))))
body_items p (more_of-TStmt (AltCase c) rest) x = body_items p rest (narrow x (λ s v. (v.0, (v.1.0.1, v.1.1.1))))
body_items p (more_of-TStmt s rest) x =
    (narrow x (λ s v. (v.0, (v.1.0.0, v.1.1.0))), body_items p rest (narrow x (λ s v. (v.0, (v.1.0.1, v.1.1.1)))))

pub other_stands : (p : Program) (other : Held-TStmt-If-3) → In p (λ s. (n : Nest) × (IsOther s n other × OtherHasFewIterators other)) → In p (OtherStands (other_of other))
unfolding IsOther
other_stands p stmt.None' x = narrow x (λ s v. tt)
other_stands p (stmt.Some' _ (more_of-TStmt other end_of-TStmt)) x = narrow x (λ s v. (inside v.0, v.1))

-- ---- items that are found, if any

abbrev pub FoundIs : Program → Option (List Item) → Type 0
FoundIs p (Some items) = AllByRecursion (ItemIs p) items
FoundIs p None = ⊤

found_if : (p : Program) (b : Bool) (x y : Option (List Item)) → FoundIs p x → FoundIs p y → FoundIs p (if b then x else y)
found_if p true x y f g = f
found_if p false x y f g = g

found_first : (p : Program) (x y : Option (List Item)) → FoundIs p x → FoundIs p y → FoundIs p (first_of_two x y)
found_first p (Some items) y f g = f
found_first p None y f g = g

pub found_items : (p : Program) (o : Option (List Item)) → FoundIs p o → AllByRecursion (ItemIs p) (unwrap_or o [])
found_items p (Some items) f = f
found_items p None f = tt

mutual
  unfolding IsStatement AreStatements IsOther

  pub going : (p : Program) (k : ℕ) (s : TStmt) (rest : List Item) → In p (Stands s) → AllByRecursion (ItemIs p) rest → FoundIs p (going_on k s rest)
  going p k (Block' _ _ body) rest x r = going_in p k body rest (narrow x (λ s v. (inside v.0, v.1))) r
  going p k (part.label line number body) rest x r =
      found_if p (number == k) (Some (to_do (part.label line number body) ∷ rest)) (going_on k body rest)
      (x, r) (going p k body rest (narrow x (λ s v. (inside v.0, v.1))) r)
  going p k (If' _ _ _ (more_of-TStmt chosen end_of-TStmt) other) rest x r =
      found_first p (going_on k chosen rest) (going_on_in_other k other rest)
      (going p k chosen rest (narrow x (λ s v. (inside v.0, (v.1.0.1.0, v.1.1.0)))) r)
      (going_other p k other rest (narrow x (λ s v. (v.0, (v.1.0.1.1, v.1.1.1)))) r)
  going p k (part.while_loop line condition body) rest x r =
      going p k body (item line (WhileAgain (part.while_loop line condition body)) ∷ rest) (narrow x (λ s v. (in_loop v.0, (v.1.0.1, v.1.1)))) (x, r)
  going p k (part.do_loop line body condition) rest x r =
      going p k body (item line (DoCondition (part.do_loop line body condition)) ∷ rest) (narrow x (λ s v. (in_loop v.0, (v.1.0.0, v.1.1)))) (x, r)
  going p k (part.for_loop line start condition step body) rest x r =
      going p k body (item line (ForNext (part.for_loop line start condition step body)) ∷ rest) (narrow x (λ s v. (in_loop v.0, (v.1.0.1.1.1, v.1.1)))) (x, r)
  going p k (Switch' line value shape body) rest x r =
      going_in p k body (item line CasesEnd ∷ rest) (narrow x (λ s v. (in_cases (switch_labels v.1.0.1.0) v.0, (v.1.0.1.1.1.1, v.1.1)))) (tt, r)
  going p k (Alt' line shape body) rest x r =
      going_in p k body (item line CasesEnd ∷ rest) (narrow x (λ s v. (in_cases alt_labels v.0, (v.1.0.1.1, v.1.1)))) (tt, r)
  going p k (part.rescue line number body) rest x r =
      found_if p (number == k) (Some (to_do body ∷ rest)) (going_on k body rest)
      (narrow x (λ s v. (inside v.0, v.1)), r) (going p k body rest (narrow x (λ s v. (inside v.0, v.1))) r)
  going p k _ rest x r = tt

  going_other : (p : Program) (k : ℕ) (other : Held-TStmt-If-3) (rest : List Item) → In p (λ s. (n : Nest) × (IsOther s n other × OtherHasFewIterators other))
      → AllByRecursion (ItemIs p) rest → FoundIs p (going_on_in_other k other rest)
  going_other p k stmt.None' rest x r = tt
  going_other p k (stmt.Some' _ (more_of-TStmt other end_of-TStmt)) rest x r = going p k other rest (narrow x (λ s v. (inside v.0, v.1))) r

  going_in : (p : Program) (k : ℕ) {m : _} (row : Row_of-TStmt m) (rest : List Item) → In p (BodyStands row) → AllByRecursion (ItemIs p) rest
      → FoundIs p (going_on_in k row rest)
  going_in p k end_of-TStmt rest x r = tt
  going_in p k (more_of-TStmt s more) rest x r =
      found_first p (going_on k s (statements more ++ rest)) (going_on_in k more rest)
      (going p k s (statements more ++ rest) (narrow x (λ s v. (v.0, (v.1.0.0, v.1.1.0))))
      (each_append (ItemIs p) (statements more) rest (body_items p more (narrow x (λ s v. (v.0, (v.1.0.1, v.1.1.1))))) r))
      (going_in p k more rest (narrow x (λ s v. (v.0, (v.1.0.1, v.1.1.1)))) r)

-- the body of a function of the program
pub body_stands : (p : Program) → HasSoundTypes p → HasRoom p → (number : ℕ) (f : FunctionRow) → function_at p number ≡ Some f → In p (Stands f.body)
body_stands p W R number f e = record { iterators = 0; term = (outermost, ((function_is p W number f e).body, R.iterators number f e)) }

-- what is found in the body of the function of that number
pub from_body : (p : Program) → HasSoundTypes p → HasRoom p → (n k : ℕ) (o : Option FunctionRow) → function_at p n ≡ o → FoundIs p (items_from o k)
from_body p W R n k None e = tt
from_body p W R n k (Some f) e = going p k f.body [] (body_stands p W R n f e) tt

behind_one : (p : Program) (b : Border) (inside behind : List Item) → AllByRecursion (ItemIs p) inside → AllByRecursion (ItemIs p) behind
    → AllByRecursion (ItemIs p) (elim b [ Inside ↦ inside | LoopEnd ↦ behind | BodyEnd ↦ behind ])
behind_one p Inside inside behind f g = f
behind_one p LoopEnd inside behind f g = g
behind_one p BodyEnd inside behind f g = g

pub behind_is : (p : Program) (levels : ℕ) (items : List Item) → AllByRecursion (ItemIs p) items → AllByRecursion (ItemIs p) (behind_bodies levels items)
behind_is p zero items h = h
behind_is p (suc levels) [] h = tt
behind_is p (suc levels) (i ∷ items) h =
    behind_one p (border i.work) (behind_bodies (suc levels) items) (behind_bodies levels items) (behind_is p (suc levels) items h.1) (behind_is p levels items h.1)

next_one : (p : Program) (b : Border) (inside found : List Item) → AllByRecursion (ItemIs p) inside → AllByRecursion (ItemIs p) found
    → AllByRecursion (ItemIs p) (elim b [ Inside ↦ inside | LoopEnd ↦ found | BodyEnd ↦ inside ])
next_one p Inside inside found f g = f
next_one p LoopEnd inside found f g = g
next_one p BodyEnd inside found f g = f

pub next_is : (p : Program) (levels : ℕ) (items : List Item) → AllByRecursion (ItemIs p) items → AllByRecursion (ItemIs p) (next_of_loop levels items)
next_is p zero items h = h
next_is p (suc levels) [] h = tt
next_is p (suc zero) (i ∷ items) h = next_one p (border i.work) (next_of_loop 1 items) (i ∷ items) (next_is p 1 items h.1) h
next_is p (suc (suc levels)) (i ∷ items) h =
    next_one p (border i.work) (next_of_loop (suc (suc levels)) items) (next_of_loop (suc levels) items) (next_is p (suc (suc levels)) items h.1) (next_is p (suc levels) items h.1)

-- ---- cases

case_is : (p : Program) (bits : ℕ) {m : _} (row : Row_of-TStmt m) → In p (BodyStands row) → FoundIs p (behind_case bits row)
unfolding AreStatements
case_is p bits end_of-TStmt x = tt
case_is p bits (more_of-TStmt (Case e label) rest) x =
    found_if p (label == bits) (Some (statements rest)) (behind_case bits rest)
    (body_items p rest (narrow x (λ s v. (v.0, (v.1.0.1, v.1.1.1))))) (case_is p bits rest (narrow x (λ s v. (v.0, (v.1.0.1, v.1.1.1)))))
case_is p bits (more_of-TStmt s rest) x = case_is p bits rest (narrow x (λ s v. (v.0, (v.1.0.1, v.1.1.1))))

default_is : (p : Program) {m : _} (row : Row_of-TStmt m) → In p (BodyStands row) → FoundIs p (behind_default row)
unfolding AreStatements
default_is p end_of-TStmt x = tt
default_is p (more_of-TStmt Default rest) x = body_items p rest (narrow x (λ s v. (v.0, (v.1.0.1, v.1.1.1))))
default_is p (more_of-TStmt s rest) x = default_is p rest (narrow x (λ s v. (v.0, (v.1.0.1, v.1.1.1))))

selects_it : (h : Here) (o : Option (List Item)) → HereIs h → FoundIs h.program o → NextIs h.program (selects h o)
selects_it h (Some items) K f = does_items h (items ++ item h.line CasesEnd ∷ []) K (each_append (ItemIs h.program) items (item h.line CasesEnd ∷ []) f (tt, tt))
selects_it h None K f = goes_on h K

pub select_it : (s : TStmt) (bits : ℕ) (h : Here) → HereIs h → In h.program (Stands s) → NextIs h.program (select s bits h)
unfolding IsStatement
select_it (Switch' line value shape body) bits h K x =
    let y : In h.program (BodyStands body) = narrow x (λ s v. (in_cases (switch_labels v.1.0.1.0) v.0, (v.1.0.1.1.1.1, v.1.1))) in
    selects_it h (first_of_two (behind_case bits body) (behind_default body)) K
    (found_first h.program (behind_case bits body) (behind_default body)
    (case_is h.program bits body y) (default_is h.program body y))
select_it s bits h K x = lost_it h K

communicates : (l : CaseLabels) (s : Scope) (c : TCommunication) → IsAltCase l s c → Communicates s c
communicates no_labels s c x = absurd x
communicates (switch_labels k) s c x = absurd x
communicates alt_labels s c x = x

-- the cases of an alt
abbrev pub BranchIs : Program → Branching → Type 0
BranchIs p b = In p (λ s. Communicates s b.communication) × AllByRecursion (ItemIs p) b.body

row_branches : (p : Program) {m : _} (row : Row_of-TStmt m) → In p (BodyStands row) → AllByRecursion (BranchIs p) (branchings row)
unfolding AreStatements IsStatement
row_branches p end_of-TStmt x = tt
row_branches p (more_of-TStmt (AltCase c) rest) x = (
  (narrow x (λ s v. communicates v.0.labels s c v.1.0.0), body_items p rest (narrow x (λ s v. (v.0, (v.1.0.1, v.1.1.1))))),
  row_branches p rest (narrow x (λ s v. (v.0, (v.1.0.1, v.1.1.1)))),
)
row_branches p (more_of-TStmt s rest) x = row_branches p rest (narrow x (λ s v. (v.0, (v.1.0.1, v.1.1.1))))

pub alt_branches_are : (p : Program) (s : TStmt) → In p (Stands s) → AllByRecursion (BranchIs p) (cases_of s)
unfolding IsStatement
alt_branches_are p (Alt' line shape body) x = row_branches p body (narrow x (λ s v. (in_cases alt_labels v.0, (v.1.0.1.1, v.1.1))))
alt_branches_are p _ x = tt

communication_works : (p : Program) (c : TCommunication) → In p (λ s. Communicates s c) → WorksAre p (evaluated (communication_exprs c))
communication_works p (talk.Receive t chan) x = (narrow x (λ s v. v.0), tt)
communication_works p (talk.ReceiveInto t target chan) x = (narrow x (λ s v. v.1.0), tt)
communication_works p (talk.Send chan value) x = (narrow x (λ s v. v.0), (narrow x (λ s v. v.1.0), tt))

evaluated-append : (es fs : List TExpr) → evaluated (es ++ fs) ≡ evaluated es ++ evaluated fs
evaluated-append [] fs = refl
evaluated-append (e ∷ es) fs = ap (λ ws. Eval e ∷ ws) (evaluated-append es fs)

pub alt_works : (p : Program) (bs : List Branching) → AllByRecursion (BranchIs p) bs → WorksAre p (evaluated (alt_exprs (communications bs)))
alt_works p [] x = tt
alt_works p (b ∷ bs) x =
    subst (WorksAre p) (sym (evaluated-append (communication_exprs b.communication) (alt_exprs (communications bs))))
    (each_append (WorkIs p) (evaluated (communication_exprs b.communication)) (evaluated (alt_exprs (communications bs)))
    (communication_works p b.communication x.0.0) (alt_works p bs x.1))

went_works : (p : Program) → HasSoundTypes p → (c : TCommunication) (words : List ℕ) → In p (λ s. Communicates s c) → WorksAre p (went_work p c words)
went_works p W (talk.ReceiveInto t target chan) words x =
    let y : In p (λ s. IsTarget s target) = narrow x (λ s v. v.0) in
    (y, (tt, (leaves_small p W target y, (tt, tt))))
went_works p W (talk.Receive t chan) words x = tt
went_works p W (talk.Send chan value) words x = tt

abbrev OneIs : Program → Option Branching → Type 0
OneIs p (Some b) = BranchIs p b
OneIs p None = ⊤

one_is : (p : Program) (bs : List Branching) (k : ℕ) → AllByRecursion (BranchIs p) bs → OneIs p (slice_get bs k)
one_is p [] k x = tt
one_is p (b ∷ bs) zero x = x.0
one_is p (b ∷ bs) (suc k) x = one_is p bs k x.1

goes_into_it : (h : Here) → HasSoundTypes h.program → (o : Option Branching) (words : List ℕ) → HereIs h → OneIs h.program o → NextIs h.program (goes_into h o words)
goes_into_it h W (Some b) words K x =
    let P = ItemIs h.program in
    does_items h (map (item h.line) (went_work h.program b.communication words) ++ b.body ++ item h.line CasesEnd ∷ []) K
    (each_append P (map (item h.line) (went_work h.program b.communication words) ++ b.body) (item h.line CasesEnd ∷ [])
    (items_are h.program h.line (went_work h.program b.communication words) b.body
    (went_works h.program W b.communication words x.0) x.1)
    (tt, tt))
goes_into_it h W None words K x = lost_it h K

pub went_it : (s : TStmt) (k : ℕ) (words : List ℕ) (h : Here) → HasSoundTypes h.program → HereIs h → In h.program (Stands s)
    → NextIs h.program (goes_into h (slice_get (cases_of s) k) words)
went_it s k words h W K x =
    goes_into_it h W (slice_get (cases_of s) k) words K
    (one_is h.program (cases_of s) k (alt_branches_are h.program s x))
