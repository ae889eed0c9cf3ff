-- A control does what the meaning says of statements.
use Rattle.std.proofs.Common.{◌≡◌, ℕ, zero, suc, ◌+◌, List, [], ◌∷◌, ◌++◌, length, map, drop, Option, Some, None, refl, sym, ap, ◌∙◌, subst, arith, append_assoc}
use Rattle.std.specs.Prelude.{Bool, true, false, ◌==◌, if◌then◌else◌, slice_get, slice_index}
use Rattle.al_base.specs.declared.trap.Trap.TheVariants as trap
use Rattle.al_event.specs.declared.act.Act.TheVariants as act
use Rattle.al_typed.specs.declared.statement.TBounds.{TBounds}
use Rattle.al_typed.specs.declared.statement.TCommunication.{TCommunication}
use Rattle.al_typed.specs.declared.statement.TStmt.{TStmt, Empty, Block', Declare, Value, If', Switch', Case, Default, Alt', AltCase, Par, Raise, Goto, Return, Become, Break, Continue, Alloc, Unalloc, Check, Proc, Task as TaskStmt, Held-TStmt-If-3, Row_of-TStmt, end_of-TStmt, more_of-TStmt}
use Rattle.al_typed.specs.declared.statement.TStmt as stmt
use Rattle.al_typed.specs.StatementForms as part
use Rattle.al_meaning.specs.Words.{bits_of, is_zero}
use Rattle.al_meaning.specs.Items.{Bound, ForCondition, AltTalk, CasesEnd, InvokeInstead, Item, Frame, Control}
use Rattle.al_meaning.specs.Parts.{item, to_do, statements, other_of, behind_case, behind_default, behind_bodies, next_of_loop, first_of_two}
use Rattle.al_meaning.specs.Parts as parts
use Rattle.al_meaning.specs.Calls.{joined, evaluated}
use Rattle.al_meaning.specs.Evaluate.{alt_exprs, alt_branches, goes_into, went_work}
use Rattle.al_meaning.specs.Execute.{bounds_exprs, bounds_of, starts_other, selects}
use Rattle.al_meaning.specs.Step.{private_step}
use Rattle.al_meaning.specs.Here as here
use Rattle.al_meaning.specs.Evaluate as evaluate
use Rattle.al_meaning.specs.Tasks.{Env, Still, Rest, give, Ways, in_line, traps, asks}
use Rattle.al_meaning.specs.Meant.{Part, meant, meant_other, meant_all, part_of_case, part_of_default, values_of, went_on, selected, in_cases, rest_at}
use Rattle.al_meaning.specs.Meant as told
use Rattle.al_meaning.proofs.Does.{stuck, one, asks_words, stops, turns, branches}
use Rattle.al_meaning.proofs.Does as does
use Rattle.al_meaning.proofs.Places.{values_taken, at, place, val, DoesIt}
use Rattle.al_meaning.proofs.Expressions.{expr_does}
use Rattle.al_meaning.proofs.Ways.{Around, Within, Goes, before_row, in_selection}
use Rattle.al_meaning.proofs.Clauses.{shifted, evaluated_does, optionally_does, values_do, initialized_does, start_does, procs_do, tasks_do, allocated_does, unallocated_does, went_does}
use Rattle.al_meaning.proofs.Loops.{while_does, do_does, for_does, iterated_does}

bounds_length : (bs : List TBounds) → length (bounds_exprs bs) ≡ length bs + length bs
bounds_length [] = omega arith
bounds_length (b ∷ bs) = omega (arith, bounds_length bs)

same_communications : (n : ℕ) {m : _} (row : Row_of-TStmt m) → told.communications (told.branchings row n) ≡ evaluate.communications (parts.branchings row)
same_communications n end_of-TStmt = refl
same_communications n (more_of-TStmt (AltCase c) rest) = ap (λ cs. c ∷ cs) (same_communications n rest)
same_communications n (more_of-TStmt s rest) = same_communications n rest

module _ (below : List Frame) where
  -- a part does what these items do
  abbrev pub Follows : Part → List Item → Type 0
  Follows m is = (w : Ways) (items : List Item) (env : Env) (s : Still) (next : Unit {0} → Rest) → Around w below → Within w below items → Goes w below items (next tt)
      → DoesIt w below (m w env s next) (at w below env (is ++ items) []) s

  abbrev pub FollowsIfAny : Option Part → Option (List Item) → Type 0
  FollowsIfAny None None = Unit {0}
  FollowsIfAny (Some m) (Some is) = Follows m is
  FollowsIfAny None (Some is) = ⊥
  FollowsIfAny (Some m) None = ⊥

  abbrev pub BranchesAlike : Option told.Branching → Option parts.Branching → Type 0
  BranchesAlike None None = Unit {0}
  BranchesAlike (Some a) (Some b) = (a.communication ≡ b.communication) × Follows a.body b.body
  BranchesAlike None (Some b) = ⊥
  BranchesAlike (Some a) None = ⊥

  first_does : (a : Option Part) (b : Option (List Item)) (c : Option Part) (d : Option (List Item)) → FollowsIfAny a b → FollowsIfAny c d → FollowsIfAny (first_of_two a c) (first_of_two b d)
  first_does None None c d x y = y
  first_does (Some m) (Some is) c d x y = x
  first_does None (Some is) c d x y = absurd x
  first_does (Some m) None c d x y = absurd x

  selected_does : (a : Option Part) (b : Option (List Item)) → FollowsIfAny a b → (w : Ways) (items : List Item) (env : Env) (s : Still) (next : Rest) {c : Control} → Around w below → Within w below items → Goes w below items next
      → private_step w.program c s.privates ≡ selects (place w below env items [] s) b
      → DoesIt w below (selected a w next env s) c s
  selected_does None None x w items env s next around within go e = one e (go env s)
  selected_does (Some m) (Some is) x w items env s next around within go e =
      one e (shifted w below around.calls _ (append_assoc is (item w.line CasesEnd ∷ []) items)
      (x (in_cases next w) (item w.line CasesEnd ∷ items) env s (λ _. next) around (in_selection w.program w.function below go within) (λ env s. one refl (go env s))))
  selected_does None (Some is) x w items env s next around within go e = absurd x
  selected_does (Some m) None x w items env s next around within go e = absurd x

  went_on_does : (a : Option told.Branching) (b : Option parts.Branching) → BranchesAlike a b → (words : List ℕ) (w : Ways) (items : List Item) (env : Env) (s : Still) (next : Rest) {c : Control} → Around w below → Within w below items → Goes w below items next
      → private_step w.program c s.privates ≡ goes_into (place w below env items [] s) b words
      → DoesIt w below (went_on a words (in_cases next w) env s (λ _. next)) c s
  went_on_does None None x words w items env s next around within go e = stuck
  went_on_does (Some a) (Some b) x words w items env s next around within go e =
      one e (subst (λ q. DoesIt w below (told.went a.communication words (in_cases next w) env s (λ _ env s. a.body (in_cases next w) env s (λ _. next)))
      (at w below env (map (item w.line) (went_work w.program q words) ++ b.body ++ item w.line CasesEnd ∷ [] ++ items) []) s) x.0
      (shifted w below around.calls _ (append_assoc (map (item w.line) (went_work w.program a.communication words) ++ b.body) (item w.line CasesEnd ∷ []) items
      ∙ append_assoc (map (item w.line) (went_work w.program a.communication words)) b.body (item w.line CasesEnd ∷ items))
      (went_does (in_cases next w) below around.calls a.communication words (b.body ++ item w.line CasesEnd ∷ items) env s _ (λ env s.
      x.1 (in_cases next w) (item w.line CasesEnd ∷ items) env s (λ _. next) around (in_selection w.program w.function below go within) (λ env s. one refl (go env s))))))
  went_on_does None (Some b) x words w items env s next around within go e = absurd x
  went_on_does (Some a) None x words w items env s next around within go e = absurd x

  break_does : (levels : ℕ) (w : Ways) (items : List Item) (env : Env) (s : Still) {c : Control} → Within w below items
      → private_step w.program c s.privates ≡ here.moves (place w below env (behind_bodies levels items) [] s)
      → DoesIt w below (rest_at levels w.behind env s) c s
  break_does zero w items env s within e = stuck
  break_does (suc k) w items env s within e = one e (within.behinds k env s)

  continue_does : (levels : ℕ) (w : Ways) (items : List Item) (env : Env) (s : Still) {c : Control} → Within w below items
      → private_step w.program c s.privates ≡ here.moves (place w below env (next_of_loop levels items) [] s)
      → DoesIt w below (rest_at levels w.again env s) c s
  continue_does zero w items env s within e = stuck
  continue_does (suc k) w items env s within e = one e (within.agains k env s)

  module _ (n : ℕ) where
    alt_does : (line shape : _) (body : Row_of-TStmt _) → ((i : ℕ) → BranchesAlike (slice_get (told.branchings body n) i) (slice_get (parts.branchings body) i))
        → (w : Ways) (items : List Item) (env : Env) (s : Still) (next : Rest) → Around w below → Within w below items → Goes w below items next
        → DoesIt w below (told.alternated (told.branchings body n) w next env s)
        (at w below env (map (item w.line) (evaluated (alt_exprs (evaluate.communications (parts.branchings body))) ++ AltTalk (Alt' line shape body) ∷ []) ++ items) []) s
    alt_does line shape body alike w items env s next around within go =
        let cs : List TCommunication = evaluate.communications (parts.branchings body) in
        subst (λ q. DoesIt w below (values_of (alt_exprs q) w env s (λ values env s. asks w (act.Talk (alt_branches w.program q values)) env s (λ words env s.
        went_on (slice_get (told.branchings body n) (slice_index words 0)) (drop 1 words) (in_cases next w) env s (λ _. next))))
        (at w below env (map (item w.line) (evaluated (alt_exprs cs) ++ AltTalk (Alt' line shape body) ∷ []) ++ items) []) s) (sym (same_communications n body))
        (values_do w below around.calls (alt_exprs cs) (AltTalk (Alt' line shape body) ∷ []) items env s _ (λ vs env s l.
        asks_words _ (values_taken (length (alt_exprs cs)) vs [] (place w below env items [] s) _ l) refl (λ words c. refl) (λ v s.
        went_on_does _ _ (alike (slice_index v 0)) (drop 1 v) w items env s next around within go refl)))

    mutual
      pub meant_does : (a : TStmt) (w : Ways) (items : List Item) (env : Env) (s : Still) (next : Unit {0} → Rest) → Around w below → Within w below items → Goes w below items (next tt)
          → DoesIt w below (meant a n w env s next) (at w below env (to_do a ∷ items) []) s
      meant_does (Empty line) w items env s next around within go = one refl (go env s)
      meant_does (Block' line _ body) w items env s next around within go = one refl (all_meant body w items env s next around within go)
      meant_does (Declare line is) w items env s next around within go = one refl (initialized_does (in_line line w) below around.calls is items env s next go)
      meant_does (Value line [] e) w items env s next around within go = one refl (evaluated_does (in_line line w) below around.calls e items env s next go)
      meant_does (Value line (b ∷ bs) e) w items env s next around within go =
          one refl (values_do (in_line line w) below around.calls (bounds_exprs (b ∷ bs)) (Bound (length (b ∷ bs)) e ∷ []) items env s _ (λ vs env s l.
          one (values_taken (length (b ∷ bs) + length (b ∷ bs)) vs [] (place (in_line line w) below env items [] s) _ (l ∙ bounds_length (b ∷ bs)))
          (iterated_does below (in_line line w) around e n 0 (bounds_of vs) items env s next go)))
      meant_does (part.label line number body) w items env s next around within go = one refl (meant_does body w items env s next around within go)
      meant_does (If' line test _ (more_of-TStmt chosen stmt.end_of-TStmt) other) w items env s next around within go =
          one refl (expr_does (in_line line w) below around.calls test env s _ (val (in_line line w) below _ (λ v env s.
          branches (meant_other other n w) (meant chosen n w) next (is_zero v) refl
          (λ e. other_does other line w items env s next around within go e)
          (λ e. one e (meant_does chosen w items env s next around within go)))))
      meant_does (part.while_loop line test body) w items env s next around within go =
          while_does below w around items within (next tt) go line test body (meant body n) (λ w items env s next around within go. meant_does body w items env s next around within go) n env s
      meant_does (part.do_loop line body test) w items env s next around within go =
          do_does below w around items within (next tt) go line test body (meant body n) (λ w items env s next around within go. meant_does body w items env s next around within go) n env s
      meant_does (part.for_loop line start test step body) w items env s next around within go =
          one refl (optionally_does (in_line line w) below around.calls start (ForCondition (part.for_loop line start test step body) ∷ []) items env s _ (λ env s.
          for_does below w around items within (next tt) go line start test step body (meant body n) (λ w items env s next around within go. meant_does body w items env s next around within go) n env s))
      meant_does (Switch' line e _ body) w items env s next around within go =
          one refl (expr_does (in_line line w) below around.calls e env s _ (val (in_line line w) below _ (λ v env s.
          selected_does _ _ (first_does _ _ _ _ (case_does body (bits_of v)) (default_does body)) (in_line line w) items env s (next tt) around within go refl)))
      meant_does (Case _ _) w items env s next around within go = one refl (go env s)
      meant_does Default w items env s next around within go = one refl (go env s)
      meant_does (Alt' line shape body) w items env s next around within go =
          one refl (alt_does line shape body (λ i. branching_does body i) (in_line line w) items env s (next tt) around within go)
      meant_does (AltCase _) w items env s next around within go = one refl (go env s)
      meant_does (Par line branches) w items env s next around within go = does.asks _ refl refl (λ words s. one refl (go env s))
      meant_does (part.rescue line _ _) w items env s next around within go = one refl (go env s)
      meant_does (Raise line rescue) w items env s next around within go = turns _ refl (λ s. around.jumps rescue env s)
      meant_does (Goto line label) w items env s next around within go = turns _ refl (λ s. around.jumps label env s)
      meant_does (Return line None) w items env s next around within go = one refl (around.returns line None env s items [] refl)
      meant_does (Return line (Some e)) w items env s next around within go =
          one refl (expr_does (in_line line w) below around.calls e env s _ (val (in_line line w) below _ (λ v env s. around.returns line (Some v) env s items [] refl)))
      meant_does (Become line call) w items env s next around within go =
          one refl (start_does (in_line line w) below around.calls call InvokeInstead items env s _ (λ function count vs env s l.
          around.becomes line function (joined vs) env s items [] (values_taken count vs [] (place (in_line line w) below env items [] s) _ l)))
      meant_does (Break line levels) w items env s next around within go = break_does levels (in_line line w) items env s within refl
      meant_does (Continue line levels) w items env s next around within go = continue_does levels (in_line line w) items env s within refl
      meant_does (Alloc line places) w items env s next around within go = one refl (allocated_does (in_line line w) below around.calls places items env s next go)
      meant_does (Unalloc line values) w items env s next around within go = one refl (unallocated_does (in_line line w) below around.calls values items env s next go)
      meant_does (Check line e) w items env s next around within go =
          one refl (expr_does (in_line line w) below around.calls e env s _ (val (in_line line w) below _ (λ v env s.
          branches (traps (in_line line w) trap.Check) (give tt) next (is_zero v) refl (λ e. stops _ _ e refl) (λ e. one e (go env s)))))
      meant_does (Proc line calls) w items env s next around within go = one refl (procs_do (in_line line w) below around.calls calls items env s next go)
      meant_does (TaskStmt line calls) w items env s next around within go = one refl (tasks_do (in_line line w) below around.calls calls items env s next go)

      other_does : (other : Held-TStmt-If-3) (line : ℕ) (w : Ways) (items : List Item) (env : Env) (s : Still) (next : Unit {0} → Rest) {c : Control} → Around w below → Within w below items → Goes w below items (next tt)
          → private_step w.program c s.privates ≡ starts_other (place (in_line line w) below env items [] s) (other_of other)
          → DoesIt w below (meant_other other n w env s next) c s
      other_does stmt.None' line w items env s next around within go e = one e (go env s)
      other_does (stmt.Some' _ (more_of-TStmt other stmt.end_of-TStmt)) line w items env s next around within go e = one e (meant_does other w items env s next around within go)

      pub all_meant : {m : _} (row : Row_of-TStmt m) (w : Ways) (items : List Item) (env : Env) (s : Still) (next : Unit {0} → Rest) → Around w below → Within w below items → Goes w below items (next tt)
          → DoesIt w below (meant_all row n w env s next) (at w below env (statements row ++ items) []) s
      all_meant end_of-TStmt w items env s next around within go = go env s
      all_meant (more_of-TStmt (Case _ _) rest) w items env s next around within go = all_meant rest w items env s next around within go
      all_meant (more_of-TStmt Default rest) w items env s next around within go = all_meant rest w items env s next around within go
      all_meant (more_of-TStmt (AltCase _) rest) w items env s next around within go = all_meant rest w items env s next around within go
      all_meant (more_of-TStmt a rest) w items env s next around within go =
          meant_does a w (statements rest ++ items) env s (λ _ env s. meant_all rest n w env s next) around (before_row w.program w.function below rest within) (λ env s. all_meant rest w items env s next around within go)

      case_does : {m : _} (row : Row_of-TStmt m) (bits : ℕ) → FollowsIfAny (part_of_case bits row n) (behind_case bits row)
      case_does end_of-TStmt bits = tt
      case_does (more_of-TStmt (Case shape label) rest) bits = on (label == bits) (λ w items env s next around within go. all_meant rest w items env s next around within go) (case_does rest bits)
        where
          on : (b : Bool) → Follows (meant_all rest n) (statements rest) → FollowsIfAny (part_of_case bits rest n) (behind_case bits rest)
              → FollowsIfAny (if b then Some (meant_all rest n) else part_of_case bits rest n) (if b then Some (statements rest) else behind_case bits rest)
          on true x y = x
          on false x y = y
      case_does (more_of-TStmt s rest) bits = case_does rest bits

      default_does : {m : _} (row : Row_of-TStmt m) → FollowsIfAny (part_of_default row n) (behind_default row)
      default_does end_of-TStmt = tt
      default_does (more_of-TStmt Default rest) = λ w items env s next around within go. all_meant rest w items env s next around within go
      default_does (more_of-TStmt s rest) = default_does rest

      branching_does : {m : _} (row : Row_of-TStmt m) (i : ℕ) → BranchesAlike (slice_get (told.branchings row n) i) (slice_get (parts.branchings row) i)
      branching_does end_of-TStmt i = tt
      branching_does (more_of-TStmt (AltCase c) rest) zero = (refl, λ w items env s next around within go. all_meant rest w items env s next around within go)
      branching_does (more_of-TStmt (AltCase c) rest) (suc i) = branching_does rest i
      branching_does (more_of-TStmt s rest) i = branching_does rest i
