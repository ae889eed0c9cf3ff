-- Where bodies end: works of each group.
use Rattle.std.proofs.Common.{◌≡◌, ℕ, zero, suc, ◌-◌, ◌<◌, ◌≤◌, List, [], ◌∷◌, refl, ap, arith}
use Rattle.al_typed.specs.declared.expression.TExpr.{TExpr, Print'}
use Rattle.al_typed.specs.declared.expression.TTarget.{TTarget}
use Rattle.al_typed.specs.declared.statement.TStmt.{TStmt, If', end_of-TStmt, more_of-TStmt}
use Rattle.al_meaning.specs.Items.{Item, Work}
use Rattle.al_meaning.specs.Parts.{Border, Inside, LoopEnd, BodyEnd, border, behind_bodies, next_of_loop}
use Rattle.al_control.specs.declared.work.Operator.{Operator}
use Rattle.al_control.specs.declared.work.Operator.TheVariants as operator
use Rattle.al_control.specs.declared.work.Storage.{Storage}
use Rattle.al_control.specs.declared.work.Storage.TheVariants as storage
use Rattle.al_control.specs.declared.work.Calling.{Calling}
use Rattle.al_control.specs.declared.work.Calling.TheVariants as calling
use Rattle.al_control.specs.declared.work.Action.{Action}
use Rattle.al_control.specs.declared.work.Action.TheVariants as action
use Rattle.al_control.specs.declared.work.ValueStage.{ValueStage}
use Rattle.al_control.specs.declared.work.ValueStage.TheVariants as value
use Rattle.al_control.specs.declared.work.TargetStage.{TargetStage}
use Rattle.al_control.specs.declared.work.TargetStage.TheVariants as target
use Rattle.al_control.specs.Models.{action_of, calling_of, choose_of, gather_of, operator_of, storage_of, target_of, value_of}
use Rattle.al_walk_jumps.specs.Ends.{bodies_at, bodies_ended, loops_at, loops_ended}

gather_border : (e : TExpr) → border (gather_of e) ≡ Inside
gather_border (Print' t format k arguments) = refl
gather_border e = refl

value_border : (v : ValueStage) (e : TExpr) → border (value_of v e) ≡ Inside
value_border value.Eval e = refl
value_border value.AndThen e = refl
value_border value.OrElse e = refl
value_border value.Gather e = gather_border e
value_border (value.Bound count) e = refl
value_border (value.Iterate number bounds) e = refl
value_border (value.NextTurn number bounds rest) e = refl

target_border : (s : TargetStage) (t : TTarget) → border (target_of s t) ≡ Inside
target_border target.Aim t = refl
target_border target.Assign t = refl

choose_border : (s : TStmt) → border (choose_of s) ≡ Inside
choose_border (If' line condition k (more_of-TStmt chosen end_of-TStmt) other) = refl
choose_border s = refl

operator_border : (o : Operator) → border (operator_of o) ≡ Inside
operator_border (operator.Unary op kind) = refl
operator_border operator.Negate = refl
operator_border (operator.Binary op kind) = refl
operator_border operator.Truth = refl
operator_border (operator.Advance back size) = refl
operator_border (operator.AdvanceCounted size) = refl
operator_border (operator.Between size) = refl
operator_border (operator.Convert from to) = refl
operator_border (operator.Join count) = refl

storage_border : (s : Storage) → border (storage_of s) ≡ Inside
storage_border (storage.Point offset) = refl
storage_border (storage.Index size) = refl
storage_border (storage.Within offset) = refl
storage_border storage.AddressOf = refl
storage_border (storage.Read ty) = refl
storage_border (storage.Look ty) = refl
storage_border (storage.Fetch at units got) = refl
storage_border (storage.Fetched at units got) = refl
storage_border (storage.Save ty words place) = refl
storage_border (storage.Put ty) = refl
storage_border (storage.Write at units words) = refl
storage_border (storage.Update ty change) = refl
storage_border (storage.Step ty op) = refl
storage_border (storage.Clear ty) = refl

calling_border : (c : Calling) → border (calling_of c) ≡ Inside
calling_border (calling.PassPlace passed ty offset) = refl
calling_border (calling.PassPointer passed ty offset) = refl
calling_border (calling.PassPart passed ty path) = refl
calling_border (calling.Invoke function count) = refl
calling_border (calling.InvokePointer ty count) = refl
calling_border (calling.Enter function words) = refl
calling_border (calling.InvokeInstead function count) = refl
calling_border (calling.Replace function words) = refl
calling_border calling.TakeBlock = refl
calling_border calling.SetBlock = refl
calling_border (calling.StoreParameter number words) = refl
calling_border (calling.Returns is_valued) = refl
calling_border (calling.CountReturn given) = refl
calling_border (calling.Leave given) = refl

action_border : (a : Action) → border (action_of a) ≡ Inside
action_border (action.Compose pieces arguments text) = refl
action_border (action.Scan at pieces arguments text) = refl
action_border (action.Scanned at pieces arguments text) = refl
action_border action.Terminates = refl
action_border (action.Receives ty) = refl
action_border (action.Received ty) = refl
action_border (action.Sends ty) = refl
action_border action.CanReceives = refl
action_border action.CanSends = refl
action_border (action.Allocate ty) = refl
action_border (action.Unallocate ty) = refl
action_border (action.StartProc function count) = refl
action_border (action.StartTask function count) = refl

-- ---- how many bodies, and how many loops, end with them

pub bodies-value : (v : ValueStage) (e : TExpr) → bodies_at (value_of v e) ≡ 0
bodies-value v e = ap bodies_ended (value_border v e)

pub loops-value : (v : ValueStage) (e : TExpr) → loops_at (value_of v e) ≡ 0
loops-value v e = ap loops_ended (value_border v e)

pub bodies-target : (s : TargetStage) (t : TTarget) → bodies_at (target_of s t) ≡ 0
bodies-target s t = ap bodies_ended (target_border s t)

pub loops-target : (s : TargetStage) (t : TTarget) → loops_at (target_of s t) ≡ 0
loops-target s t = ap loops_ended (target_border s t)

pub bodies-choose : (s : TStmt) → bodies_at (choose_of s) ≡ 0
bodies-choose s = ap bodies_ended (choose_border s)

pub loops-choose : (s : TStmt) → loops_at (choose_of s) ≡ 0
loops-choose s = ap loops_ended (choose_border s)

pub bodies-operator : (o : Operator) → bodies_at (operator_of o) ≡ 0
bodies-operator o = ap bodies_ended (operator_border o)

pub loops-operator : (o : Operator) → loops_at (operator_of o) ≡ 0
loops-operator o = ap loops_ended (operator_border o)

pub bodies-storage : (s : Storage) → bodies_at (storage_of s) ≡ 0
bodies-storage s = ap bodies_ended (storage_border s)

pub loops-storage : (s : Storage) → loops_at (storage_of s) ≡ 0
loops-storage s = ap loops_ended (storage_border s)

pub bodies-calling : (c : Calling) → bodies_at (calling_of c) ≡ 0
bodies-calling c = ap bodies_ended (calling_border c)

pub loops-calling : (c : Calling) → loops_at (calling_of c) ≡ 0
loops-calling c = ap loops_ended (calling_border c)

pub bodies-action : (a : Action) → bodies_at (action_of a) ≡ 0
bodies-action a = ap bodies_ended (action_border a)

pub loops-action : (a : Action) → loops_at (action_of a) ≡ 0
loops-action a = ap loops_ended (action_border a)

pub ruleset stages = (bodies-choose, loops-choose)

pub ruleset works = (bodies-value, loops-value, bodies-target, loops-target, bodies-operator, loops-operator, bodies-storage, loops-storage, bodies-calling, loops-calling, bodies-action, loops-action)

-- ---- behind them

less_none : (n : ℕ) → n ≡ n - 0
less_none n = omega arith

less_one : (m : ℕ) → m ≡ suc m - 1
less_one m = omega arith

behind_border : (m : ℕ) (b : Border) (items : List Item)
    → elim b as (λ _. List Item) [ Inside ↦ behind_bodies (suc m) items | LoopEnd ↦ behind_bodies m items | BodyEnd ↦ behind_bodies m items ]
    ≡ behind_bodies (suc m - bodies_ended b) items
behind_border m Inside items = ap (λ (n : ℕ). behind_bodies n items) (less_none (suc m))
behind_border m LoopEnd items = ap (λ (n : ℕ). behind_bodies n items) (less_one m)
behind_border m BodyEnd items = ap (λ (n : ℕ). behind_bodies n items) (less_one m)

pub behind_one : (n : ℕ) (i : Item) (items : List Item) → 0 < n → behind_bodies n (i ∷ items) ≡ behind_bodies (n - bodies_at i.work) items
behind_one zero i items above = absurd (omega arith)
behind_one (suc m) i items above = behind_border m (border i.work) items

pub behind_none : (n : ℕ) → behind_bodies n [] ≡ []
behind_none zero = refl
behind_none (suc n) = refl

-- at most one ends with a work
pub one_body : (w : Work) (n : ℕ) → 0 < n → bodies_at w ≤ n
one_body w n above = on (border w)
  where
    on : (b : Border) → bodies_ended b ≤ n
    on Inside = omega arith
    on LoopEnd = omega arith
    on BodyEnd = omega arith

pub one_loop : (w : Work) (n : ℕ) → 0 < n → loops_at w ≤ n
one_loop w n above = on (border w)
  where
    on : (b : Border) → loops_ended b ≤ n
    on Inside = omega arith
    on LoopEnd = omega arith
    on BodyEnd = omega arith

-- ---- the next of a loop

pub loop_none : (n : ℕ) → next_of_loop n [] ≡ []
loop_none zero = refl
loop_none (suc n) = refl

one_loop_left : (b : Border) (i : Item) (items : List Item) → 1 - loops_ended b ≡ 0
    → elim b as (λ _. List Item) [ Inside ↦ next_of_loop 1 items | LoopEnd ↦ i ∷ items | BodyEnd ↦ next_of_loop 1 items ] ≡ i ∷ items
one_loop_left Inside i items e = absurd (omega arith)
one_loop_left LoopEnd i items e = refl
one_loop_left BodyEnd i items e = absurd (omega arith)

one_loop_more : (b : Border) (i : Item) (items : List Item) → 0 < 1 - loops_ended b
    → elim b as (λ _. List Item) [ Inside ↦ next_of_loop 1 items | LoopEnd ↦ i ∷ items | BodyEnd ↦ next_of_loop 1 items ]
    ≡ next_of_loop (1 - loops_ended b) items
one_loop_more Inside i items e = ap (λ (n : ℕ). next_of_loop n items) (less_none 1)
one_loop_more LoopEnd i items e = absurd (omega arith)
one_loop_more BodyEnd i items e = ap (λ (n : ℕ). next_of_loop n items) (less_none 1)

more_loops : (m : ℕ) (b : Border) (items : List Item)
    → elim b as (λ _. List Item) [ Inside ↦ next_of_loop (suc (suc m)) items | LoopEnd ↦ next_of_loop (suc m) items | BodyEnd ↦ next_of_loop (suc (suc m)) items ]
    ≡ next_of_loop (suc (suc m) - loops_ended b) items
more_loops m Inside items = ap (λ (n : ℕ). next_of_loop n items) (less_none (suc (suc m)))
more_loops m LoopEnd items = ap (λ (n : ℕ). next_of_loop n items) (less_one (suc m))
more_loops m BodyEnd items = ap (λ (n : ℕ). next_of_loop n items) (less_none (suc (suc m)))

-- the body of the loop that is sought ends with the first item
pub loop_reached : (n : ℕ) (i : Item) (items : List Item) → 0 < n → n - loops_at i.work ≡ 0 → next_of_loop n (i ∷ items) ≡ i ∷ items
loop_reached zero i items above e = absurd (omega arith)
loop_reached (suc zero) i items above e = one_loop_left (border i.work) i items e
loop_reached (suc (suc m)) i items above e = absurd (few (border i.work) e)
  where
    few : (b : Border) → suc (suc m) - loops_ended b ≡ 0 → ⊥
    few Inside e = omega arith
    few LoopEnd e = omega arith
    few BodyEnd e = omega arith

pub loop_behind : (n : ℕ) (i : Item) (items : List Item) → 0 < n - loops_at i.work → next_of_loop n (i ∷ items) ≡ next_of_loop (n - loops_at i.work) items
loop_behind zero i items above = absurd (none (border i.work) above)
  where
    none : (b : Border) → 0 < 0 - loops_ended b → ⊥
    none Inside e = omega arith
    none LoopEnd e = omega arith
    none BodyEnd e = omega arith
loop_behind (suc zero) i items above = one_loop_more (border i.work) i items above
loop_behind (suc (suc m)) i items above = more_loops m (border i.work) items
