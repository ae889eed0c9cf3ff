-- The parts of typed expressions and statements as lists, and where jumps lead.
use Rattle.std.specs.Prelude.{ℕ, zero, suc, ◌==◌, if◌then◌else◌, List, [], ◌∷◌, ◌++◌, Option, Some, None}
use Rattle.al_typed.specs.declared.expression.TExpr.{TExpr, Held-TExpr-Call-2, None', Some', Row_of-TExpr, end_of-TExpr, more_of-TExpr, Row_of-TTarget, end_of-TTarget, more_of-TTarget, end_of-TReceiver, more_of-TReceiver}
use Rattle.al_typed.specs.declared.expression.TTarget.{TTarget}
use Rattle.al_typed.specs.declared.expression.TReceiver.{TReceiver}
use Rattle.al_typed.specs.declared.statement.TCommunication.{TCommunication}
use Rattle.al_typed.specs.declared.statement.TStmt.{TStmt, Empty, Block', Declare, Value, If', Switch', Case, Default, Alt', AltCase, Par, Raise, Goto, Return, Become, Break, Continue, Alloc, Unalloc, Check, Proc, Task, Held-TStmt-If-3, Row_of-TStmt, end_of-TStmt, more_of-TStmt}
use Rattle.al_typed.specs.declared.statement.TStmt as stmt
use Rattle.al_typed.specs.StatementForms as part
use Rattle.al_meaning.specs.Items.{Item, Work, Do, WhileAgain, DoCondition, ForNext, CasesEnd}

abbrev pub exprs : {m : _} → Row_of-TExpr m → List TExpr
exprs end_of-TExpr = []
exprs (more_of-TExpr e rest) = e ∷ exprs rest

abbrev pub targets : {m : _} → Row_of-TTarget m → List TTarget
targets end_of-TTarget = []
targets (more_of-TTarget t rest) = t ∷ targets rest

abbrev pub receiver_of : Held-TExpr-Call-2 → Option TReceiver
receiver_of None' = None
receiver_of (Some' _ (more_of-TReceiver receiver end_of-TReceiver)) = Some receiver

abbrev pub other_of : Held-TStmt-If-3 → Option TStmt
other_of stmt.None' = None
other_of (stmt.Some' _ (more_of-TStmt other end_of-TStmt)) = Some other

-- the line of a statement; labels of cases have none
abbrev pub line_of : TStmt → ℕ
line_of (Empty line) = line
line_of (Block' line _ _) = line
line_of (Declare line _) = line
line_of (Value line _ _) = line
line_of (part.label line _ _) = line
line_of (If' line _ _ _ _) = line
line_of (part.while_loop line _ _) = line
line_of (part.do_loop line _ _) = line
line_of (part.for_loop line _ _ _ _) = line
line_of (Switch' line _ _ _) = line
line_of (Case _ _) = 0
line_of Default = 0
line_of (Alt' line _ _) = line
line_of (AltCase _) = 0
line_of (Par line _) = line
line_of (part.rescue line _ _) = line
line_of (Raise line _) = line
line_of (Goto line _) = line
line_of (Return line _) = line
line_of (Become line _) = line
line_of (Break line _) = line
line_of (Continue line _) = line
line_of (Alloc line _) = line
line_of (Unalloc line _) = line
line_of (Check line _) = line
line_of (Proc line _) = line
line_of (Task line _) = line

abbrev pub item : ℕ → Work → Item
item line work = record { line = line; work = work }

-- a statement as an item
abbrev pub to_do : TStmt → Item
to_do s = item (line_of s) (Do s)

-- the statements of a body; the labels of cases are none
abbrev pub statements : {m : _} → Row_of-TStmt m → List Item
statements end_of-TStmt = []
statements (more_of-TStmt (Case _ _) rest) = statements rest
statements (more_of-TStmt Default rest) = statements rest
statements (more_of-TStmt (AltCase _) rest) = statements rest
statements (more_of-TStmt s rest) = to_do s ∷ statements rest

-- ---- jumps

-- what is done after the body of a loop, and after that of a switch or an alt: where continue and break lead
pub data Border : Type 0 where
  Inside : Border
  LoopEnd : Border
  BodyEnd : Border

abbrev pub border : Work → Border
border (WhileAgain _) = LoopEnd
border (DoCondition _) = LoopEnd
border (ForNext _) = LoopEnd
border CasesEnd = BodyEnd
border _ = Inside

-- The items behind the n-th loop, switch or alt round the statement at hand.
abbrev pub behind_bodies : ℕ → List Item → List Item
behind_bodies zero items = items
behind_bodies (suc n) [] = []
behind_bodies (suc n) (i ∷ items) =
    elim (border i.work) [ Inside ↦ behind_bodies (suc n) items | LoopEnd ↦ behind_bodies n items | BodyEnd ↦ behind_bodies n items ]

-- The items with which the n-th loop round the statement at hand goes on.
abbrev pub next_of_loop : ℕ → List Item → List Item
next_of_loop zero items = items
next_of_loop (suc n) [] = []
next_of_loop (suc zero) (i ∷ items) =
    elim (border i.work) [ Inside ↦ next_of_loop 1 items | LoopEnd ↦ i ∷ items | BodyEnd ↦ next_of_loop 1 items ]
next_of_loop (suc (suc n)) (i ∷ items) =
    elim (border i.work) [ Inside ↦ next_of_loop (suc (suc n)) items | LoopEnd ↦ next_of_loop (suc n) items | BodyEnd ↦ next_of_loop (suc (suc n)) items ]

abbrev pub first_of_two : {A : Type 0} → Option A → Option A → Option A
first_of_two (Some a) other = Some a
first_of_two None other = other

-- The items that go on from the label or rescue of that number, where it stands in a statement that these follow.
abbrev mutual
  pub going_on : ℕ → TStmt → List Item → Option (List Item)
  going_on n (Block' _ _ body) rest = going_on_in n body rest
  going_on n (part.label line number body) rest =
      if number == n then Some (to_do (part.label line number body) ∷ rest) else going_on n body rest
  going_on n (If' _ _ _ (more_of-TStmt chosen end_of-TStmt) other) rest =
      first_of_two (going_on n chosen rest) (going_on_in_other n other rest)
  going_on n (part.while_loop line condition body) rest =
      going_on n body (item line (WhileAgain (part.while_loop line condition body)) ∷ rest)
  going_on n (part.do_loop line body condition) rest =
      going_on n body (item line (DoCondition (part.do_loop line body condition)) ∷ rest)
  going_on n (part.for_loop line start condition step body) rest =
      going_on n body (item line (ForNext (part.for_loop line start condition step body)) ∷ rest)
  going_on n (Switch' line _ _ body) rest = going_on_in n body (item line CasesEnd ∷ rest)
  going_on n (Alt' line _ body) rest = going_on_in n body (item line CasesEnd ∷ rest)
  going_on n (part.rescue _ number body) rest =
      if number == n then Some (to_do body ∷ rest) else going_on n body rest
  going_on n _ rest = None

  pub going_on_in_other : ℕ → Held-TStmt-If-3 → List Item → Option (List Item)
  going_on_in_other n stmt.None' rest = None
  going_on_in_other n (stmt.Some' _ (more_of-TStmt other end_of-TStmt)) rest = going_on n other rest

  pub going_on_in : ℕ → {m : _} → Row_of-TStmt m → List Item → Option (List Item)
  going_on_in n end_of-TStmt rest = None
  going_on_in n (more_of-TStmt s more) rest = first_of_two (going_on n s (statements more ++ rest)) (going_on_in n more rest)

-- ---- cases

-- the statements behind the case of a switch with these bits
abbrev pub behind_case : ℕ → {m : _} → Row_of-TStmt m → Option (List Item)
behind_case bits end_of-TStmt = None
behind_case bits (more_of-TStmt (Case _ label) rest) = if label == bits then Some (statements rest) else behind_case bits rest
behind_case bits (more_of-TStmt s rest) = behind_case bits rest

abbrev pub behind_default : {m : _} → Row_of-TStmt m → Option (List Item)
behind_default end_of-TStmt = None
behind_default (more_of-TStmt Default rest) = Some (statements rest)
behind_default (more_of-TStmt s rest) = behind_default rest

-- a case of an alt, with the statements behind it
pub record Branching : Type 0 where
  pub communication : TCommunication
  pub body : List Item

abbrev pub branchings : {m : _} → Row_of-TStmt m → List Branching
branchings end_of-TStmt = []
branchings (more_of-TStmt (AltCase c) rest) = record { communication = c; body = statements rest } ∷ branchings rest
branchings (more_of-TStmt s rest) = branchings rest
