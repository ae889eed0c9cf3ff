-- What an expression asks is real, if what goes on with its value is.
use Rattle.std.proofs.Common.{ℕ, zero, suc, ◌+◌, List, [], ◌∷◌, ◌++◌, length, drop, Option, Some, None}
use Rattle.std.specs.Prelude.{◌≢◌, Bool, true, false, not, nat_lt, if◌then◌else◌, slice_index}
use Rattle.al_base.specs.declared.trap.Trap.TheVariants as trap
use Rattle.al_event.specs.declared.act.Act.{Act}
use Rattle.al_event.specs.declared.act.Act.TheVariants as act
use Rattle.al_typed.specs.declared.ty.Ty.{Ty}
use Rattle.al_typed.specs.declared.layout.Unit.{Unit as StorageUnit}
use Rattle.al_typed.specs.declared.expression.Logic.TheVariants as logic
use Rattle.al_typed.specs.declared.expression.Movement.TheVariants as movement
use Rattle.al_typed.specs.declared.expression.Passed.{Passed}
use Rattle.al_typed.specs.declared.expression.Passed.TheVariants as passed
use Rattle.al_typed.specs.declared.expression.PrintPiece.{PrintPiece}
use Rattle.al_typed.specs.declared.expression.PrintPiece.TheVariants as print
use Rattle.al_typed.specs.declared.expression.TExpr.{TExpr, Constant, Text, Nil, Function, SizeofType, Tuple', Call', CallPointer', Print', Sequence', Iterator, Held-TExpr-Call-2, None', Some', Row_of-TExpr, end_of-TExpr, more_of-TExpr, Row_of-TTarget, end_of-TTarget, more_of-TTarget, end_of-TReceiver, more_of-TReceiver}
use Rattle.al_typed.specs.declared.expression.TPlace.{TPlace, Local as Local_, Outer, Global}
use Rattle.al_typed.specs.declared.expression.TTarget.{TTarget, Dropped, Parts'}
use Rattle.al_typed.specs.declared.expression.TReceiver.{TReceiver}
use Rattle.al_typed.specs.ExpressionForms as form
use Rattle.al_typed.specs.Types.{is_void}
use Rattle.al_typed.specs.Typed.{type_of}
use Rattle.al_meaning.specs.Words.{is_zero, truth, sum}
use Rattle.al_meaning.specs.Shown.{most_text, written}
use Rattle.al_meaning.specs.Items.{Found, Words, Address, Local, Private, Nowhere, Argument}
use Rattle.al_meaning.specs.Here.{units_in}
use Rattle.al_meaning.specs.Calls.{joined}
use Rattle.al_meaning.specs.Evaluate.{leaves_of}
use Rattle.al_meaning.specs.Tasks.{Answer, Env, Still, Outcome, Stuck, Unfinished, Rest, Task, ◌>>=◌, Ways, answered, ask_in, last_asked, turn_at, turn_in, calls, traps}
use Rattle.al_meaning.specs.Told.{value, gives, needed, drop_checked, at_address, load_units, read, store_units, save, save_all, saved, saved_or_divides, quotient, passed_at, passed_part, composed, scan_byte, scan, compose, call_found, told, found, aimed, aimed_all, told_object, told_receiver, told_all, drop_all}
use Rattle.al_meaning.specs.Meant.{Given}
use Rattle.al_sense.specs.Sense.{IsReal, illegal}

-- The outcome is no trap of those that have no sense.
pub record Real (o : Outcome) : Type 0 where
  pub by : IsReal o

pub stuck_real : Real Stuck
stuck_real = record { by = tt }

pub unfinished_real : Real Unfinished
unfinished_real = record { by = tt }

asks_real : (answers : List Answer) (a : Act) (line : ℕ) (s : Still) (next : List ℕ → Still → Outcome) → a ≢ illegal
    → ((words : List ℕ) (s : Still) → Real (next words s)) → Real (answered answers a line s next)
asks_real [] a line s next r h = record { by = r }
asks_real (_ ∷ answers) a line s next r h = h _ _

pub ask_real : (a : Act) (line : ℕ) (s : Still) (next : List ℕ → Still → Outcome) → a ≢ illegal
    → ((words : List ℕ) (s : Still) → Real (next words s)) → Real (ask_in line a s next)
ask_real a line s next r h = asks_real s.answers a line s next r h

pub stop_real : (answers : List Answer) (a : Act) (line : ℕ) (privates : List ℕ) → a ≢ illegal → Real (last_asked answers a line privates)
stop_real [] a line privates r = record { by = r }
stop_real (_ ∷ answers) a line privates r = record { by = tt }

turns_real : (left line : ℕ) (s : Still) (next : Still → Outcome) → ((s : Still) → Real (next s)) → Real (turn_at left line s next)
turns_real zero line s next h = ask_real act.Pause line s _ (λ e. absurd (cc e)) (λ words s. h s)
turns_real (suc zero) line s next h = ask_real act.Pause line s _ (λ e. absurd (cc e)) (λ words s. h s)
turns_real (suc (suc n)) line s next h = h _

pub turn_real : (line : ℕ) (s : Still) (next : Still → Outcome) → ((s : Still) → Real (next s)) → Real (turn_in line s next)
turn_real line s next h = turns_real s.left line s next h

-- what calls ask is real
pub record CallsReal (call : ℕ → List ℕ → Still → Given → Outcome) : Type 0 where
  pub by : (function : ℕ) (words : List ℕ) (s : Still) (next : Given) → ((o : Option (List ℕ)) (s : Still) → Real (next o s)) → Real (call function words s next)

module _ (w : Ways) where
  -- what goes on with something is real
  abbrev pub Fine : {A : Type 0} → (A → Rest) → Type 0
  Fine {A} next = (a : A) (env : Env) (s : Still) → Real (next a env s)

  pub if_real : {A : Type 0} (b : Bool) (x y : Task A) (env : Env) (s : Still) (next : A → Rest) → Real (x env s next) → Real (y env s next) → Real ((if b then x else y) env s next)
  if_real true x y env s next p q = p
  if_real false x y env s next p q = q

  pub val : (next : List ℕ → Rest) → Fine next → (o : Option (List ℕ)) (env : Env) (s : Still) → Real (needed o env s next)
  val next h (Some v) env s = h v env s
  val next h None env s = stuck_real

  address : (next : ℕ → Rest) → Fine next → (f : Found) (env : Env) (s : Still) → Real (at_address f env s next)
  address next h (Address x) env s = h x env s
  address next h (Words v) env s = stuck_real
  address next h (Local n) env s = stuck_real
  address next h (Private n) env s = stuck_real
  address next h Nowhere env s = stuck_real

  pub drop_real : (is_void : Bool) (o : Option (List ℕ)) (env : Env) (s : Still) (next : Unit {0} → Rest) → Real (next tt env s) → Real (drop_checked is_void o env s next)
  drop_real true None env s next h = h
  drop_real false (Some v) env s next h = h
  drop_real true (Some v) env s next h = stuck_real
  drop_real false None env s next h = stuck_real

  load_real : (x : ℕ) (units : List StorageUnit) (got : List ℕ) (env : Env) (s : Still) (next : List ℕ → Rest) → Fine next → Real (load_units w x units got env s next)
  load_real x [] got env s next h = h got env s
  load_real x (u ∷ units) got env s next h = ask_real _ w.line s _ (λ e. absurd (cc e)) (λ v s. load_real x units _ env s next h)

  pub read_real : (t : Ty) (f : Found) (env : Env) (s : Still) (next : List ℕ → Rest) → Fine next → Real (read w t f env s next)
  read_real t (Address x) env s next h = load_real x (units_in w.program t) [] env s next h
  read_real t (Local number) env s next h = h _ env s
  read_real t (Private number) env s next h = h _ env s
  read_real t (Words v) env s next h = stuck_real
  read_real t Nowhere env s next h = stuck_real

  write_real : (x : ℕ) (units : List StorageUnit) (words : List ℕ) (env : Env) (s : Still) (next : Unit {0} → Rest) → Fine next → Real (store_units w x units words env s next)
  write_real x [] words env s next h = h tt env s
  write_real x (u ∷ units) words env s next h = ask_real _ w.line s _ (λ e. absurd (cc e)) (λ v s. write_real x units (drop 1 words) env s next h)

  pub save_real : (t : Ty) (words : List ℕ) (f : Found) (env : Env) (s : Still) (next : Unit {0} → Rest) → Fine next → Real (save w t words f env s next)
  save_real t words (Address x) env s next h = write_real x (units_in w.program t) words env s next h
  save_real t words (Local number) env s next h = h tt _ s
  save_real t words (Private number) env s next h = h tt env _
  save_real t words (Words v) env s next h = stuck_real
  save_real t words Nowhere env s next h = h tt env s

  pub saves_real : (ts : List Ty) (fs : List Found) (words : List ℕ) (env : Env) (s : Still) (next : Unit {0} → Rest) → Fine next → Real (save_all w ts fs words env s next)
  saves_real (t ∷ ts) (f ∷ fs) words env s next h = save_real t _ f env s _ (λ a env s. saves_real ts fs _ env s next h)
  saves_real [] fs words env s next h = h tt env s
  saves_real (t ∷ ts) [] words env s next h = h tt env s

  saved_real : (t : Ty) (f : Found) (new old : List ℕ) (env : Env) (s : Still) (next : Option (List ℕ) → Rest) → Fine next → Real (saved w t f new old env s next)
  saved_real t f new old env s next h = save_real t new f env s _ (λ a env s. h (Some old) env s)

  updated_real : (t : Ty) (f : Found) (o : Option (List ℕ)) (env : Env) (s : Still) (next : Option (List ℕ) → Rest) → Fine next → Real (saved_or_divides w t f o env s next)
  updated_real t f (Some v) env s next h = saved_real t f v v env s next h
  updated_real t f None env s next h = stop_real s.answers _ w.line s.privates (λ e. absurd (cc e))

  quotient_real : (o : Option (List ℕ)) (env : Env) (s : Still) (next : Option (List ℕ) → Rest) → Fine next → Real (quotient w o env s next)
  quotient_real (Some v) env s next h = h (Some v) env s
  quotient_real None env s next h = stop_real s.answers _ w.line s.privates (λ e. absurd (cc e))

  passed_real : (how : Passed) (t : Ty) (x : ℕ) (env : Env) (s : Still) (next : List (List ℕ) → Rest) → Fine next → Real (passed_at w how t x env s next)
  passed_real passed.Address t x env s next h = h _ env s
  passed_real passed.Value t x env s next h = read_real t (Address x) env s _ (λ v env s. h _ env s)
  passed_real passed.Nothing t x env s next h = h _ env s

  part_real : (how : Passed) (t : Ty) (path v : List ℕ) (env : Env) (s : Still) (next : List (List ℕ) → Rest) → Fine next → Real (passed_part w how t path v env s next)
  part_real passed.Address t path v env s next h = stuck_real
  part_real passed.Value t path v env s next h = h _ env s
  part_real passed.Nothing t path v env s next h = h _ env s

  composed_real : (rest : List ℕ → Task (Option (List ℕ))) (text bytes : List ℕ) (env : Env) (s : Still) (next : Option (List ℕ) → Rest) → Real (rest (text ++ bytes) env s next) → Real (composed w rest text bytes env s next)
  composed_real rest text bytes env s next h = if_real (nat_lt most_text (length text + length bytes)) (traps w trap.Print) (rest (text ++ bytes)) env s next (stop_real s.answers _ w.line s.privates (λ e. absurd (cc e))) h

  byte_real : (again : ℕ → List ℕ → Task (Option (List ℕ))) (rest : List ℕ → Task (Option (List ℕ))) (x : ℕ) (text : List ℕ) (b : ℕ) (env : Env) (s : Still) (next : Option (List ℕ) → Rest)
      → Real (rest text env s next) → ((x : ℕ) (text : List ℕ) → Real (again x text env s next)) → Real (scan_byte w again rest x text b env s next)
  byte_real again rest x text zero env s next p q = p
  byte_real again rest x text (suc b) env s next p q = if_real (nat_lt (length text) most_text) (again (sum x 1) (text ++ suc b ∷ [])) (traps w trap.Print) env s next (q _ _) (stop_real s.answers _ w.line s.privates (λ e. absurd (cc e)))

  scan_real : (n : ℕ) (rest : List ℕ → Task (Option (List ℕ))) (x : ℕ) (text : List ℕ) (env : Env) (s : Still) (next : Option (List ℕ) → Rest)
      → ((text : List ℕ) (s : Still) → Real (rest text env s next)) → Real (scan n w rest x text env s next)
  scan_real zero rest x text env s next h = stuck_real
  scan_real (suc n) rest x text env s next h = ask_real _ w.line s _ (λ e. absurd (cc e)) (λ v s.
      byte_real (scan n w rest) rest x text (slice_index v 0) env s next (h text s) (λ x text. scan_real n rest x text env s next h))

  compose_real : (pieces : List PrintPiece) (arguments : List Argument) (text : List ℕ) (env : Env) (s : Still) (next : Option (List ℕ) → Rest) → Fine next → Real (compose w pieces arguments text env s next)
  compose_real [] arguments text env s next h = ask_real _ w.line s _ (λ e. absurd (cc e)) (λ v s. h None env s)
  compose_real (print.Byte b ∷ pieces) arguments text env s next h = composed_real (compose w pieces arguments) text (b ∷ []) env s next (compose_real pieces arguments _ env s next h)
  compose_real (print.Percent ∷ pieces) arguments text env s next h = composed_real (compose w pieces arguments) text (37 ∷ []) env s next (compose_real pieces arguments _ env s next h)
  compose_real (print.Text ∷ pieces) (a ∷ arguments) text env s next h = scan_real (most_text + 2) (compose w pieces arguments) _ text env s next (λ text s. compose_real pieces arguments text env s next h)
  compose_real (verb ∷ pieces) (a ∷ arguments) text env s next h = composed_real (compose w pieces arguments) text (written verb a.ty a.words) env s next (compose_real pieces arguments _ env s next h)
  compose_real (verb ∷ pieces) [] text env s next h = stuck_real

  module _ (calls_real : CallsReal w.call) where
    call_real : (function : ℕ) (words : List ℕ) (env : Env) (s : Still) (next : Option (List ℕ) → Rest) → Fine next → Real (calls w function words env s next)
    call_real function words env s next h = turn_real w.line s _ (λ s. calls_real.by function words s _ (λ o s. h o env s))

    found_call_real : (words : List ℕ) (o : Option ℕ) (env : Env) (s : Still) (next : Option (List ℕ) → Rest) → Fine next → Real (call_found w words o env s next)
    found_call_real words (Some function) env s next h = call_real function words env s next h
    found_call_real words None env s next h = stop_real s.answers _ w.line s.privates (λ e. absurd (cc e))

    mutual
      pub expr_real : (e : TExpr) (env : Env) (s : Still) (next : Option (List ℕ) → Rest) → Fine next → Real (told e w env s next)
      expr_real (Constant t bits) env s next h = h _ env s
      expr_real (Text t number) env s next h = h _ env s
      expr_real (Nil t) env s next h = h _ env s
      expr_real (Function t number) env s next h = h _ env s
      expr_real (form.load t of) env s next h = place_real of env s _ (λ f env s. read_real t f env s _ (λ v env s. h (Some v) env s))
      expr_real (form.decay t of) env s next h = place_real of env s _ (address _ (λ x env s. h _ env s))
      expr_real (form.address t of) env s next h = place_real of env s _ (address _ (λ x env s. h _ env s))
      expr_real (SizeofType t of) env s next h = h _ env s
      expr_real (form.sizeof_place t of) env s next h = h _ env s
      expr_real (form.sizeof_value t of) env s next h = h _ env s
      expr_real (form.unary t op of) env s next h = expr_real of env s _ (val _ (λ a env s. h _ env s))
      expr_real (form.negation t of) env s next h = expr_real of env s _ (val _ (λ a env s. h _ env s))
      expr_real (form.binary t op kind left right) env s next h =
          expr_real left env s _ (val _ (λ a env s. expr_real right env s _ (val _ (λ b env s. quotient_real _ env s next h))))
      expr_real (form.logical t logic.And left right) env s next h =
          expr_real left env s _ (val _ (λ a env s. if_real (is_zero a) (gives (truth false)) (value (told right w) >>= (λ b. gives (truth (not (is_zero b))))) env s next
          (h _ env s) (expr_real right env s _ (val _ (λ b env s. h _ env s)))))
      expr_real (form.logical t logic.Or left right) env s next h =
          expr_real left env s _ (val _ (λ a env s. if_real (is_zero a) (value (told right w) >>= (λ b. gives (truth (not (is_zero b))))) (gives (truth true)) env s next
          (expr_real right env s _ (val _ (λ b env s. h _ env s))) (h _ env s)))
      expr_real (form.movement t movement.Forward pointer count) env s next h =
          expr_real pointer env s _ (val _ (λ a env s. expr_real count env s _ (val _ (λ b env s. h _ env s))))
      expr_real (form.movement t movement.CountFirst pointer count) env s next h =
          expr_real count env s _ (val _ (λ a env s. expr_real pointer env s _ (val _ (λ b env s. h _ env s))))
      expr_real (form.movement t movement.Back pointer count) env s next h =
          expr_real pointer env s _ (val _ (λ a env s. expr_real count env s _ (val _ (λ b env s. h _ env s))))
      expr_real (form.difference t left right) env s next h =
          expr_real left env s _ (val _ (λ a env s. expr_real right env s _ (val _ (λ b env s. h _ env s))))
      expr_real (form.assign t target e) env s next h =
          aim_real target env s _ (λ places env s. expr_real e env s _ (val _ (λ v env s. saves_real (leaves_of target) places v env s _ (λ a env s. h (Some v) env s))))
      expr_real (form.update t of change e) env s next h =
          place_real of env s _ (λ f env s. read_real t f env s _ (λ old env s. expr_real e env s _ (val _ (λ v env s. updated_real t f _ env s next h))))
      expr_real (form.stepped t op of) env s next h = place_real of env s _ (λ f env s. read_real t f env s _ (λ old env s. saved_real t f _ _ env s next h))
      expr_real (form.zerox t of) env s next h = place_real of env s _ (λ f env s. read_real t f env s _ (λ old env s. saved_real t f _ _ env s next h))
      expr_real (Tuple' t _ parts) env s next h = all_real parts env s _ (λ vs env s. h _ env s)
      expr_real (Call' t function receiver _ arguments) env s next h =
          object_real receiver env s _ (λ os env s. all_real arguments env s _ (λ vs env s. call_real function (joined (os ++ vs)) env s next h))
      expr_real (CallPointer' t _ (more_of-TExpr pointer end_of-TExpr) _ arguments) env s next h =
          expr_real pointer env s _ (val _ (λ a env s. all_real arguments env s _ (λ vs env s. found_call_real (joined vs) _ env s next h)))
      expr_real (Print' t format _ arguments) env s next h = all_real arguments env s _ (λ vs env s. compose_real format _ [] env s next h)
      expr_real (form.terminate t status) env s next h = expr_real status env s _ (val _ (λ v env s. stop_real s.answers _ w.line s.privates (λ e. absurd (cc e))))
      expr_real (form.receive t chan) env s next h = expr_real chan env s _ (val _ (λ c env s. ask_real _ w.line s _ (λ e. absurd (cc e)) (λ v s. h _ env s)))
      expr_real (form.send t chan e) env s next h =
          expr_real chan env s _ (val _ (λ c env s. expr_real e env s _ (val _ (λ v env s. ask_real _ w.line s _ (λ e. absurd (cc e)) (λ v s. h None env s)))))
      expr_real (form.can_receive t chan) env s next h = expr_real chan env s _ (val _ (λ c env s. ask_real _ w.line s _ (λ e. absurd (cc e)) (λ v s. h (Some v) env s)))
      expr_real (form.can_send t chan) env s next h = expr_real chan env s _ (val _ (λ c env s. ask_real _ w.line s _ (λ e. absurd (cc e)) (λ v s. h (Some v) env s)))
      expr_real (form.member_of t e path) env s next h = expr_real e env s _ (val _ (λ v env s. h _ env s))
      expr_real (form.cast t of) env s next h = expr_real of env s _ (val _ (λ v env s. h _ env s))
      expr_real (form.convert t of) env s next h = expr_real of env s _ (val _ (λ v env s. h _ env s))
      expr_real (Sequence' t _ first _ (more_of-TExpr last end_of-TExpr)) env s next h = dropped_real first env s _ (λ a env s. expr_real last env s next h)
      expr_real (Iterator t number) env s next h = h _ env s

      pub place_real : (of : TPlace) (env : Env) (s : Still) (next : Found → Rest) → Fine next → Real (found of w env s next)
      place_real (Local_ t number) env s next h = h _ env s
      place_real (Outer t around number) env s next h = h _ env s
      place_real (Global t number) env s next h = h _ env s
      place_real (form.pointed t pointer) env s next h = expr_real pointer env s _ (val _ (λ a env s. h _ env s))
      place_real (form.element t base index) env s next h = expr_real base env s _ (val _ (λ a env s. expr_real index env s _ (val _ (λ b env s. h _ env s))))
      place_real (form.member_in t of path) env s next h = place_real of env s _ (address _ (λ x env s. h _ env s))
      place_real (form.pointed_member t pointer path) env s next h = expr_real pointer env s _ (val _ (λ a env s. h _ env s))

      pub aim_real : (target : TTarget) (env : Env) (s : Still) (next : List Found → Rest) → Fine next → Real (aimed target w env s next)
      aim_real (form.into of) env s next h = place_real of env s _ (λ f env s. h _ env s)
      aim_real (Dropped t) env s next h = h _ env s
      aim_real (Parts' t _ parts) env s next h = aims_real parts env s next h

      aims_real : {m : _} (row : Row_of-TTarget m) (env : Env) (s : Still) (next : List Found → Rest) → Fine next → Real (aimed_all row w env s next)
      aims_real end_of-TTarget env s next h = h _ env s
      aims_real (more_of-TTarget target rest) env s next h = aim_real target env s _ (λ fs env s. aims_real rest env s _ (λ gs env s. h _ env s))

      pub object_real : (receiver : Held-TExpr-Call-2) (env : Env) (s : Still) (next : List (List ℕ) → Rest) → Fine next → Real (told_object receiver w env s next)
      object_real None' env s next h = h _ env s
      object_real (Some' _ (more_of-TReceiver receiver end_of-TReceiver)) env s next h = receiver_real receiver env s next h

      receiver_real : (receiver : TReceiver) (env : Env) (s : Still) (next : List (List ℕ) → Rest) → Fine next → Real (told_receiver receiver w env s next)
      receiver_real (form.place_before of path how) env s next h = place_real of env s _ (address _ (λ x env s. passed_real how _ _ env s next h))
      receiver_real (form.value_before e path how) env s next h = expr_real e env s _ (val _ (λ v env s. part_real how _ _ _ env s next h))
      receiver_real (form.pointer_before pointer path how) env s next h = expr_real pointer env s _ (val _ (λ a env s. passed_real how _ _ env s next h))

      pub all_real : {m : _} (row : Row_of-TExpr m) (env : Env) (s : Still) (next : List (List ℕ) → Rest) → Fine next → Real (told_all row w env s next)
      all_real end_of-TExpr env s next h = h _ env s
      all_real (more_of-TExpr e rest) env s next h = expr_real e env s _ (val _ (λ v env s. all_real rest env s _ (λ vs env s. h _ env s)))

      dropped_real : {m : _} (row : Row_of-TExpr m) (env : Env) (s : Still) (next : Unit {0} → Rest) → Fine next → Real (drop_all row w env s next)
      dropped_real end_of-TExpr env s next h = h tt env s
      dropped_real (more_of-TExpr e rest) env s next h = expr_real e env s _ (λ o env s. drop_real (is_void (type_of e)) o env s _ (dropped_real rest env s next h))
