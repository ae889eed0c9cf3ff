-- With enough rounds the meaning of an expression is never left open.
use Rattle.std.proofs.Common.{ℕ, zero, suc, ◌+◌, ◌*◌, ◌-◌, ◌<◌, ◌≤◌, List, [], ◌∷◌, ◌++◌, length, drop, Option, Some, None, arith}
use Rattle.std.specs.Prelude.{◌≢◌, Bool, true, false, not, nat_lt, if◌then◌else◌, slice_index}
use Rattle.al_base.specs.declared.trap.Trap.TheVariants as trap
use Rattle.al_event.specs.declared.act.Act.{Act}
use Rattle.al_event.specs.declared.act.Act.TheVariants as act
use Rattle.al_typed.specs.declared.ty.Ty.{Ty}
use Rattle.al_typed.specs.declared.layout.Unit.{Unit as StorageUnit}
use Rattle.al_typed.specs.declared.expression.Logic.TheVariants as logic
use Rattle.al_typed.specs.declared.expression.Movement.TheVariants as movement
use Rattle.al_typed.specs.declared.expression.Passed.{Passed}
use Rattle.al_typed.specs.declared.expression.Passed.TheVariants as passed
use Rattle.al_typed.specs.declared.expression.PrintPiece.{PrintPiece}
use Rattle.al_typed.specs.declared.expression.PrintPiece.TheVariants as print
use Rattle.al_typed.specs.declared.expression.TExpr.{TExpr, Constant, Text, Nil, Function, SizeofType, Tuple', Call', CallPointer', Print', Sequence', Iterator, Held-TExpr-Call-2, None', Some', Row_of-TExpr, end_of-TExpr, more_of-TExpr, Row_of-TTarget, end_of-TTarget, more_of-TTarget, end_of-TReceiver, more_of-TReceiver}
use Rattle.al_typed.specs.declared.expression.TPlace.{TPlace, Local as Local_, Outer, Global}
use Rattle.al_typed.specs.declared.expression.TTarget.{TTarget, Dropped, Parts'}
use Rattle.al_typed.specs.declared.expression.TReceiver.{TReceiver}
use Rattle.al_typed.specs.ExpressionForms as form
use Rattle.al_typed.specs.Types.{is_void}
use Rattle.al_typed.specs.Typed.{type_of}
use Rattle.al_meaning.specs.Words.{is_zero, truth, sum}
use Rattle.al_meaning.specs.Shown.{most_text, written}
use Rattle.al_meaning.specs.Items.{Found, Words, Address, Local, Private, Nowhere, Argument, most_turns}
use Rattle.al_meaning.specs.Here.{units_in}
use Rattle.al_meaning.specs.Calls.{joined}
use Rattle.al_meaning.specs.Evaluate.{leaves_of}
use Rattle.al_meaning.specs.Tasks.{Answer, Env, Still, Outcome, Unfinished, Stuck, Rest, Task, ◌>>=◌, Ways, answered, ask_in, last_asked, turn_at, turn_in, calls, traps}
use Rattle.al_meaning.specs.Told.{value, gives, needed, drop_checked, at_address, load_units, read, store_units, save, save_all, saved, saved_or_divides, quotient, passed_at, passed_part, composed, scan_byte, scan, compose, call_found, told, found, aimed, aimed_all, told_object, told_receiver, told_all, drop_all}
use Rattle.al_meaning.specs.Meant.{Given}

-- it comes to an end
pub record Ends (o : Outcome) : Type 0 where
  pub by : o ≢ Unfinished

-- at most so many turns are left in all
abbrev pub Low : ℕ → Still → Type 0
Low k s = (1 ≤ s.left) × (s.left + most_turns * length s.answers ≤ k)

pub lower : (k j : ℕ) (s : Still) → j ≤ k → Low j s → Low k s
lower k j s le l = (l.0, omega (arith, l.1, le))

pub stuck_ends : Ends Stuck
stuck_ends = record { by = λ e. absurd (cc e) }

pub asks_end : (answers : List Answer) (a : Act) (line k left : ℕ) (s : Still) (next : List ℕ → Still → Outcome) → Low k (record s { left = left; answers = answers })
    → ((words : List ℕ) (s : Still) → Low k s → Ends (next words s)) → Ends (answered answers a line s next)
asks_end [] a line k left s next l h = record { by = λ e. absurd (cc e) }
asks_end (r ∷ answers) a line k left s next l h = h _ _ (omega arith, omega (arith, l.0, l.1))

pub ask_ends : (a : Act) (line k : ℕ) (s : Still) (next : List ℕ → Still → Outcome) → Low k s
    → ((words : List ℕ) (s : Still) → Low k s → Ends (next words s)) → Ends (ask_in line a s next)
ask_ends a line k s next l h = asks_end s.answers a line k s.left s next l h

pub stop_ends : (answers : List Answer) (a : Act) (line : ℕ) (privates : List ℕ) → Ends (last_asked answers a line privates)
stop_ends [] a line privates = record { by = λ e. absurd (cc e) }
stop_ends (r ∷ answers) a line privates = record { by = λ e. absurd (cc e) }

paused_ends : (answers : List Answer) (line k : ℕ) (s : Still) (next : Still → Outcome) → 1 + most_turns * length answers ≤ k
    → ((j : ℕ) (s : Still) → j < k → Low j s → Ends (next s)) → Ends (answered answers act.Pause line s (λ _ s. next s))
paused_ends [] line k s next l h = record { by = λ e. absurd (cc e) }
paused_ends (r ∷ answers) line k s next l h = h (k - 1) _ (omega (arith, l)) (omega arith, omega (arith, l))

turns_end : (left line k : ℕ) (s : Still) (next : Still → Outcome) → Low k (record s { left = left })
    → ((j : ℕ) (s : Still) → j < k → Low j s → Ends (next s)) → Ends (turn_at left line s next)
turns_end zero line k s next l h = absurd (omega (arith, l.0))
turns_end (suc zero) line k s next l h = paused_ends s.answers line k s next (omega (arith, l.1)) h
turns_end (suc (suc n)) line k s next l h = h (k - 1) _ (omega (arith, l.1)) (omega arith, omega (arith, l.1))

pub turn_ends : (line k : ℕ) (s : Still) (next : Still → Outcome) → Low k s → ((j : ℕ) (s : Still) → j < k → Low j s → Ends (next s)) → Ends (turn_in line s next)
turn_ends line k s next l h = turns_end s.left line k s next l h

-- calls come to an end after their turn
pub record CallsEnd (call : ℕ → List ℕ → Still → Given → Outcome) (k : ℕ) : Type 0 where
  pub by : (j function : ℕ) (words : List ℕ) (s : Still) (next : Given) → j < k → Low j s → ((o : Option (List ℕ)) (s : Still) → Low j s → Ends (next o s)) → Ends (call function words s next)

module _ (w : Ways) (k : ℕ) where
  -- what goes on with something comes to an end
  abbrev pub Fine : {A : Type 0} → (A → Rest) → Type 0
  Fine {A} next = (a : A) (env : Env) (s : Still) → Low k s → Ends (next a env s)

  pub if_ends : {A : Type 0} (b : Bool) (x y : Task A) (env : Env) (s : Still) (next : A → Rest) → Ends (x env s next) → Ends (y env s next) → Ends ((if b then x else y) env s next)
  if_ends true x y env s next p q = p
  if_ends false x y env s next p q = q

  pub val : (next : List ℕ → Rest) → Fine next → (o : Option (List ℕ)) (env : Env) (s : Still) → Low k s → Ends (needed o env s next)
  val next h (Some v) env s l = h v env s l
  val next h None env s l = stuck_ends

  address : (next : ℕ → Rest) → Fine next → (f : Found) (env : Env) (s : Still) → Low k s → Ends (at_address f env s next)
  address next h (Address x) env s l = h x env s l
  address next h (Words v) env s l = stuck_ends
  address next h (Local n) env s l = stuck_ends
  address next h (Private n) env s l = stuck_ends
  address next h Nowhere env s l = stuck_ends

  pub drop_ends : (is_void : Bool) (o : Option (List ℕ)) (env : Env) (s : Still) (next : Unit {0} → Rest) → Ends (next tt env s) → Ends (drop_checked is_void o env s next)
  drop_ends true None env s next h = h
  drop_ends false (Some v) env s next h = h
  drop_ends true (Some v) env s next h = stuck_ends
  drop_ends false None env s next h = stuck_ends

  load_ends : (x : ℕ) (units : List StorageUnit) (got : List ℕ) (env : Env) (s : Still) (next : List ℕ → Rest) → Fine next → Low k s → Ends (load_units w x units got env s next)
  load_ends x [] got env s next h l = h got env s l
  load_ends x (u ∷ units) got env s next h l = ask_ends _ w.line k s _ l (λ v s l. load_ends x units _ env s next h l)

  pub read_ends : (t : Ty) (f : Found) (env : Env) (s : Still) (next : List ℕ → Rest) → Fine next → Low k s → Ends (read w t f env s next)
  read_ends t (Address x) env s next h l = load_ends x (units_in w.program t) [] env s next h l
  read_ends t (Local number) env s next h l = h _ env s l
  read_ends t (Private number) env s next h l = h _ env s l
  read_ends t (Words v) env s next h l = stuck_ends
  read_ends t Nowhere env s next h l = stuck_ends

  write_ends : (x : ℕ) (units : List StorageUnit) (words : List ℕ) (env : Env) (s : Still) (next : Unit {0} → Rest) → Fine next → Low k s → Ends (store_units w x units words env s next)
  write_ends x [] words env s next h l = h tt env s l
  write_ends x (u ∷ units) words env s next h l = ask_ends _ w.line k s _ l (λ v s l. write_ends x units (drop 1 words) env s next h l)

  pub save_ends : (t : Ty) (words : List ℕ) (f : Found) (env : Env) (s : Still) (next : Unit {0} → Rest) → Fine next → Low k s → Ends (save w t words f env s next)
  save_ends t words (Address x) env s next h l = write_ends x (units_in w.program t) words env s next h l
  save_ends t words (Local number) env s next h l = h tt _ s l
  save_ends t words (Private number) env s next h l = h tt env _ l
  save_ends t words (Words v) env s next h l = stuck_ends
  save_ends t words Nowhere env s next h l = h tt env s l

  pub saves_end : (ts : List Ty) (fs : List Found) (words : List ℕ) (env : Env) (s : Still) (next : Unit {0} → Rest) → Fine next → Low k s → Ends (save_all w ts fs words env s next)
  saves_end (t ∷ ts) (f ∷ fs) words env s next h l = save_ends t _ f env s _ (λ a env s l. saves_end ts fs _ env s next h l) l
  saves_end [] fs words env s next h l = h tt env s l
  saves_end (t ∷ ts) [] words env s next h l = h tt env s l

  saved_ends : (t : Ty) (f : Found) (new old : List ℕ) (env : Env) (s : Still) (next : Option (List ℕ) → Rest) → Fine next → Low k s → Ends (saved w t f new old env s next)
  saved_ends t f new old env s next h l = save_ends t new f env s _ (λ a env s l. h (Some old) env s l) l

  updated_ends : (t : Ty) (f : Found) (o : Option (List ℕ)) (env : Env) (s : Still) (next : Option (List ℕ) → Rest) → Fine next → Low k s → Ends (saved_or_divides w t f o env s next)
  updated_ends t f (Some v) env s next h l = saved_ends t f v v env s next h l
  updated_ends t f None env s next h l = stop_ends s.answers _ w.line s.privates

  quotient_ends : (o : Option (List ℕ)) (env : Env) (s : Still) (next : Option (List ℕ) → Rest) → Fine next → Low k s → Ends (quotient w o env s next)
  quotient_ends (Some v) env s next h l = h (Some v) env s l
  quotient_ends None env s next h l = stop_ends s.answers _ w.line s.privates

  passed_ends : (how : Passed) (t : Ty) (x : ℕ) (env : Env) (s : Still) (next : List (List ℕ) → Rest) → Fine next → Low k s → Ends (passed_at w how t x env s next)
  passed_ends passed.Address t x env s next h l = h _ env s l
  passed_ends passed.Value t x env s next h l = read_ends t (Address x) env s _ (λ v env s l. h _ env s l) l
  passed_ends passed.Nothing t x env s next h l = h _ env s l

  part_ends : (how : Passed) (t : Ty) (path v : List ℕ) (env : Env) (s : Still) (next : List (List ℕ) → Rest) → Fine next → Low k s → Ends (passed_part w how t path v env s next)
  part_ends passed.Address t path v env s next h l = stuck_ends
  part_ends passed.Value t path v env s next h l = h _ env s l
  part_ends passed.Nothing t path v env s next h l = h _ env s l

  composed_ends : (rest : List ℕ → Task (Option (List ℕ))) (text bytes : List ℕ) (env : Env) (s : Still) (next : Option (List ℕ) → Rest) → Ends (rest (text ++ bytes) env s next) → Ends (composed w rest text bytes env s next)
  composed_ends rest text bytes env s next h = if_ends (nat_lt most_text (length text + length bytes)) (traps w trap.Print) (rest (text ++ bytes)) env s next (stop_ends s.answers _ w.line s.privates) h

  byte_ends : (again : ℕ → List ℕ → Task (Option (List ℕ))) (rest : List ℕ → Task (Option (List ℕ))) (x : ℕ) (text : List ℕ) (b : ℕ) (env : Env) (s : Still) (next : Option (List ℕ) → Rest)
      → Ends (rest text env s next) → ((x : ℕ) (text : List ℕ) → Ends (again x text env s next)) → Ends (scan_byte w again rest x text b env s next)
  byte_ends again rest x text zero env s next p q = p
  byte_ends again rest x text (suc b) env s next p q = if_ends (nat_lt (length text) most_text) (again (sum x 1) (text ++ suc b ∷ [])) (traps w trap.Print) env s next (q _ _) (stop_ends s.answers _ w.line s.privates)

  scan_ends : (n : ℕ) (rest : List ℕ → Task (Option (List ℕ))) (x : ℕ) (text : List ℕ) (env : Env) (s : Still) (next : Option (List ℕ) → Rest)
      → ((text : List ℕ) (s : Still) → Low k s → Ends (rest text env s next)) → Low k s → Ends (scan n w rest x text env s next)
  scan_ends zero rest x text env s next h l = stuck_ends
  scan_ends (suc n) rest x text env s next h l = ask_ends _ w.line k s _ l (λ v s l.
      byte_ends (scan n w rest) rest x text (slice_index v 0) env s next (h text s l) (λ x text. scan_ends n rest x text env s next h l))

  compose_ends : (pieces : List PrintPiece) (arguments : List Argument) (text : List ℕ) (env : Env) (s : Still) (next : Option (List ℕ) → Rest) → Fine next → Low k s → Ends (compose w pieces arguments text env s next)
  compose_ends [] arguments text env s next h l = ask_ends _ w.line k s _ l (λ v s l. h None env s l)
  compose_ends (print.Byte b ∷ pieces) arguments text env s next h l = composed_ends (compose w pieces arguments) text (b ∷ []) env s next (compose_ends pieces arguments _ env s next h l)
  compose_ends (print.Percent ∷ pieces) arguments text env s next h l = composed_ends (compose w pieces arguments) text (37 ∷ []) env s next (compose_ends pieces arguments _ env s next h l)
  compose_ends (print.Text ∷ pieces) (a ∷ arguments) text env s next h l = scan_ends (most_text + 2) (compose w pieces arguments) _ text env s next (λ text s l. compose_ends pieces arguments text env s next h l) l
  compose_ends (verb ∷ pieces) (a ∷ arguments) text env s next h l = composed_ends (compose w pieces arguments) text (written verb a.ty a.words) env s next (compose_ends pieces arguments _ env s next h l)
  compose_ends (verb ∷ pieces) [] text env s next h l = stuck_ends

  module _ (calls_end : CallsEnd w.call k) where
    call_ends : (function : ℕ) (words : List ℕ) (env : Env) (s : Still) (next : Option (List ℕ) → Rest) → Fine next → Low k s → Ends (calls w function words env s next)
    call_ends function words env s next h l = turn_ends w.line k s _ l (λ j s lt l. calls_end.by j function words s _ lt l (λ o s l. h o env s (lower k j s (omega (arith, lt)) l)))

    found_call_ends : (words : List ℕ) (o : Option ℕ) (env : Env) (s : Still) (next : Option (List ℕ) → Rest) → Fine next → Low k s → Ends (call_found w words o env s next)
    found_call_ends words (Some function) env s next h l = call_ends function words env s next h l
    found_call_ends words None env s next h l = stop_ends s.answers _ w.line s.privates

    mutual
      pub expr_ends : (e : TExpr) (env : Env) (s : Still) (next : Option (List ℕ) → Rest) → Fine next → Low k s → Ends (told e w env s next)
      expr_ends (Constant t bits) env s next h l = h _ env s l
      expr_ends (Text t number) env s next h l = h _ env s l
      expr_ends (Nil t) env s next h l = h _ env s l
      expr_ends (Function t number) env s next h l = h _ env s l
      expr_ends (form.load t of) env s next h l = place_ends of env s _ (λ f env s l. read_ends t f env s _ (λ v env s l. h (Some v) env s l) l) l
      expr_ends (form.decay t of) env s next h l = place_ends of env s _ (address _ (λ x env s l. h _ env s l)) l
      expr_ends (form.address t of) env s next h l = place_ends of env s _ (address _ (λ x env s l. h _ env s l)) l
      expr_ends (SizeofType t of) env s next h l = h _ env s l
      expr_ends (form.sizeof_place t of) env s next h l = h _ env s l
      expr_ends (form.sizeof_value t of) env s next h l = h _ env s l
      expr_ends (form.unary t op of) env s next h l = expr_ends of env s _ (val _ (λ a env s l. h _ env s l)) l
      expr_ends (form.negation t of) env s next h l = expr_ends of env s _ (val _ (λ a env s l. h _ env s l)) l
      expr_ends (form.binary t op kind left right) env s next h l =
          expr_ends left env s _ (val _ (λ a env s l. expr_ends right env s _ (val _ (λ b env s l. quotient_ends _ env s next h l)) l)) l
      expr_ends (form.logical t logic.And left right) env s next h l =
          expr_ends left env s _ (val _ (λ a env s l. if_ends (is_zero a) (gives (truth false)) (value (told right w) >>= (λ b. gives (truth (not (is_zero b))))) env s next
          (h _ env s l) (expr_ends right env s _ (val _ (λ b env s l. h _ env s l)) l))) l
      expr_ends (form.logical t logic.Or left right) env s next h l =
          expr_ends left env s _ (val _ (λ a env s l. if_ends (is_zero a) (value (told right w) >>= (λ b. gives (truth (not (is_zero b))))) (gives (truth true)) env s next
          (expr_ends right env s _ (val _ (λ b env s l. h _ env s l)) l) (h _ env s l))) l
      expr_ends (form.movement t movement.Forward pointer count) env s next h l =
          expr_ends pointer env s _ (val _ (λ a env s l. expr_ends count env s _ (val _ (λ b env s l. h _ env s l)) l)) l
      expr_ends (form.movement t movement.CountFirst pointer count) env s next h l =
          expr_ends count env s _ (val _ (λ a env s l. expr_ends pointer env s _ (val _ (λ b env s l. h _ env s l)) l)) l
      expr_ends (form.movement t movement.Back pointer count) env s next h l =
          expr_ends pointer env s _ (val _ (λ a env s l. expr_ends count env s _ (val _ (λ b env s l. h _ env s l)) l)) l
      expr_ends (form.difference t left right) env s next h l =
          expr_ends left env s _ (val _ (λ a env s l. expr_ends right env s _ (val _ (λ b env s l. h _ env s l)) l)) l
      expr_ends (form.assign t target e) env s next h l =
          aim_ends target env s _ (λ places env s l. expr_ends e env s _ (val _ (λ v env s l. saves_end (leaves_of target) places v env s _ (λ a env s l. h (Some v) env s l) l)) l) l
      expr_ends (form.update t of change e) env s next h l =
          place_ends of env s _ (λ f env s l. read_ends t f env s _ (λ old env s l. expr_ends e env s _ (val _ (λ v env s l. updated_ends t f _ env s next h l)) l) l) l
      expr_ends (form.stepped t op of) env s next h l = place_ends of env s _ (λ f env s l. read_ends t f env s _ (λ old env s l. saved_ends t f _ _ env s next h l) l) l
      expr_ends (form.zerox t of) env s next h l = place_ends of env s _ (λ f env s l. read_ends t f env s _ (λ old env s l. saved_ends t f _ _ env s next h l) l) l
      expr_ends (Tuple' t _ parts) env s next h l = all_end parts env s _ (λ vs env s l. h _ env s l) l
      expr_ends (Call' t function receiver _ arguments) env s next h l =
          object_ends receiver env s _ (λ os env s l. all_end arguments env s _ (λ vs env s l. call_ends function (joined (os ++ vs)) env s next h l) l) l
      expr_ends (CallPointer' t _ (more_of-TExpr pointer end_of-TExpr) _ arguments) env s next h l =
          expr_ends pointer env s _ (val _ (λ a env s l. all_end arguments env s _ (λ vs env s l. found_call_ends (joined vs) _ env s next h l) l)) l
      expr_ends (Print' t format _ arguments) env s next h l = all_end arguments env s _ (λ vs env s l. compose_ends format _ [] env s next h l) l
      expr_ends (form.terminate t status) env s next h l = expr_ends status env s _ (val _ (λ v env s l. stop_ends s.answers _ w.line s.privates)) l
      expr_ends (form.receive t chan) env s next h l = expr_ends chan env s _ (val _ (λ c env s l. ask_ends _ w.line k s _ l (λ v s l. h _ env s l))) l
      expr_ends (form.send t chan e) env s next h l =
          expr_ends chan env s _ (val _ (λ c env s l. expr_ends e env s _ (val _ (λ v env s l. ask_ends _ w.line k s _ l (λ v s l. h None env s l))) l)) l
      expr_ends (form.can_receive t chan) env s next h l = expr_ends chan env s _ (val _ (λ c env s l. ask_ends _ w.line k s _ l (λ v s l. h (Some v) env s l))) l
      expr_ends (form.can_send t chan) env s next h l = expr_ends chan env s _ (val _ (λ c env s l. ask_ends _ w.line k s _ l (λ v s l. h (Some v) env s l))) l
      expr_ends (form.member_of t e path) env s next h l = expr_ends e env s _ (val _ (λ v env s l. h _ env s l)) l
      expr_ends (form.cast t of) env s next h l = expr_ends of env s _ (val _ (λ v env s l. h _ env s l)) l
      expr_ends (form.convert t of) env s next h l = expr_ends of env s _ (val _ (λ v env s l. h _ env s l)) l
      expr_ends (Sequence' t _ first _ (more_of-TExpr last end_of-TExpr)) env s next h l = dropped_end first env s _ (λ a env s l. expr_ends last env s next h l) l
      expr_ends (Iterator t number) env s next h l = h _ env s l

      pub place_ends : (of : TPlace) (env : Env) (s : Still) (next : Found → Rest) → Fine next → Low k s → Ends (found of w env s next)
      place_ends (Local_ t number) env s next h l = h _ env s l
      place_ends (Outer t around number) env s next h l = h _ env s l
      place_ends (Global t number) env s next h l = h _ env s l
      place_ends (form.pointed t pointer) env s next h l = expr_ends pointer env s _ (val _ (λ a env s l. h _ env s l)) l
      place_ends (form.element t base index) env s next h l = expr_ends base env s _ (val _ (λ a env s l. expr_ends index env s _ (val _ (λ b env s l. h _ env s l)) l)) l
      place_ends (form.member_in t of path) env s next h l = place_ends of env s _ (address _ (λ x env s l. h _ env s l)) l
      place_ends (form.pointed_member t pointer path) env s next h l = expr_ends pointer env s _ (val _ (λ a env s l. h _ env s l)) l

      pub aim_ends : (target : TTarget) (env : Env) (s : Still) (next : List Found → Rest) → Fine next → Low k s → Ends (aimed target w env s next)
      aim_ends (form.into of) env s next h l = place_ends of env s _ (λ f env s l. h _ env s l) l
      aim_ends (Dropped t) env s next h l = h _ env s l
      aim_ends (Parts' t _ parts) env s next h l = aims_end parts env s next h l

      aims_end : {m : _} (row : Row_of-TTarget m) (env : Env) (s : Still) (next : List Found → Rest) → Fine next → Low k s → Ends (aimed_all row w env s next)
      aims_end end_of-TTarget env s next h l = h _ env s l
      aims_end (more_of-TTarget target rest) env s next h l = aim_ends target env s _ (λ fs env s l. aims_end rest env s _ (λ gs env s l. h _ env s l) l) l

      pub object_ends : (receiver : Held-TExpr-Call-2) (env : Env) (s : Still) (next : List (List ℕ) → Rest) → Fine next → Low k s → Ends (told_object receiver w env s next)
      object_ends None' env s next h l = h _ env s l
      object_ends (Some' _ (more_of-TReceiver receiver end_of-TReceiver)) env s next h l = receiver_ends receiver env s next h l

      receiver_ends : (receiver : TReceiver) (env : Env) (s : Still) (next : List (List ℕ) → Rest) → Fine next → Low k s → Ends (told_receiver receiver w env s next)
      receiver_ends (form.place_before of path how) env s next h l = place_ends of env s _ (address _ (λ x env s l. passed_ends how _ _ env s next h l)) l
      receiver_ends (form.value_before e path how) env s next h l = expr_ends e env s _ (val _ (λ v env s l. part_ends how _ _ _ env s next h l)) l
      receiver_ends (form.pointer_before pointer path how) env s next h l = expr_ends pointer env s _ (val _ (λ a env s l. passed_ends how _ _ env s next h l)) l

      pub all_end : {m : _} (row : Row_of-TExpr m) (env : Env) (s : Still) (next : List (List ℕ) → Rest) → Fine next → Low k s → Ends (told_all row w env s next)
      all_end end_of-TExpr env s next h l = h _ env s l
      all_end (more_of-TExpr e rest) env s next h l = expr_ends e env s _ (val _ (λ v env s l. all_end rest env s _ (λ vs env s l. h _ env s l) l)) l

      dropped_end : {m : _} (row : Row_of-TExpr m) (env : Env) (s : Still) (next : Unit {0} → Rest) → Fine next → Low k s → Ends (drop_all row w env s next)
      dropped_end end_of-TExpr env s next h l = h tt env s l
      dropped_end (more_of-TExpr e rest) env s next h l = expr_ends e env s _ (λ o env s l. drop_ends (is_void (type_of e)) o env s _ (dropped_end rest env s next h l)) l
