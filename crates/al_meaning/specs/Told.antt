-- The meaning of expressions, told the answers.
use Rattle.std.specs.Prelude.{ℕ, zero, suc, ◌+◌, nat_lt, not, Bool, true, false, if◌then◌else◌, List, [], ◌∷◌, ◌++◌, map, take, drop, length, Option, Some, None, slice_get, slice_set, slice_index, unwrap_or}
use Rattle.std.specs.Int.{cast_signed, w32}
use Rattle.al_base.specs.declared.trap.Trap.TheVariants as trap
use Rattle.al_event.specs.declared.act.Act.TheVariants as act
use Rattle.al_typed.specs.declared.ty.Ty.{Ty, out-Ty}
use Rattle.al_typed.specs.declared.layout.Unit.{Unit as StorageUnit}
use Rattle.al_typed.specs.declared.expression.Logic.TheVariants as logic
use Rattle.al_typed.specs.declared.expression.Movement.TheVariants as movement
use Rattle.al_typed.specs.declared.expression.Passed.{Passed}
use Rattle.al_typed.specs.declared.expression.Passed.TheVariants as passed
use Rattle.al_typed.specs.declared.expression.PrintPiece.{PrintPiece}
use Rattle.al_typed.specs.declared.expression.PrintPiece.TheVariants as print
use Rattle.al_typed.specs.declared.expression.TExpr.{TExpr, Constant, Text, Nil, Function, SizeofType, Tuple', Call', CallPointer', Print', Sequence', Iterator, Held-TExpr-Call-2, None', Some', Row_of-TExpr, end_of-TExpr, more_of-TExpr, Row_of-TTarget, end_of-TTarget, more_of-TTarget, end_of-TReceiver, more_of-TReceiver}
use Rattle.al_typed.specs.declared.expression.TPlace.{TPlace, Local as Local_, Outer, Global}
use Rattle.al_typed.specs.declared.expression.TTarget.{TTarget, Dropped, Parts'}
use Rattle.al_typed.specs.declared.expression.TReceiver.{TReceiver}
use Rattle.al_typed.specs.ExpressionForms as form
use Rattle.al_typed.specs.Types.{is_void}
use Rattle.al_typed.specs.Typed.{type_of, place_type}
use Rattle.al_meaning.specs.Words.{bits_of, integer_words, is_zero, truth, operated, operated_once, sum, stepped_by, elements_between, converted, part_of, fitted_to, zero_words}
use Rattle.al_meaning.specs.Places.{text_place, private_place, function_address, path_offset, words_in}
use Rattle.al_meaning.specs.Shown.{most_text, kind_of, written}
use Rattle.al_meaning.specs.Items.{Found, Words, Address, Local, Private, Nowhere, Argument}
use Rattle.al_meaning.specs.Parts.{exprs}
use Rattle.al_meaning.specs.Here.{pointee, size_in, units_in, member_type}
use Rattle.al_meaning.specs.Calls.{joined, named_by}
use Rattle.al_meaning.specs.Evaluate.{local_found, outer_found, global_found, put_at, leaves_of, updated, next_value, goes_back, step_gives, arguments_of, receiving, sending}
use Rattle.al_meaning.specs.Tasks.{Task, ◌>>=◌, ◌>>◌, give, stuck, if_zero, Ways, asks, stops, traps, asks_word, calls}

-- ---- values and places

abbrev pub needed : {A : Type 0} → Option A → Task A
needed (Some a) = give a
needed None = stuck

-- the value of what has one
abbrev pub value : Task (Option (List ℕ)) → Task (List ℕ)
value m = m >>= needed

abbrev pub gives : List ℕ → Task (Option (List ℕ))
gives v = give (Some v)

abbrev pub gives_word : ℕ → Task (Option (List ℕ))
gives_word n = gives (n ∷ [])

-- what a void expression gives is nothing
abbrev pub nothing : Task (Option (List ℕ))
nothing = give None

abbrev pub drop_checked : Bool → Option (List ℕ) → Task (Unit {0})
drop_checked true None = give tt
drop_checked false (Some _) = give tt
drop_checked _ _ = stuck

abbrev pub dropped : Ty → Option (List ℕ) → Task (Unit {0})
dropped t o = drop_checked (is_void t) o

abbrev pub at_address : Found → Task ℕ
at_address (Address at) = give at
at_address _ = stuck

abbrev pub load_units : Ways → ℕ → List StorageUnit → List ℕ → Task (List ℕ)
load_units w at [] got = give got
load_units w at (u ∷ units) got = do
  word ← asks_word w (act.Load (sum at u.at) u.size)
  load_units w at units (got ++ word ∷ [])

abbrev pub local_value : ℕ → Task (List ℕ)
local_value number env s next = next (unwrap_or (slice_get env.locals number) []) env s

abbrev pub private_value : Ways → Ty → ℕ → Task (List ℕ)
private_value w t number env s next = next (take (words_in w.program t) (drop (private_place w.program number) s.privates)) env s

abbrev pub read : Ways → Ty → Found → Task (List ℕ)
read w t (Address at) = load_units w at (units_in w.program t) []
read w t (Local number) = local_value number
read w t (Private number) = private_value w t number
read w t _ = stuck

abbrev pub store_units : Ways → ℕ → List StorageUnit → List ℕ → Task (Unit {0})
store_units w at [] words = give tt
store_units w at (u ∷ units) words = do
  asks w (act.Store (sum at u.at) u.size (slice_index words 0))
  store_units w at units (drop 1 words)

abbrev pub set_local : ℕ → List ℕ → Task (Unit {0})
set_local number words env s next = next tt (record env { locals = slice_set env.locals number words }) s

abbrev pub set_private : Ways → ℕ → List ℕ → Task (Unit {0})
set_private w number words env s next = next tt env (record s { privates = put_at (private_place w.program number) words s.privates })

abbrev pub save : Ways → Ty → List ℕ → Found → Task (Unit {0})
save w t words (Address at) = store_units w at (units_in w.program t) words
save w t words (Local number) = set_local number words
save w t words (Private number) = set_private w number words
save w t words Nowhere = give tt
save w t words (Words _) = stuck

-- each part of a value into its place, from left to right
abbrev pub save_all : Ways → List Ty → List Found → List ℕ → Task (Unit {0})
save_all w (t ∷ ts) (f ∷ places) words = do
  save w t (take (words_in w.program t) words) f
  save_all w ts places (drop (words_in w.program t) words)
save_all w _ _ words = give tt

abbrev pub saved : Ways → Ty → Found → (new given : List ℕ) → Task (Option (List ℕ))
saved w t place new given = do
  save w t new place
  gives given

abbrev pub saved_or_divides : Ways → Ty → Found → Option (List ℕ) → Task (Option (List ℕ))
saved_or_divides w t place (Some v) = saved w t place v v
saved_or_divides w t place None = traps w trap.Divide

abbrev pub quotient : Ways → Option (List ℕ) → Task (Option (List ℕ))
quotient w (Some v) = gives v
quotient w None = traps w trap.Divide

-- what a function of an adt gets of an object at an address
abbrev pub passed_at : Ways → Passed → Ty → ℕ → Task (List (List ℕ))
passed_at w passed.Address t at = give ((at ∷ []) ∷ [])
passed_at w passed.Value t at = do
  v ← read w t (Address at)
  give (v ∷ [])
passed_at w passed.Nothing t at = give []

abbrev pub passed_part : Ways → Passed → Ty → List ℕ → List ℕ → Task (List (List ℕ))
passed_part w passed.Address t path v = stuck
passed_part w passed.Value t path v = give (part_of w.program.aggregates t path v ∷ [])
passed_part w passed.Nothing t path v = give []

-- ---- print

abbrev pub composed : Ways → (List ℕ → Task (Option (List ℕ))) → List ℕ → List ℕ → Task (Option (List ℕ))
composed w rest text bytes = if nat_lt most_text (length text + length bytes) then traps w trap.Print else rest (text ++ bytes)

abbrev pub scan_byte : Ways → (ℕ → List ℕ → Task (Option (List ℕ))) → (List ℕ → Task (Option (List ℕ))) → ℕ → List ℕ → ℕ → Task (Option (List ℕ))
scan_byte w more rest at text zero = rest text
scan_byte w more rest at text (suc b) = if nat_lt (length text) most_text then more (sum at 1) (text ++ suc b ∷ []) else traps w trap.Print

-- the bytes of a `%s`, of which the text has room for fewer than n
abbrev pub scan : ℕ → Ways → (List ℕ → Task (Option (List ℕ))) → ℕ → List ℕ → Task (Option (List ℕ))
scan zero w rest at text = stuck
scan (suc n) w rest at text = do
  b ← asks_word w (act.Load at 1)
  scan_byte w (scan n w rest) rest at text b

abbrev pub compose : Ways → List PrintPiece → List Argument → List ℕ → Task (Option (List ℕ))
compose w [] arguments text = do
  asks w (act.Print text)
  nothing
compose w (print.Byte b ∷ pieces) arguments text = composed w (compose w pieces arguments) text (b ∷ [])
compose w (print.Percent ∷ pieces) arguments text = composed w (compose w pieces arguments) text (37 ∷ [])
compose w (print.Text ∷ pieces) (a ∷ arguments) text = scan (most_text + 2) w (compose w pieces arguments) (slice_index a.words 0) text
compose w (verb ∷ pieces) (a ∷ arguments) text = composed w (compose w pieces arguments) text (written verb a.ty a.words)
compose w (verb ∷ pieces) [] text = stuck

-- ---- expressions

abbrev pub local_here : Ways → ℕ → Task Found
local_here w number env s next = next (local_found w.program w.function env.block number) env s

abbrev pub outer_here : Ways → (around number : ℕ) → Task Found
outer_here w around number env s next = next (outer_found w.program w.function env.around around number) env s

abbrev pub iterator_here : ℕ → Task (Option (List ℕ))
iterator_here number env s next = next (Some (slice_index env.turns number ∷ [])) env s

abbrev pub call_found : Ways → List ℕ → Option ℕ → Task (Option (List ℕ))
call_found w words (Some function) = calls w function words
call_found w words None = traps w trap.Call

abbrev pub logical_by : Ways → Bool → List ℕ → Task (List ℕ) → Task (Option (List ℕ))
logical_by w is_and a right = if_zero a
    (if is_and then gives (truth false) else (do b ← right; gives (truth (not (is_zero b)))))
    (if is_and then (do b ← right; gives (truth (not (is_zero b)))) else gives (truth true))

abbrev mutual
  -- what an expression gives: nothing, where it is void
  pub told : TExpr → Ways → Task (Option (List ℕ))
  told (Constant t bits) w = gives (integer_words (kind_of t) bits)
  told (Text t number) w = gives_word (text_place w.program number)
  told (Nil t) w = gives_word 0
  told (Function t number) w = gives_word (function_address number)
  told (form.load t place) w = do
    f ← found place w
    v ← read w t f
    gives v
  told (form.decay t place) w = do
    f ← found place w
    at ← at_address f
    gives_word at
  told (form.address t place) w = do
    f ← found place w
    at ← at_address f
    gives_word at
  told (SizeofType t of) w = gives_word (size_in w.program of)
  told (form.sizeof_place t place) w = gives_word (size_in w.program (place_type place))
  told (form.sizeof_value t e) w = gives_word (size_in w.program (type_of e))
  told (form.unary t op of) w = do
    a ← value (told of w)
    gives (operated_once op (kind_of t) a)
  told (form.negation t of) w = do
    a ← value (told of w)
    gives (truth (is_zero a))
  told (form.binary t op kind left right) w = do
    a ← value (told left w)
    b ← value (told right w)
    quotient w (operated op kind a b)
  told (form.logical t logic.And left right) w = do
    a ← value (told left w)
    logical_by w true a (value (told right w))
  told (form.logical t logic.Or left right) w = do
    a ← value (told left w)
    logical_by w false a (value (told right w))
  told (form.movement t movement.Forward pointer count) w = do
    a ← value (told pointer w)
    n ← value (told count w)
    gives_word (stepped_by false (size_in w.program (pointee t)) (bits_of a) (bits_of n))
  told (form.movement t movement.CountFirst pointer count) w = do
    n ← value (told count w)
    a ← value (told pointer w)
    gives_word (stepped_by false (size_in w.program (pointee t)) (bits_of a) (bits_of n))
  told (form.movement t movement.Back pointer count) w = do
    a ← value (told pointer w)
    n ← value (told count w)
    gives_word (stepped_by true (size_in w.program (pointee t)) (bits_of a) (bits_of n))
  told (form.difference t left right) w = do
    a ← value (told left w)
    b ← value (told right w)
    gives_word (elements_between (size_in w.program (pointee (type_of left))) (bits_of a) (bits_of b))
  told (form.assign t target e) w = do
    places ← aimed target w
    v ← value (told e w)
    save_all w (leaves_of target) places v
    gives v
  told (form.update t place change e) w = do
    f ← found place w
    old ← read w t f
    v ← value (told e w)
    saved_or_divides w t f (updated w.program t change old v)
  told (form.stepped t op place) w = do
    f ← found place w
    old ← read w t f
    let new = next_value w.program (goes_back op) t (out-Ty t) old in saved w t f new (step_gives op old new)
  told (form.zerox t place) w = do
    f ← found place w
    old ← read w t f
    saved w t f (zero_words (words_in w.program t)) old
  told (Tuple' t _ parts) w = do
    values ← told_all parts w
    gives (joined values)
  told (Call' t function receiver _ arguments) w = do
    object ← told_object receiver w
    values ← told_all arguments w
    calls w function (joined (object ++ values))
  told (CallPointer' t _ (more_of-TExpr pointer end_of-TExpr) _ arguments) w = do
    a ← value (told pointer w)
    values ← told_all arguments w
    call_found w (joined values) (named_by (pointee (type_of pointer)) (slice_index a 0) 0 w.program.functions)
  told (Print' t format _ arguments) w = do
    values ← told_all arguments w
    compose w format (arguments_of (map type_of (exprs arguments)) values) []
  told (form.terminate t status) w = do
    n ← value (told status w)
    stops w (act.Terminate (cast_signed w32 (slice_index n 0)))
  told (form.receive t chan) w = do
    c ← value (told chan w)
    words ← asks w (act.Talk (receiving w.program t (slice_index c 0) ∷ []))
    gives (fitted_to (units_in w.program t) (drop 1 words))
  told (form.send t chan e) w = do
    c ← value (told chan w)
    v ← value (told e w)
    asks w (act.Talk (sending w.program (type_of e) (slice_index c 0) v ∷ []))
    nothing
  told (form.can_receive t chan) w = do
    c ← value (told chan w)
    words ← asks w (act.CanRecv (slice_index c 0))
    gives words
  told (form.can_send t chan) w = do
    c ← value (told chan w)
    words ← asks w (act.CanSend (slice_index c 0))
    gives words
  told (form.member_of t e path) w = do
    v ← value (told e w)
    gives (part_of w.program.aggregates (type_of e) path v)
  told (form.cast t of) w = do
    v ← value (told of w)
    gives (converted w.program.aggregates (type_of of) t v)
  told (form.convert t of) w = do
    v ← value (told of w)
    gives (converted w.program.aggregates (type_of of) t v)
  told (Sequence' t _ first _ (more_of-TExpr last end_of-TExpr)) w = do
    drop_all first w
    told last w
  told (Iterator t number) w = iterator_here number

  pub found : TPlace → Ways → Task Found
  found (Local_ t number) w = local_here w number
  found (Outer t around number) w = outer_here w around number
  found (Global t number) w = give (global_found w.program number)
  found (form.pointed t pointer) w = do
    a ← value (told pointer w)
    give (Address (sum (slice_index a 0) 0))
  found (form.element t base index) w = do
    a ← value (told base w)
    n ← value (told index w)
    give (Address (stepped_by false (size_in w.program t) (bits_of a) (bits_of n)))
  found (form.member_in t of path) w = do
    f ← found of w
    at ← at_address f
    give (Address (sum at (path_offset w.program (place_type of) path)))
  found (form.pointed_member t pointer path) w = do
    a ← value (told pointer w)
    give (Address (sum (slice_index a 0) (path_offset w.program (pointee (type_of pointer)) path)))

  -- the places of a target, from left to right
  pub aimed : TTarget → Ways → Task (List Found)
  aimed (form.into place) w = do
    f ← found place w
    give (f ∷ [])
  aimed (Dropped t) w = give (Nowhere ∷ [])
  aimed (Parts' t _ parts) w = aimed_all parts w

  pub aimed_all : {m : _} → Row_of-TTarget m → Ways → Task (List Found)
  aimed_all end_of-TTarget w = give []
  aimed_all (more_of-TTarget target rest) w = do
    fs ← aimed target w
    gs ← aimed_all rest w
    give (fs ++ gs)

  -- what the object before a function's name gives to it
  pub told_object : Held-TExpr-Call-2 → Ways → Task (List (List ℕ))
  told_object None' w = give []
  told_object (Some' _ (more_of-TReceiver receiver end_of-TReceiver)) w = told_receiver receiver w

  pub told_receiver : TReceiver → Ways → Task (List (List ℕ))
  told_receiver (form.place_before place path how) w = do
    f ← found place w
    at ← at_address f
    passed_at w how (member_type w.program (place_type place) path) (sum at (path_offset w.program (place_type place) path))
  told_receiver (form.value_before e path how) w = do
    v ← value (told e w)
    passed_part w how (type_of e) path v
  told_receiver (form.pointer_before pointer path how) w = do
    a ← value (told pointer w)
    passed_at w how (member_type w.program (pointee (type_of pointer)) path) (sum (slice_index a 0) (path_offset w.program (pointee (type_of pointer)) path))

  pub told_all : {m : _} → Row_of-TExpr m → Ways → Task (List (List ℕ))
  told_all end_of-TExpr w = give []
  told_all (more_of-TExpr e rest) w = do
    v ← value (told e w)
    vs ← told_all rest w
    give (v ∷ vs)

  -- each is evaluated and dropped
  pub drop_all : {m : _} → Row_of-TExpr m → Ways → Task (Unit {0})
  drop_all end_of-TExpr w = give tt
  drop_all (more_of-TExpr e rest) w = do
    o ← told e w
    dropped (type_of e) o
    drop_all rest w
