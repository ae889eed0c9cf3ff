-- What is known of work gives that its numbers fit in words.
use Rattle.std.proofs.Common.{◌≡◌, ℕ, zero, suc, ◌+◌, ◌-◌, ◌*◌, ◌<◌, ◌≤◌, Bool, true, false, if◌then◌else◌, List, [], ◌∷◌, map, length, length-append, take, Option, Some, None, refl, sym, ap, ap₂, ◌∙◌, subst, arith, inl, inr}
use Rattle.std.specs.Prelude.{◌^◌, All, IsSome, filter, slice_get}
use Rattle.std.specs.List.{AllByRecursion}
use Rattle.std.proofs.lemmas.Bool.{and_parts, leb-true}
use Rattle.std.proofs.lemmas.List.{length-map}
use Rattle.std.proofs.lemmas.List.Elements.{All-from_recursion, All-nil, All-weaker}
use Rattle.al_base.specs.Arith.{width_of}
use Rattle.al_typed.specs.declared.ty.Ty.{Ty}
use Rattle.al_typed.specs.declared.ty.Ty.TheOpen.{Ty-F}
use Rattle.al_typed.specs.declared.ty.Ty.TheViews.{out-Ty}
use Rattle.al_typed.specs.declared.ty.Ty.TheVariants as ty
use Rattle.al_typed.specs.declared.ty.Ty.TheBlock.{hidden-the_row-Ty-0, shown-the_row-Ty-0}
use denote.Hole.Carrier.{hidden, shown, out}
use Rattle.al_typed.specs.declared.expression.Passed.{Passed}
use Rattle.al_typed.specs.declared.expression.TExpr.{TExpr, Constant, Text, Function, SizeofType, Call', Held-TExpr-Call-2, None', Some', end_of-TReceiver, more_of-TReceiver}
use Rattle.al_typed.specs.declared.expression.TPlace.{TPlace, Local as Local_, Outer, Global}
use Rattle.al_typed.specs.declared.program.Function.{Function as FunctionRow}
use Rattle.al_typed.specs.declared.program.Global.{Global as GlobalRow}
use Rattle.al_typed.specs.declared.program.Local.{Local as LocalRow}
use Rattle.al_typed.specs.declared.program.Program.{Program}
use Rattle.al_typed.specs.declared.statement.TCommunication.{TCommunication}
use Rattle.al_typed.specs.declared.statement.TCommunication.TheVariants as talk
use Rattle.al_typed.specs.declared.statement.TStmt.{TStmt, Alt', AltCase, Become, Proc, Task, Row_of-TStmt, end_of-TStmt, more_of-TStmt}
use Rattle.al_typed.specs.ExpressionForms as form
use Rattle.al_typed.specs.Layout.{in_order, size_of}
use Rattle.al_typed.specs.Typed.{type_of, place_type}
use Rattle.al_typed.specs.Sound.{HasSoundTypes, scope_of}
use Rattle.al_typed.specs.WellTyped.{IsValue, IsPlace, IsGiven, Gives, IsStatement, IsCall, Communicates, LeadsTo, alt_cases, is_sound, is_stored}
use Rattle.al_meaning.specs.Places.{block_sizes, block_size, function_at, global_place, is_shared_global, local_offset, locals_of, member_at, path_offset, shared_before, text_place}
use Rattle.al_meaning.specs.Shown.{kind_of}
use Rattle.al_meaning.specs.Items.{Work, Eval, Find, Part, Read, Save, Update, Step, Clear, PassPart, Enter, TakeBlock, StoreParameter, Scanned, Receives, Received, Sends, Allocate, Do, Bound, Iterate, AltTalk, AltWent, Item, Frame, Entering, Control, most_turns}
use Rattle.al_meaning.specs.Parts.{receiver_of, Branching, branchings}
use Rattle.al_world.specs.Turns.{Moves, Turns, Asks}
use Rattle.al_meaning.specs.Here.{Here, Next, here, pointee}
use Rattle.al_meaning.specs.Step.{private_step}
use Rattle.al_meaning.specs.Weight.{control_weight}
use Rattle.al_meaning.specs.Evaluate.{alt_exprs, communications}
use Rattle.al_meaning.specs.Execute.{cases_of}
use Rattle.al_control_values.specs.Fits.{IsSmall}
use Rattle.al_variables.specs.Members.{Leads}
use Rattle.al_walk_values.specs.Fits.{CallFits, Fits, LeadsBehind, ObjectFits, ReceiverFits}
use Rattle.al_walk_places.specs.Fits.{LocalFits, ParameterFits, PlaceFits, RowFits}
use Rattle.al_walk_calls.specs.Fits.{AreSmall, BeginFits, BlockFits, EndFits}
use Rattle.al_walk_cases.specs.Fits.{CasesFit, TalkFits, TalksFit, WentFits}
use Rattle.al_walk.specs.Works.{StatementFits, WorkFits, FrameFits, FramesFit, EnteringFits, StepFits}
use Rattle.al_walk.specs.Asks.{AskFits, TurnFits, TurnsFit, turn_from}
use Rattle.al_fits.specs.Controls.{HasRoom, In, Stands, WorkIs, IsScanned, TopIs, FramesAre, ControlIs, NextIs}
use Rattle.al_fits.proofs.Sizes.{few_words, sound_small, sound_sent}
use Rattle.al_fits.proofs.Members.{function_is, local_within, path_lies}
use Rattle.al_fits.proofs.Sound.{local_sound, target_is}
use Rattle.al_fits.proofs.Terms.{narrow, pointee_is, pointee_sound, small_value, sound_value, sound_place}
use Rattle.al_fits.proofs.Keeping.{Keeps, all_fit, step_keeps}
use Rattle.al_fits.proofs.Statements.{BranchIs, alt_branches_are}

-- ---- blocks at the start

kept_fewer : {A : Type 0} (f : A → Bool) (n : ℕ) (xs : List A) → length (filter f (take n xs)) ≤ length (filter f xs)
kept_fewer f zero xs = omega arith
kept_fewer f (suc n) [] = omega arith
kept_fewer f (suc n) (x ∷ xs) = on (f x) (kept_fewer f n xs)
  where
    on : (b : Bool) → length (filter f (take n xs)) ≤ length (filter f xs)
        → length (if b then x ∷ filter f (take n xs) else filter f (take n xs)) ≤ length (if b then x ∷ filter f xs else filter f xs)
    on true le = omega (arith, le)
    on false le = le

pub block_count : (p : Program) → length (block_sizes p) ≡ length (filter is_shared_global p.globals) + length p.strings
block_count p =
    length-append (map (λ (g : GlobalRow). size_of p.aggregates g.ty) (filter is_shared_global p.globals)) (map (λ s. length s + 1) p.strings)
    ∙ ap₂ (λ m n. m + n) (length-map (filter is_shared_global p.globals) (λ (g : GlobalRow). size_of p.aggregates g.ty)) (length-map p.strings (λ s. length s + 1))

no_block : (p : Program) → block_size p [] ≤ 1
unfolding in_order
no_block p = omega arith

-- a function that begins has small locals
pub begin_fits : (p : Program) → HasSoundTypes p → (n : ℕ) → BeginFits p n
begin_fits p W n = on (function_at p n) refl
  where
    on : (o : Option FunctionRow) → function_at p n ≡ o → AreSmall p (locals_of o)
    on None e = All-nil (λ (l : LocalRow). IsSmall p l.ty)
    on (Some f) e =
        All-weaker (λ (l : LocalRow). is_stored p.aggregates l.ty ≡ true) (λ (l : LocalRow). IsSmall p l.ty)
        (λ l s. sound_small p l.ty (and_parts _ _ s).0) f.locals (function_is p W n f e).locals

module _ (p : Program) (W : HasSoundTypes p) (R : HasRoom p) where
  global_fits : (number : ℕ) → global_place p number < 2 ^ 32
  global_fits number = R.blocks (shared_before p number) (omega (arith, block_count p, kept_fewer is_shared_global number p.globals))

  text_fits : (number : ℕ) → number < length p.strings → text_place p number < 2 ^ 32
  text_fits number lt =
      R.blocks (shared_before p (length p.globals) + number) (omega (arith, lt, block_count p, kept_fewer is_shared_global (length p.globals) p.globals))

  -- ---- functions

  local_fits : (n number : ℕ) → LocalFits p n number
  local_fits n number = on (function_at p n) refl
    where
      on : (o : Option FunctionRow) → function_at p n ≡ o → local_offset p (locals_of o) number < 2 ^ 32
      on None e = omega (arith, local_within p [] number, no_block p)
      on (Some f) e = omega (arith, local_within p f.locals number, leb-true (block_size p f.locals) (2 ^ 28) (function_is p W n f e).shared)

  block_fits : (n : ℕ) → BlockFits p n
  block_fits n = on (function_at p n) refl
    where
      on : (o : Option FunctionRow) → function_at p n ≡ o → block_size p (locals_of o) < 2 ^ 32
      on None e = omega (arith, no_block p)
      on (Some f) e = omega (arith, leb-true (block_size p f.locals) (2 ^ 28) (function_is p W n f e).shared)

  end_fits : (n : ℕ) → EndFits p (function_at p n)
  end_fits n = on (function_at p n) refl
    where
      on : (o : Option FunctionRow) → function_at p n ≡ o → EndFits p o
      on None e = tt
      on (Some f) e = sound_small p f.returns (function_is p W n f e).returns

  parameter_fits : (n number : ℕ) → ParameterFits p n number
  parameter_fits n number = on (function_at p n) refl
    where
      row : (f : FunctionRow) → function_at p n ≡ Some f → (o : Option LocalRow) → slice_get f.locals number ≡ o → RowFits p n number o
      row f e (Some l) is = (sound_small p l.ty (local_sound p W n f number l e is), local_fits n number)
      row f e None is = tt

      on : (o : Option FunctionRow) → function_at p n ≡ o → RowFits p n number (slice_get (locals_of o) number)
      on None e = tt
      on (Some f) e = row f e (slice_get f.locals number) refl

  -- ---- paths

  leads_offset : (path : List ℕ) (t u : Ty) → LeadsTo p.aggregates path t u → is_sound p.aggregates t ≡ true → path_offset p t path < 2 ^ 32
  leads_offset path t u h s =
      let lies = (path_lies p W path t h.0 h.1.0).0 in
      let small = sound_small p t s in
      let same : path_offset p t path ≡ h.0.at = ap member_at h.1.0 in
      omega arith

  leads_fit : (path : List ℕ) (t u : Ty) → LeadsTo p.aggregates path t u → is_sound p.aggregates t ≡ true → Leads p t path
  leads_fit path t u h s = (subst IsSome (sym h.1.0) refl, leads_offset path t u h s)

  out_pointer : (t : Ty) → out-Ty (ty.Pointer t) ≡ Ty-F.Pointer t
  unfolding out-Ty out hidden-the_row-Ty-0 shown-the_row-Ty-0 hidden shown
  out_pointer t = refl

  -- ---- expressions

  place_object : (place : TPlace) (path : List ℕ) (how : Passed) → In p (λ s. (given : List Ty) × Gives s (form.place_before place path how) given)
      → ReceiverFits p (form.place_before place path how)
  unfolding Gives
  place_object place path how x = let v = x.term.1 in leads_fit path (place_type place) v.0 v.1.1.1.0 (sound_place p W place (narrow x (λ s v. v.1.1.0)))

  pointer_object : (pointer : TExpr) (path : List ℕ) (how : Passed) → In p (λ s. (given : List Ty) × Gives s (form.pointer_before pointer path how) given)
      → ReceiverFits p (form.pointer_before pointer path how)
  unfolding Gives
  pointer_object pointer path how x =
      let v = x.term.1 in
      let form : out-Ty (type_of pointer) ≡ Ty-F.Pointer v.0 = ap out-Ty v.1.1.1.0 ∙ out_pointer v.0 in
      subst (λ f. LeadsBehind p f path) (sym form)
      (leads_fit path v.0 v.1.0 v.1.1.1.1.0 (target_is p W (type_of pointer) v.0 v.1.1.1.0 (sound_value p W pointer (narrow x (λ s v. v.1.1.1.0)))))

  object_fits : (o : Held-TExpr-Call-2) → In p (λ s. (given : List Ty) × IsGiven s o given) → ObjectFits p (receiver_of o)
  unfolding IsGiven
  object_fits None' x = tt
  object_fits (Some' _ (more_of-TReceiver (form.place_before place path how) end_of-TReceiver)) x = place_object place path how x
  object_fits (Some' _ (more_of-TReceiver (form.value_before value path how) end_of-TReceiver)) x = tt
  object_fits (Some' _ (more_of-TReceiver (form.pointer_before pointer path how) end_of-TReceiver)) x = pointer_object pointer path how x

  call_fits : (e : TExpr) → In p (λ s. IsValue s e) → CallFits p e
  unfolding IsValue
  call_fits (Call' t function receiver _ arguments) x = object_fits receiver (narrow x (λ s v. (v.0, v.1.0)))
  call_fits _ x = tt

  kind_is : (t : Ty) (k : _) → t ≡ ty.Integer k → kind_of t ≡ k
  unfolding kind_of out-Ty out
  kind_is t k e = ap kind_of e

  stored_small : (t : Ty) → is_stored p.aggregates t ≡ true → IsSmall p t
  stored_small t h = sound_small p t (and_parts _ _ h).0

  pointee_small : (t : Ty) → is_sound p.aggregates t ≡ true → IsSmall p (pointee t)
  pointee_small t h = sound_small p (pointee t) (pointee_sound p t h)

  value_fits : (e : TExpr) → In p (λ s. IsValue s e) → Fits p e
  unfolding IsValue
  value_fits (Constant t bits) x = let v = x.term in subst (λ k. bits < 2 ^ width_of k) (sym (kind_is t v.0 v.1.0)) v.1.1
  value_fits (Text t number) x = text_fits number x.term.1
  value_fits (Function t number) x = omega (arith, x.term.1, R.functions)
  value_fits (SizeofType t of) x = stored_small of x.term.1
  value_fits (form.sizeof_place t place) x = stored_small (place_type place) x.term.1.1
  value_fits (form.sizeof_value t value) x = stored_small (type_of value) x.term.1.1
  value_fits (form.movement t how pointer count) x = pointee_small t (sound_value p W (form.movement t how pointer count) x)
  value_fits (form.difference t left right) x = pointee_small (type_of left) (sound_value p W left (narrow x (λ s v. v.1.1.0)))
  value_fits (Call' t function receiver shape arguments) x = call_fits (Call' t function receiver shape arguments) x
  value_fits _ x = tt

  place_fits : (n : ℕ) (place : TPlace) → In p (λ s. IsPlace s place) → PlaceFits p n place
  unfolding IsPlace
  place_fits n (Local_ t number) x = local_fits n number
  place_fits n (Outer t around number) x = local_fits _ number
  place_fits n (Global t number) x = global_fits number
  place_fits n (form.pointed t pointer) x = tt
  place_fits n (form.element t base index) x = sound_small p t (sound_place p W (form.element t base index) x)
  place_fits n (form.member_in t of path) x = leads_offset path (place_type of) t x.term.1.1 (sound_place p W of (narrow x (λ s v. v.0)))
  place_fits n (form.pointed_member t pointer path) x =
      let v = x.term in
      subst (λ u. path_offset p u path < 2 ^ 32) (sym (pointee_is (type_of pointer) v.0 v.1.1.0))
      (leads_offset path v.0 t v.1.1.1 (target_is p W (type_of pointer) v.0 v.1.1.0 (sound_value p W pointer (narrow x (λ s v. v.1.0)))))

  -- ---- statements

  calls_fit : (calls : List TExpr) → In p (λ s. All (IsCall s) calls) → All (CallFits p) calls
  calls_fit calls x =
      All-weaker (IsCall (scope_of p x.iterators)) (CallFits p)
      (λ e v. call_fits e (record { iterators = x.iterators; term = v.0 })) calls x.term

  statement_fits : (s : TStmt) → In p (Stands s) → StatementFits p s
  unfolding IsStatement
  statement_fits (Become _ call) x = call_fits call (narrow x (λ s v. v.1.0.0.0))
  statement_fits (Proc _ calls) x = calls_fit calls (narrow x (λ s v. v.1.0))
  statement_fits (Task _ calls) x = calls_fit calls (narrow x (λ s v. v.1.0))
  statement_fits _ x = tt

  channel_small : (chan : TExpr) (t : Ty) (capacity : ℕ) → type_of chan ≡ ty.Chan t capacity → In p (λ s. IsValue s chan) → IsSmall p t
  channel_small chan t capacity e x =
      sound_small p t (sound_sent p.aggregates t capacity (sym (ap (is_sound p.aggregates) e) ∙ sound_value p W chan x))

  talk_fits : (c : TCommunication) → In p (λ s. Communicates s c) → TalkFits p c
  talk_fits (talk.Receive t chan) x = few_words p t (channel_small chan t x.term.1.0 x.term.1.1 (narrow x (λ s v. v.0)))
  talk_fits (talk.ReceiveInto t target chan) x = few_words p t (channel_small chan t x.term.1.1.0.0 x.term.1.1.0.1 (narrow x (λ s v. v.1.0)))
  talk_fits (talk.Send chan value) x = few_words p (type_of value) (small_value p W value (narrow x (λ s v. v.1.0)))

  went_fits : (c : TCommunication) → In p (λ s. Communicates s c) → WentFits p c
  went_fits (talk.Receive t chan) x = tt
  went_fits (talk.ReceiveInto t target chan) x = channel_small chan t x.term.1.1.0.0 x.term.1.1.0.1 (narrow x (λ s v. v.1.0))
  went_fits (talk.Send chan value) x = tt

  each_talk : (Q : TCommunication → Type 0) → ((c : TCommunication) → In p (λ s. Communicates s c) → Q c) → (bs : List Branching)
      → AllByRecursion (BranchIs p) bs → AllByRecursion Q (communications bs)
  each_talk Q f [] x = tt
  each_talk Q f (b ∷ bs) x = (f b.communication x.0.0, each_talk Q f bs x.1)

  few_exprs : {m : _} (row : Row_of-TStmt m) → length (alt_exprs (communications (branchings row))) ≤ 2 * alt_cases row
  few_exprs end_of-TStmt = omega arith
  few_exprs (more_of-TStmt (AltCase (talk.Receive t chan)) rest) = omega (arith, few_exprs rest)
  few_exprs (more_of-TStmt (AltCase (talk.ReceiveInto t target chan)) rest) = omega (arith, few_exprs rest)
  few_exprs (more_of-TStmt (AltCase (talk.Send chan value)) rest) = omega (arith, few_exprs rest)
  few_exprs (more_of-TStmt s rest) = few_exprs rest

  few_talks : (s : TStmt) → In p (Stands s) → length (alt_exprs (communications (cases_of s))) < 2 ^ 64
  unfolding IsStatement
  few_talks (Alt' line shape body) x = omega (arith, few_exprs body, x.term.1.0.1.0)
  few_talks _ x = omega arith

  talks_fit : (s : TStmt) → In p (Stands s) → TalksFit p s
  talks_fit s x =
      (All-from_recursion (TalkFits p) (communications (cases_of s)) (each_talk (TalkFits p) talk_fits (cases_of s) (alt_branches_are p s x)), few_talks s x)

  cases_fit : (s : TStmt) → In p (Stands s) → CasesFit p s
  cases_fit s x = All-from_recursion (WentFits p) (communications (cases_of s)) (each_talk (WentFits p) went_fits (cases_of s) (alt_branches_are p s x))

-- ---- work

pub work_fits : (w : Work) (h : Here) → HasSoundTypes h.program → HasRoom h.program → WorkIs h.program w → WorkFits h w
work_fits (Eval e) h W R x = value_fits h.program W R e x
work_fits (Find place) h W R x = place_fits h.program W R h.frame.function place x
work_fits (Part t path) h W R x = x
work_fits (Read t) h W R x = x
work_fits (Save t words place) h W R x = x
work_fits (Update t change) h W R x = x.1
work_fits (Step t op) h W R x = x.1
work_fits (Clear t) h W R x = few_words h.program t x
work_fits (PassPart how t path) h W R x = x
work_fits (Enter function words) h W R x = begin_fits h.program W function
work_fits TakeBlock h W R x = block_fits h.program W R h.frame.function
work_fits (StoreParameter number words) h W R x = parameter_fits h.program W R h.frame.function number
work_fits (Scanned at pieces arguments text) h W R x = absurd x
work_fits (Receives t) h W R x = few_words h.program t x
work_fits (Received t) h W R x = x
work_fits (Sends t) h W R x = few_words h.program t x
work_fits (Allocate t) h W R x = x.0
work_fits (Do s) h W R x = statement_fits h.program W R s x
work_fits (Bound count value) h W R x = omega (arith, x.0)
work_fits (Iterate number bounds value) h W R x = omega (arith, x.0)
work_fits (AltTalk s) h W R x = talks_fit h.program W R s x
work_fits (AltWent s) h W R x = cases_fit h.program W R s x
work_fits _ h W R x = tt

scanned_fits : (w : Work) (h : Here) → IsScanned h.frame.found w → WorkFits h w
scanned_fits (Scanned at pieces arguments text) h x = x
scanned_fits _ h x = absurd x

-- ---- one step, and all on the way to an action

module _ (p : Program) (W : HasSoundTypes p) (R : HasRoom p) where
  frame_fits : (items : List Item) (f : Frame) (below : List Frame) (privates : List ℕ) → TopIs p f items → FrameFits p items f below privates
  frame_fits [] f below privates K = end_fits p W R f.function
  frame_fits (i ∷ items) f below privates K = elim K.0 [
    | inl x ↦ work_fits i.work (here p i.line (record f { items = items }) below privates) W R x
    | inr x ↦ scanned_fits i.work (here p i.line (record f { items = items }) below privates) x
  ]

  entering_fits : (c : Control) (e : Option Entering) (frames : List Frame) (privates : List ℕ) → c.frames ≡ frames → FramesAre p e frames → EnteringFits p c e privates
  entering_fits c (Some e) frames privates is K = begin_fits p W e.function
  entering_fits c None [] privates is K = subst (λ fs. FramesFit p fs privates) (sym is) tt
  entering_fits c None (f ∷ below) privates is K = subst (λ fs. FramesFit p fs privates) (sym is) (frame_fits f.items f below privates K.0)

  pub step_fits : (c : Control) (privates : List ℕ) → ControlIs p c → StepFits p c privates
  step_fits c privates K = entering_fits c c.entering c.frames privates refl K

  next_keeps : (x : Next) → NextIs p x → Keeps (private_step p) (control_weight p) (StepFits p) (ControlIs p) x
  next_keeps (Moves c u) k = k
  next_keeps (Turns line c u) k = k
  next_keeps (Asks a line c u) k = tt

  -- all private steps of a task fit, up to what it asks
  pub asks_fit : (c : Control) (u : List ℕ) → ControlIs p c → AskFits p c u
  unfolding AskFits TurnFits TurnsFit turn_from
  asks_fit c u K =
      all_fit (private_step p) (control_weight p) (StepFits p) (ControlIs p) step_fits (λ c u k. next_keeps (private_step p c u) (step_keeps p W R c u k))
      (most_turns - 1) c u K
