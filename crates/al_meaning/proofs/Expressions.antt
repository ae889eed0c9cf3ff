-- A control does what the meaning says of an expression.
use Rattle.std.proofs.Common.{◌≡◌, ℕ, zero, suc, ◌+◌, ◌^◌, List, [], ◌∷◌, ◌++◌, length, map, Option, Some, None, refl, sym, ap, ◌∙◌, arith, length-append}
use Rattle.std.proofs.lemmas.List.{length-map}
use Rattle.std.proofs.lemmas.List.Sums.{sum_by-cons}
use Rattle.std.specs.Prelude.{true, false, not, nat_lt, slice_index, sum_by}
use Rattle.std.specs.List.{flat_map}
use Rattle.al_base.specs.declared.trap.Trap.TheVariants as trap
use Rattle.al_typed.specs.declared.expression.Logic.TheVariants as logic
use Rattle.al_typed.specs.declared.expression.Movement.TheVariants as movement
use Rattle.al_typed.specs.declared.expression.PrintPiece.{PrintPiece}
use Rattle.al_typed.specs.declared.expression.PrintPiece.TheVariants as print
use Rattle.al_typed.specs.declared.expression.TExpr.{TExpr, Constant, Text, Nil, Function, SizeofType, Tuple', Call', CallPointer', Print', Sequence', Iterator, Held-TExpr-Call-2, None', Some', Row_of-TExpr, end_of-TExpr, more_of-TExpr, Row_of-TTarget, end_of-TTarget, more_of-TTarget, end_of-TReceiver, more_of-TReceiver}
use Rattle.al_typed.specs.declared.expression.TPlace.{TPlace, Local as Local_, Outer, Global}
use Rattle.al_typed.specs.declared.expression.TTarget.{TTarget, Dropped, Parts'}
use Rattle.al_typed.specs.declared.expression.TReceiver.{TReceiver}
use Rattle.al_typed.specs.declared.program.Program.{Program}
use Rattle.al_typed.specs.ExpressionForms as form
use Rattle.al_typed.specs.Types.{is_void}
use Rattle.al_typed.specs.Typed.{type_of}
use Rattle.al_meaning.specs.Words.{is_zero, truth, sum, operated}
use Rattle.al_meaning.specs.Shown.{most_text, written}
use Rattle.al_meaning.specs.Items.{Found, Words, Nowhere, Argument, Work, Eval, Find, Aim, Truth, Join, Invoke, InvokePointer, Gather, Compose, Scan, Give, Item, Frame, Control}
use Rattle.al_meaning.specs.Parts.{item, exprs, targets, receiver_of}
use Rattle.al_meaning.specs.Here.{pointee}
use Rattle.al_meaning.specs.Calls.{with_given, frame_slots, enters, evaluated, object_work, object_count, joined, invokes, invokes_found}
use Rattle.al_meaning.specs.Evaluate.{and_dropped, leaves_of, leaves_of_all, composes, updated, scanned}
use Rattle.al_meaning.specs.Step.{private_step}
use Rattle.al_meaning.specs.Tasks.{Env, Still, Outcome, Rest, Task, ◌>>=◌, Ways, calls}
use Rattle.al_meaning.specs.Tasks as task
use Rattle.al_meaning.specs.Told.{value, gives, told, found, aimed, aimed_all, told_object, told_receiver, told_all, drop_all, scan, scan_byte, compose, composed, call_found}
use Rattle.al_meaning.specs.Meant.{Given}
use Rattle.al_meaning.proofs.Does.{Does, stuck, one, asks, asks_words, one_word, stops, turns, branches}
use Rattle.al_meaning.proofs.Places.{stacked, pushed, stacked_both, pushed_both, values_taken, places_taken, frame, at, given, place, slots_here, DoesIt, moved, val, addressed, dropped_does, read_does, saves_do, quotient_does, saved_does, updated_does, passed_at_does, passed_part_does}

-- calls do what a function does that begins above frames with so many words on the stack
pub record CallsDo (p : Program) (call : ℕ → List ℕ → Still → Given → Outcome) (slots : ℕ) : Type 0 where
  pub by : (function : ℕ) (words : List ℕ) {c : Control} (d : Control) (frames : List Frame) (s : Still) (next : Given)
      → sum_by (frame_slots p) frames ≡ slots
      → private_step p c s.privates ≡ enters p function words d frames s.privates
      → ((o : Option (List ℕ)) (s : Still) → Does p (next o s) (record { entering = None; frames = with_given o frames }) s)
      → Does p (call function words s next) c s

module _ (w : Ways) (below : List Frame) where
  abbrev At : Env → List Item → List Found → Control
  At = at w below

  abbrev After : Option (List ℕ) → Env → List Item → List Found → Control
  After = given w below

  abbrev D : Outcome → Control → Still → Type 0
  D = DoesIt w below

  abbrev it : Work → Item
  it = item w.line

  -- ---- print

  composed_does : {items : List Item} {fs : List Found} {c : Control} (pieces : List PrintPiece) (arguments : List Argument) (rest : List ℕ → Task (Option (List ℕ))) (text bytes : List ℕ) (env : Env) (s : Still) (next : Option (List ℕ) → Rest)
      → private_step w.program c s.privates ≡ composes (place w below env items fs s) pieces arguments text bytes
      → D (rest (text ++ bytes) env s next) (At env (it (Compose pieces arguments (text ++ bytes)) ∷ items) fs) s
      → D (composed w rest text bytes env s next) c s
  composed_does pieces arguments rest text bytes env s next e h = branches (task.traps w trap.Print) (rest (text ++ bytes)) next (nat_lt most_text (length text + length bytes)) e (λ e. stops _ _ e refl) (λ e. one e h)

  scanned_does : {items : List Item} {fs : List Found} {c : Control} (pieces : List PrintPiece) (arguments : List Argument) (again : ℕ → List ℕ → Task (Option (List ℕ))) (rest : List ℕ → Task (Option (List ℕ))) (x : ℕ) (text : List ℕ) (b : ℕ) (env : Env) (s : Still) (next : Option (List ℕ) → Rest)
      → private_step w.program c s.privates ≡ scanned b x pieces arguments text (place w below env items fs s)
      → D (rest text env s next) (At env (it (Compose pieces arguments text) ∷ items) fs) s
      → ((x : ℕ) (text : List ℕ) → D (again x text env s next) (At env (it (Scan x pieces arguments text) ∷ items) fs) s)
      → D (scan_byte w again rest x text b env s next) c s
  scanned_does pieces arguments again rest x text zero env s next e h more = one e h
  scanned_does pieces arguments again rest x text (suc b) env s next e h more =
      branches (again (sum x 1) (text ++ suc b ∷ [])) (task.traps w trap.Print) next (nat_lt (length text) most_text) e (λ e. one e (more _ _)) (λ e. stops _ _ e refl)

  scan_does : {items : List Item} {fs : List Found} (n : ℕ) (pieces : List PrintPiece) (arguments : List Argument) (rest : List ℕ → Task (Option (List ℕ))) (x : ℕ) (text : List ℕ) (env : Env) (s : Still) (next : Option (List ℕ) → Rest)
      → ((text : List ℕ) (s : Still) → D (rest text env s next) (At env (it (Compose pieces arguments text) ∷ items) fs) s)
      → D (scan n w rest x text env s next) (At env (it (Scan x pieces arguments text) ∷ items) fs) s
  scan_does zero pieces arguments rest x text env s next h = stuck
  scan_does (suc n) pieces arguments rest x text env s next h = asks_words _ refl refl (one_word (256 ^ 1)) (λ v s.
      scanned_does pieces arguments (scan n w rest) rest x text (slice_index v 0) env s next refl (h text s) (λ x text. scan_does n pieces arguments rest x text env s next h))

  module _ {items : List Item} {fs : List Found} (next : Option (List ℕ) → Rest) (h : (env : Env) (s : Still) → D (next None env s) (At env items fs) s) where
    compose_does : (pieces : List PrintPiece) (arguments : List Argument) (text : List ℕ) (env : Env) (s : Still)
        → D (compose w pieces arguments text env s next) (At env (it (Compose pieces arguments text) ∷ items) fs) s
    compose_does [] arguments text env s = asks _ refl refl (λ answer s. one refl (h env s))
    compose_does (print.Byte b ∷ pieces) arguments text env s = composed_does pieces arguments (compose w pieces arguments) text (b ∷ []) env s next refl (compose_does pieces arguments _ env s)
    compose_does (print.Percent ∷ pieces) arguments text env s = composed_does pieces arguments (compose w pieces arguments) text (37 ∷ []) env s next refl (compose_does pieces arguments _ env s)
    compose_does (print.Text ∷ pieces) (a ∷ arguments) text env s = one refl (scan_does (most_text + 2) pieces arguments (compose w pieces arguments) _ text env s next (λ text s. compose_does pieces arguments text env s))
    compose_does (verb ∷ pieces) (a ∷ arguments) text env s = composed_does pieces arguments (compose w pieces arguments) text (written verb a.ty a.words) env s next refl (compose_does pieces arguments _ env s)
    compose_does (verb ∷ pieces) [] text env s = stuck

  -- ---- the second part of `&&` and `||`

  truth_does : {items : List Item} {fs : List Found} (next : Option (List ℕ) → Rest)
      → ((o : Option (List ℕ)) (env : Env) (s : Still) → D (next o env s) (After o env items fs) s)
      → (v : List ℕ) (env : Env) (s : Still) → D (next (Some (truth (not (is_zero v)))) env s) (At env (it Truth ∷ items) (Words v ∷ fs)) s
  truth_does next h v env s = one refl (h (Some (truth (not (is_zero v)))) env s)

  module _ (calls_do : CallsDo w.program w.call (slots_here w below)) where
    call_does : {items : List Item} {fs : List Found} {c : Control} (function : ℕ) (words : List ℕ) (env : Env) (s : Still) (next : Option (List ℕ) → Rest)
        → private_step w.program c s.privates ≡ invokes (place w below env items fs s) function words
        → ((o : Option (List ℕ)) (env : Env) (s : Still) → D (next o env s) (After o env items fs) s)
        → D (calls w function words env s next) c s
    call_does {items} {fs} function words env s next e h =
        turns _ e (λ s. calls_do.by function words _ (frame w below env items fs ∷ below) s _ (sum_by-cons (frame_slots w.program) (frame w below env items fs) below) refl (λ o s. h o env s))

    found_call_does : {items : List Item} {fs : List Found} {c : Control} (words : List ℕ) (o : Option ℕ) (env : Env) (s : Still) (next : Option (List ℕ) → Rest)
        → private_step w.program c s.privates ≡ invokes_found (place w below env items fs s) words o
        → ((o : Option (List ℕ)) (env : Env) (s : Still) → D (next o env s) (After o env items fs) s)
        → D (call_found w words o env s next) c s
    found_call_does words (Some function) env s next e h = call_does function words env s next e h
    found_call_does words None env s next e h = stops _ _ e refl

    arguments_do : {items : List Item} {fs : List Found} (count : ℕ) (os vs : List (List ℕ)) (env : Env) (s : Still) (function : ℕ) (next : Option (List ℕ) → Rest)
        → length os + length vs ≡ count
        → ((o : Option (List ℕ)) (env : Env) (s : Still) → D (next o env s) (After o env items fs) s)
        → D (calls w function (joined (os ++ vs)) env s next) (At env (it (Invoke function count) ∷ items) (pushed vs (pushed os fs))) s
    arguments_do {items} {fs} count os vs env s function next e h =
        moved w below _ (pushed_both os vs fs) (call_does function (joined (os ++ vs)) env s next
        (values_taken count (os ++ vs) fs (place w below env items [] s) _ (length-append os vs ∙ e)) h)

    mutual
      pub expr_does : (e : TExpr) {items : List Item} {fs : List Found} (env : Env) (s : Still) (next : Option (List ℕ) → Rest)
          → ((o : Option (List ℕ)) (env : Env) (s : Still) → D (next o env s) (After o env items fs) s)
          → D (told e w env s next) (At env (it (Eval e) ∷ items) fs) s
      expr_does (Constant t bits) env s next h = one refl (h _ env s)
      expr_does (Text t number) env s next h = one refl (h _ env s)
      expr_does (Nil t) env s next h = one refl (h _ env s)
      expr_does (Function t number) env s next h = one refl (h _ env s)
      expr_does (form.load t of) env s next h = one refl (place_does of env s _ (λ f env s. read_does w below t f env s _ (λ v env s. h (Some v) env s)))
      expr_does (form.decay t of) env s next h = one refl (place_does of env s _ (addressed w below _ (λ x env s. one refl (h _ env s))))
      expr_does (form.address t of) env s next h = one refl (place_does of env s _ (addressed w below _ (λ x env s. one refl (h _ env s))))
      expr_does (SizeofType t of) env s next h = one refl (h _ env s)
      expr_does (form.sizeof_place t of) env s next h = one refl (h _ env s)
      expr_does (form.sizeof_value t of) env s next h = one refl (h _ env s)
      expr_does (form.unary t op of) env s next h = one refl (expr_does of env s _ (val w below _ (λ a env s. one refl (h _ env s))))
      expr_does (form.negation t of) env s next h = one refl (expr_does of env s _ (val w below _ (λ a env s. one refl (h _ env s))))
      expr_does (form.binary t op kind left right) env s next h =
          one refl (expr_does left env s _ (val w below _ (λ a env s. expr_does right env s _ (val w below _ (λ b env s. quotient_does w below next h (operated op kind a b) env s refl)))))
      expr_does (form.logical t logic.And left right) env s next h =
          one refl (expr_does left env s _ (val w below _ (λ a env s.
          branches (gives (truth false)) (value (told right w) >>= (λ b. gives (truth (not (is_zero b))))) next (is_zero a) refl
          (λ q. one q (h _ env s)) (λ q. one q (expr_does right env s _ (val w below _ (truth_does next h)))))))
      expr_does (form.logical t logic.Or left right) env s next h =
          one refl (expr_does left env s _ (val w below _ (λ a env s.
          branches (value (told right w) >>= (λ b. gives (truth (not (is_zero b))))) (gives (truth true)) next (is_zero a) refl
          (λ q. one q (expr_does right env s _ (val w below _ (truth_does next h)))) (λ q. one q (h _ env s)))))
      expr_does (form.movement t movement.Forward pointer count) env s next h =
          one refl (expr_does pointer env s _ (val w below _ (λ a env s. expr_does count env s _ (val w below _ (λ b env s. one refl (h _ env s))))))
      expr_does (form.movement t movement.CountFirst pointer count) env s next h =
          one refl (expr_does count env s _ (val w below _ (λ b env s. expr_does pointer env s _ (val w below _ (λ a env s. one refl (h _ env s))))))
      expr_does (form.movement t movement.Back pointer count) env s next h =
          one refl (expr_does pointer env s _ (val w below _ (λ a env s. expr_does count env s _ (val w below _ (λ b env s. one refl (h _ env s))))))
      expr_does (form.difference t left right) env s next h =
          one refl (expr_does left env s _ (val w below _ (λ a env s. expr_does right env s _ (val w below _ (λ b env s. one refl (h _ env s))))))
      expr_does (form.assign t target e) {items} {fs} env s next h =
          one refl (aim_does target env s _ (λ places env s l. expr_does e env s _ (val w below _ (λ v env s.
          one (places_taken (length (leaves_of target)) places fs (place w below env items [] s) _ l)
          (saves_do w below items (Give v ∷ []) (leaves_of target) places v env s _ (λ env s. one refl (h (Some v) env s)))))))
      expr_does (form.update t of change e) env s next h =
          one refl (place_does of env s _ (λ f env s. one refl (read_does w below t f env s _ (λ old env s. expr_does e env s _ (val w below _ (λ v env s. updated_does w below next h t f (updated w.program t change old v) env s refl))))))
      expr_does (form.stepped t op of) env s next h =
          one refl (place_does of env s _ (λ f env s. one refl (read_does w below t f env s _ (λ old env s. saved_does w below next h t f _ _ env s refl))))
      expr_does (form.zerox t of) env s next h =
          one refl (place_does of env s _ (λ f env s. one refl (read_does w below t f env s _ (λ old env s. saved_does w below next h t f _ _ env s refl))))
      expr_does (Tuple' t _ parts) {items} {fs} env s next h =
          one refl (all_do parts (Join (length (exprs parts)) ∷ []) items env s _ (λ vs env s l.
          one (values_taken (length (exprs parts)) vs fs (place w below env items [] s) _ l) (h _ env s)))
      expr_does (Call' t function receiver _ arguments) {items} {fs} env s next h =
          let n : ℕ = object_count (receiver_of receiver) + length (exprs arguments) in
          one refl (object_does receiver (evaluated (exprs arguments)) (Invoke function n ∷ []) items env s _ (λ os env s l.
          all_do arguments (Invoke function n ∷ []) items env s _ (λ vs env s m.
          arguments_do n os vs env s function next (omega (arith, l, m)) h)))
      expr_does (CallPointer' t _ (more_of-TExpr pointer end_of-TExpr) _ arguments) {items} {fs} env s next h =
          one refl (expr_does pointer env s _ (val w below _ (λ a env s.
          all_do arguments (InvokePointer (pointee (type_of pointer)) (length (exprs arguments)) ∷ []) items env s _ (λ vs env s l.
          found_call_does (joined vs) _ env s next (values_taken (length (exprs arguments)) vs (Words a ∷ fs) (place w below env items [] s) _ l) h))))
      expr_does (Print' t format _ arguments) {items} {fs} env s next h =
          one refl (all_do arguments (Gather format (map type_of (exprs arguments)) ∷ []) items env s _ (λ vs env s l.
          one (values_taken (length (map type_of (exprs arguments))) vs fs (place w below env items [] s) _ (l ∙ sym (length-map (exprs arguments) type_of)))
          (compose_does next (h None) format _ [] env s)))
      expr_does (form.terminate t status) env s next h = one refl (expr_does status env s _ (val w below _ (λ v env s. stops _ _ refl refl)))
      expr_does (form.receive t chan) env s next h =
          one refl (expr_does chan env s _ (val w below _ (λ c env s. asks_words _ refl refl (λ words c. refl) (λ v s. one refl (h _ env s)))))
      expr_does (form.send t chan e) env s next h =
          one refl (expr_does chan env s _ (val w below _ (λ c env s. expr_does e env s _ (val w below _ (λ v env s. asks_words _ refl refl (λ words c. refl) (λ v s. one refl (h None env s)))))))
      expr_does (form.can_receive t chan) env s next h =
          one refl (expr_does chan env s _ (val w below _ (λ c env s. asks_words _ refl refl (one_word 2) (λ v s. one refl (h (Some v) env s)))))
      expr_does (form.can_send t chan) env s next h =
          one refl (expr_does chan env s _ (val w below _ (λ c env s. asks_words _ refl refl (one_word 2) (λ v s. one refl (h (Some v) env s)))))
      expr_does (form.member_of t e path) env s next h = one refl (expr_does e env s _ (val w below _ (λ v env s. one refl (h _ env s))))
      expr_does (form.cast t of) env s next h = one refl (expr_does of env s _ (val w below _ (λ v env s. one refl (h _ env s))))
      expr_does (form.convert t of) env s next h = one refl (expr_does of env s _ (val w below _ (λ v env s. one refl (h _ env s))))
      expr_does (Sequence' t _ first _ (more_of-TExpr last end_of-TExpr)) env s next h =
          one refl (dropped_do first (Eval last ∷ []) _ env s _ (λ env s. expr_does last env s next h))
      expr_does (Iterator t number) env s next h = one refl (h _ env s)

      pub place_does : (of : TPlace) {items : List Item} {fs : List Found} (env : Env) (s : Still) (next : Found → Rest)
          → ((f : Found) (env : Env) (s : Still) → D (next f env s) (At env items (f ∷ fs)) s)
          → D (found of w env s next) (At env (it (Find of) ∷ items) fs) s
      place_does (Local_ t number) env s next h = one refl (h _ env s)
      place_does (Outer t around number) env s next h = one refl (h _ env s)
      place_does (Global t number) env s next h = one refl (h _ env s)
      place_does (form.pointed t pointer) env s next h = one refl (expr_does pointer env s _ (val w below _ (λ a env s. one refl (h _ env s))))
      place_does (form.element t base index) env s next h =
          one refl (expr_does base env s _ (val w below _ (λ a env s. expr_does index env s _ (val w below _ (λ b env s. one refl (h _ env s))))))
      place_does (form.member_in t of path) env s next h = one refl (place_does of env s _ (addressed w below _ (λ x env s. one refl (h _ env s))))
      place_does (form.pointed_member t pointer path) env s next h = one refl (expr_does pointer env s _ (val w below _ (λ a env s. one refl (h _ env s))))

      pub aim_does : (target : TTarget) {items : List Item} {fs : List Found} (env : Env) (s : Still) (next : List Found → Rest)
          → ((places : List Found) (env : Env) (s : Still) → length places ≡ length (leaves_of target) → D (next places env s) (At env items (stacked places fs)) s)
          → D (aimed target w env s next) (At env (it (Aim target) ∷ items) fs) s
      aim_does (form.into of) env s next h = one refl (place_does of env s _ (λ f env s. h (f ∷ []) env s refl))
      aim_does (Dropped t) env s next h = one refl (h (Nowhere ∷ []) env s refl)
      aim_does (Parts' t _ parts) env s next h = one refl (aims_do parts _ env s next h)

      aims_do : {m : _} (row : Row_of-TTarget m) (items : List Item) {fs : List Found} (env : Env) (s : Still) (next : List Found → Rest)
          → ((places : List Found) (env : Env) (s : Still) → length places ≡ length (leaves_of_all row) → D (next places env s) (At env items (stacked places fs)) s)
          → D (aimed_all row w env s next) (At env (map it (map Aim (targets row)) ++ items) fs) s
      aims_do end_of-TTarget items env s next h = h [] env s refl
      aims_do (more_of-TTarget target rest) items {fs} env s next h =
          aim_does target env s _ (λ front env s l. aims_do rest items env s _ (λ back env s m.
          moved w below _ (stacked_both front back fs) (h (front ++ back) env s (omega (arith, l, m, length-append front back, length-append (leaves_of target) (leaves_of_all rest))))))

      pub object_does : (receiver : Held-TExpr-Call-2) (mid more : List Work) (items : List Item) {fs : List Found} (env : Env) (s : Still) (next : List (List ℕ) → Rest)
          → ((vs : List (List ℕ)) (env : Env) (s : Still) → length vs ≡ object_count (receiver_of receiver) → D (next vs env s) (At env (map it (mid ++ more) ++ items) (pushed vs fs)) s)
          → D (told_object receiver w env s next) (At env (map it (object_work w.program (receiver_of receiver) ++ mid ++ more) ++ items) fs) s
      object_does None' mid more items env s next h = h [] env s refl
      object_does (Some' _ (more_of-TReceiver receiver end_of-TReceiver)) mid more items env s next h = receiver_does receiver mid more items env s next h

      receiver_does : (receiver : TReceiver) (mid more : List Work) (items : List Item) {fs : List Found} (env : Env) (s : Still) (next : List (List ℕ) → Rest)
          → ((vs : List (List ℕ)) (env : Env) (s : Still) → length vs ≡ object_count (Some receiver) → D (next vs env s) (At env (map it (mid ++ more) ++ items) (pushed vs fs)) s)
          → D (told_receiver receiver w env s next) (At env (map it (object_work w.program (Some receiver) ++ mid ++ more) ++ items) fs) s
      receiver_does (form.place_before of path how) mid more items env s next h =
          place_does of env s _ (addressed w below _ (λ x env s. passed_at_does w below how _ _ env s next refl h))
      receiver_does (form.value_before e path how) mid more items env s next h =
          expr_does e env s _ (val w below _ (λ v env s. passed_part_does w below how _ _ _ env s next refl h))
      receiver_does (form.pointer_before pointer path how) mid more items env s next h =
          expr_does pointer env s _ (val w below _ (λ a env s. passed_at_does w below how _ _ env s next refl h))

      pub all_do : {m : _} (row : Row_of-TExpr m) (more : List Work) (items : List Item) {fs : List Found} (env : Env) (s : Still) (next : List (List ℕ) → Rest)
          → ((vs : List (List ℕ)) (env : Env) (s : Still) → length vs ≡ length (exprs row) → D (next vs env s) (At env (map it more ++ items) (pushed vs fs)) s)
          → D (told_all row w env s next) (At env (map it (evaluated (exprs row) ++ more) ++ items) fs) s
      all_do end_of-TExpr more items env s next h = h [] env s refl
      all_do (more_of-TExpr e rest) more items env s next h =
          expr_does e env s _ (val w below _ (λ v env s. all_do rest more items env s _ (λ vs env s l. h (v ∷ vs) env s (ap suc l))))

      dropped_do : {m : _} (row : Row_of-TExpr m) (more : List Work) (items : List Item) {fs : List Found} (env : Env) (s : Still) (next : Unit {0} → Rest)
          → ((env : Env) (s : Still) → D (next tt env s) (At env (map it more ++ items) fs) s)
          → D (drop_all row w env s next) (At env (map it (flat_map and_dropped (exprs row) ++ more) ++ items) fs) s
      dropped_do end_of-TExpr more items env s next h = h env s
      dropped_do (more_of-TExpr e rest) more items env s next h =
          expr_does e env s _ (λ o env s. dropped_does w below (is_void (type_of e)) o (λ ws. map it ((ws ++ flat_map and_dropped (exprs rest)) ++ more) ++ items) _ env s _ refl refl (dropped_do rest more items env s next h))
