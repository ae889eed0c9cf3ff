-- What a statement does is work that is known too.
use Rattle.al_typed.specs.declared.ty.Ty.TheBlock.{hidden-the_row-Ty-0, shown-the_row-Ty-0}
use denote.Hole.Carrier.{out, hidden, shown}
use Rattle.al_typed.specs.Types.{points_to_complete, points_to_complete_at}
use Rattle.std.proofs.Common.{◌≡◌, ℕ, true, false, List, [], ◌∷◌, ◌++◌, map, length, Option, Some, None, refl, sym, ap, ◌∙◌, arith, subst, inl, inr}
use Rattle.std.specs.Prelude.{unwrap_or, ◌⊎◌}
use Rattle.std.specs.List.{AllByRecursion, flat_map}
use Rattle.std.proofs.lemmas.List.Elements.{recursion_from_All}
use Rattle.al_event.specs.declared.act.Act.TheVariants as act
use Rattle.al_typed.specs.declared.ty.Ty.{Ty}
use Rattle.al_typed.specs.declared.ty.Ty.TheOpen.{Ty-F}
use Rattle.al_typed.specs.declared.ty.Ty.TheViews.{out-Ty, roll-Ty, roll-out-Ty}
use Rattle.al_typed.specs.declared.ty.Ty.TheVariants as ty
use Rattle.al_typed.specs.declared.program.Program.{Program}
use Rattle.al_typed.specs.declared.expression.TExpr.{TExpr}
use Rattle.al_typed.specs.declared.expression.TPlace.{TPlace}
use Rattle.al_typed.specs.declared.expression.TPlace.TheVariants as place
use Rattle.al_typed.specs.declared.statement.TBounds.{TBounds}
use Rattle.al_typed.specs.declared.statement.TInitializer.{TInitializer}
use Rattle.al_typed.specs.declared.statement.TStmt.{TStmt, Empty, Block', Declare, Value, If', Switch', Case, Default, Alt', AltCase, Par, Raise, Goto, Return, Become, Break, Continue, Alloc, Unalloc, Check, Proc, Task, end_of-TStmt, more_of-TStmt}
use Rattle.al_typed.specs.StatementForms as part
use Rattle.al_typed.specs.Typed.{type_of, place_type}
use Rattle.al_typed.specs.Sound.{HasSoundTypes}
use Rattle.al_typed.specs.WellTyped.{IsValue, IsPlace, IsStatement, IsInitializer, AreBounds, IsOptionalValue, IsCall, Allocates, GivesBack, inside, in_loop, is_sound, IsChannel}
use Rattle.al_meaning.specs.Items.{Work, Eval, Answered, InvokeInstead, Returns, StartProc, StartTask, Choose, Test, WhileTest, DoCondition, ForCondition, Bound, Select, AltTalk}
use Rattle.al_meaning.specs.Parts.{other_of, item, to_do, statements, behind_bodies, next_of_loop, branchings}
use Rattle.al_meaning.specs.Here.{Here, function_here}
use Rattle.al_meaning.specs.Calls.{call_work, evaluated}
use Rattle.al_meaning.specs.Evaluate.{alt_exprs, and_dropped, communications}
use Rattle.al_meaning.specs.Execute.{starts, starts_then, allocation_work, bounds_exprs, branch_start, do_statement, initializer_work, jumps, optionally, target_items, unallocation_work}
use Rattle.al_walk_actions.specs.Fits.{AllocationFits}
use Rattle.al_fits.specs.Controls.{AllocatesSome, HasRoom, In, Stands, WorkIs, NextIs}
use Rattle.al_fits.proofs.Sizes.{few_words, sound_small, sound_pointer, sound_sent}
use Rattle.al_fits.proofs.Going.{HereIs, WorksAre, asks_it, does_it, does_items, each_append, goes_on}
use Rattle.al_fits.proofs.Bytes.{some_bytes}
use Rattle.al_fits.proofs.Terms.{call_works, dropped_works, narrow, small_value, sound_place}
use Rattle.al_fits.proofs.Statements.{body_items, other_stands, found_items, from_body, behind_is, next_is, alt_works, alt_branches_are}

initializer_works : (p : Program) → HasSoundTypes p → (is : List TInitializer) → In p (λ s. AllByRecursion (IsInitializer s) is) → WorksAre p (flat_map initializer_work is)
unfolding IsPlace
initializer_works p W [] x = tt
initializer_works p W (i ∷ is) x =
    let value : In p (λ s. IsValue s i.value) = narrow x (λ s v. v.0.0) in
    let place : In p (λ s. IsPlace s (place.Local (type_of i.value) i.local)) = narrow x (λ s v. v.0.1.0) in
    each_append (WorkIs p) (initializer_work i) (flat_map initializer_work is)
    (place, (value, (small_value p W i.value value, tt)))
    (initializer_works p W is (narrow x (λ s v. v.1)))

bounds_works : (p : Program) (bs : List TBounds) → In p (λ s. AllByRecursion (AreBounds s) bs) → WorksAre p (evaluated (bounds_exprs bs))
bounds_works p [] x = tt
bounds_works p (b ∷ bs) x = (narrow x (λ s v. v.0.0), (narrow x (λ s v. v.0.1.1.0), bounds_works p bs (narrow x (λ s v. v.1))))

pub optional_works : (p : Program) (o : Option TExpr) → In p (λ s. IsOptionalValue s o) → WorksAre p (optionally o)
optional_works p None x = tt
optional_works p (Some e) x = dropped_works p e (narrow x (λ s v. v))

-- what a pointer leads to, or what goes through a channel, is small
allocation_fits : (p : Program) (t : Ty) → is_sound p.aggregates t ≡ true → AllocationFits p (out-Ty t)
allocation_fits p t h = on (out-Ty t) (sym (roll-out-Ty t))
  where
    on : (y : Ty-F Ty) → t ≡ roll-Ty y → AllocationFits p y
    on (Ty-F.Pointer to) e =
        sound_small p to (sym (sound_pointer p.aggregates to) ∙ (sym (ap (is_sound p.aggregates) (e ∙ ty.rolls-Pointer to)) ∙ h))
    on (Ty-F.Chan element capacity) e =
        few_words p element (sound_small p element (sound_sent p.aggregates element capacity (sym (ap (is_sound p.aggregates) (e ∙ ty.rolls-Chan element capacity)) ∙ h)))
    on _ e = tt

-- what a pointer leads to that is allocated has a byte
allocates_some : (p : Program) → HasSoundTypes p → (t : Ty) → is_sound p.aggregates t ≡ true → (points_to_complete p.aggregates t ≡ true) ⊎ IsChannel t → AllocatesSome p (out-Ty t)
unfolding points_to_complete out-Ty out hidden-the_row-Ty-0 shown-the_row-Ty-0 hidden shown
allocates_some p W t s (inl h) = on (out-Ty t) (sym (roll-out-Ty t)) h
  where
    on : (y : Ty-F Ty) → t ≡ roll-Ty y → points_to_complete_at p.aggregates y ≡ true → AllocatesSome p y
    on (Ty-F.Pointer to) e h =
        some_bytes p W to (sym (sound_pointer p.aggregates to) ∙ (sym (ap (is_sound p.aggregates) (e ∙ ty.rolls-Pointer to)) ∙ s)) h
    on _ e h = tt
allocates_some p W t s (inr h) = subst (λ t. AllocatesSome p (out-Ty t)) (sym h.1.1) tt

allocation_works : (p : Program) → HasSoundTypes p → (ps : List TPlace) → In p (λ s. AllByRecursion (Allocates s) ps) → WorksAre p (flat_map allocation_work ps)
allocation_works p W [] x = tt
allocation_works p W (place ∷ ps) x =
    let y : In p (λ s. IsPlace s place) = narrow x (λ s v. v.0.0) in
    let sound = sound_place p W place y in
    each_append (WorkIs p) (allocation_work place) (flat_map allocation_work ps)
    (y, ((allocation_fits p (place_type place) sound, allocates_some p W (place_type place) sound x.term.0.1), (sound_small p (place_type place) sound, tt)))
    (allocation_works p W ps (narrow x (λ s v. v.1)))

unallocation_works : (p : Program) (es : List TExpr) → In p (λ s. AllByRecursion (GivesBack s) es) → WorksAre p (flat_map unallocation_work es)
unallocation_works p [] x = tt
unallocation_works p (e ∷ es) x = (narrow x (λ s v. v.0.0), (tt, unallocation_works p es (narrow x (λ s v. v.1))))

calls_works : (p : Program) → HasSoundTypes p → (then_do : ℕ → ℕ → Work) → ((f c : ℕ) → WorkIs p (then_do f c)) → (es : List TExpr)
    → In p (λ s. AllByRecursion (IsCall s) es) → WorksAre p (flat_map (λ e. call_work p e then_do) es)
calls_works p W then_do last [] x = tt
calls_works p W then_do last (e ∷ es) x =
    each_append (WorkIs p) (call_work p e then_do) (flat_map (λ e. call_work p e then_do) es)
    (call_works p W e then_do last (narrow x (λ s v. v.0.0))) (calls_works p W then_do last es (narrow x (λ s v. v.1)))

pub starts_it : (h : Here) (s : TStmt) → HereIs h → In h.program (Stands s) → NextIs h.program (starts h s)
starts_it h s K x = does_items h (to_do s ∷ []) K (x, tt)

pub starts_then_it : (h : Here) (s : TStmt) (w : Work) → HereIs h → In h.program (Stands s) → WorkIs h.program w
    → NextIs h.program (starts_then h s (w ∷ []))
starts_then_it h s w K x k = does_items h (to_do s ∷ map (item h.line) (w ∷ [])) K (x, (k, tt))

jumps_it : (h : Here) (number : ℕ) → HasSoundTypes h.program → HasRoom h.program → HereIs h → NextIs h.program (jumps h (target_items h number))
jumps_it h number W R K =
    goes_on (record h { frame = record h.frame { items = unwrap_or (target_items h number) [] } })
    (found_items h.program (target_items h number) (from_body h.program W R h.frame.function number (function_here h) refl), K.1)

pub do_it : (s : TStmt) (h : Here) → HasSoundTypes h.program → HasRoom h.program → HereIs h → In h.program (Stands s) → NextIs h.program (do_statement s h)
unfolding IsStatement
do_it (Empty _) h W R K x = goes_on h K
do_it (Block' _ _ body) h W R K x = does_items h (statements body) K (body_items h.program body (narrow x (λ s v. (inside v.0, v.1))))
do_it (Declare _ initializers) h W R K x =
    does_it h (flat_map initializer_work initializers) K
    (initializer_works h.program W initializers (narrow x (λ s v. recursion_from_All (IsInitializer s) initializers v.1.0)))
do_it (Value _ [] value) h W R K x =
    does_it h (and_dropped value) K
    (dropped_works h.program value (record { iterators = 0; term = x.term.1.0.1 }))
do_it (Value _ (b ∷ bs) value) h W R K x =
    let n : ℕ = length (b ∷ bs) in
    let y : In h.program (λ s. IsValue s value) = record { iterators = n; term = x.term.1.0.1 } in
    does_it h (evaluated (bounds_exprs (b ∷ bs)) ++ Bound (length (b ∷ bs)) value ∷ []) K
    (each_append (WorkIs h.program) (evaluated (bounds_exprs (b ∷ bs))) (Bound (length (b ∷ bs)) value ∷ [])
    (bounds_works h.program (b ∷ bs) (narrow x (λ s v. recursion_from_All (AreBounds s) (b ∷ bs) v.1.0.0)))
    ((x.term.1.1, y), tt))
do_it (part.label _ _ body) h W R K x = starts_it h body K (narrow x (λ s v. (inside v.0, v.1)))
do_it (If' _ condition _ (more_of-TStmt chosen end_of-TStmt) other) h W R K x =
    does_it h (Eval condition ∷ Choose chosen (other_of other) ∷ []) K (
      narrow x (λ s v. v.1.0.0.0),
      ((narrow x (λ s v. (inside v.0, (v.1.0.1.0, v.1.1.0))), other_stands h.program other (narrow x (λ s v. (v.0, (v.1.0.1.1, v.1.1.1))))), tt),
    )
do_it (part.while_loop line condition body) h W R K x =
    does_it h (Eval condition ∷ WhileTest (part.while_loop line condition body) ∷ []) K (narrow x (λ s v. v.1.0.0.0), (x, tt))
do_it (part.do_loop line body condition) h W R K x =
    starts_then_it h body (DoCondition (part.do_loop line body condition)) K (narrow x (λ s v. (in_loop v.0, (v.1.0.0, v.1.1)))) x
do_it (part.for_loop line start condition step body) h W R K x =
    does_it h (optionally start ++ ForCondition (part.for_loop line start condition step body) ∷ []) K
    (each_append (WorkIs h.program) (optionally start) (ForCondition (part.for_loop line start condition step body) ∷ [])
    (optional_works h.program start (narrow x (λ s v. v.1.0.0))) (x, tt))
do_it (Switch' line value shape body) h W R K x =
    does_it h (Eval value ∷ Select (Switch' line value shape body) ∷ []) K (narrow x (λ s v. v.1.0.0), (x, tt))
do_it (Case _ _) h W R K x = goes_on h K
do_it Default h W R K x = goes_on h K
do_it (Alt' line shape body) h W R K x =
    does_it h (evaluated (alt_exprs (communications (branchings body))) ++ AltTalk (Alt' line shape body) ∷ []) K
    (each_append (WorkIs h.program) (evaluated (alt_exprs (communications (branchings body)))) (AltTalk (Alt' line shape body) ∷ [])
    (alt_works h.program (branchings body) (alt_branches_are h.program (Alt' line shape body) x)) (x, tt))
do_it (AltCase _) h W R K x = goes_on h K
do_it (Par _ branches) h W R K x = asks_it h (act.Par (map (branch_start h) branches)) (Answered ∷ []) (tt, omega arith) K (tt, tt)
do_it (part.rescue _ _ _) h W R K x = goes_on h K
do_it (Raise _ rescue) h W R K x = jumps_it h rescue W R K
do_it (Goto _ label) h W R K x = jumps_it h label W R K
do_it (Return _ None) h W R K x = does_it h (Returns false ∷ []) K (tt, tt)
do_it (Return _ (Some e)) h W R K x = does_it h (Eval e ∷ Returns true ∷ []) K (narrow x (λ s v. v.1.0.0), (tt, tt))
do_it (Become _ call) h W R K x =
    does_it h (call_work h.program call InvokeInstead) K
    (call_works h.program W call InvokeInstead (λ f c. tt) (narrow x (λ s v. v.1.0.0.0)))
do_it (Break _ levels) h W R K x =
    goes_on (record h { frame = record h.frame { items = behind_bodies levels h.frame.items } })
    (behind_is h.program levels h.frame.items K.0, K.1)
do_it (Continue _ levels) h W R K x =
    goes_on (record h { frame = record h.frame { items = next_of_loop levels h.frame.items } })
    (next_is h.program levels h.frame.items K.0, K.1)
do_it (Alloc _ places) h W R K x =
    does_it h (flat_map allocation_work places) K
    (allocation_works h.program W places (narrow x (λ s v. recursion_from_All (Allocates s) places v.1.0)))
do_it (Unalloc _ values) h W R K x =
    does_it h (flat_map unallocation_work values) K
    (unallocation_works h.program values (narrow x (λ s v. recursion_from_All (GivesBack s) values v.1.0)))
do_it (Check _ value) h W R K x = does_it h (Eval value ∷ Test ∷ []) K (narrow x (λ s v. v.1.0.0), (tt, tt))
do_it (Proc _ calls) h W R K x =
    does_it h (flat_map (λ e. call_work h.program e StartProc) calls) K
    (calls_works h.program W StartProc (λ f c. tt) calls (narrow x (λ s v. recursion_from_All (IsCall s) calls v.1.0)))
do_it (Task _ calls) h W R K x =
    does_it h (flat_map (λ e. call_work h.program e StartTask) calls) K
    (calls_works h.program W StartTask (λ f c. tt) calls (narrow x (λ s v. recursion_from_All (IsCall s) calls v.1.0)))
