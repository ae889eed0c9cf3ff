-- A control does what the meaning says of functions and of tasks.
use Rattle.std.proofs.Common.{◌≡◌, ℕ, zero, suc, ◌+◌, ◌^◌, List, [], ◌∷◌, ◌++◌, length, map, take, drop, Option, Some, None, refl, sym, ap, ◌∙◌, subst, arith}
use Rattle.std.specs.Prelude.{Bool, true, false, not, nat_lt, if◌then◌else◌, slice_get, slice_index, sum_by, unwrap_or}
use Rattle.al_base.specs.declared.trap.Trap.TheVariants as trap
use Rattle.al_event.specs.declared.act.Act.TheVariants as act
use Rattle.al_event.specs.declared.act.Block.TheVariants.{Frame as FrameBlock}
use Rattle.al_event.specs.declared.act.Start.{Start}
use Rattle.al_world.specs.Turns.{Moves, Asks}
use Rattle.al_typed.specs.declared.program.Function.{Function as FunctionRow}
use Rattle.al_typed.specs.declared.program.Local.{Local as LocalRow}
use Rattle.al_typed.specs.declared.program.Program.{Program}
use Rattle.al_meaning.specs.Words.{fitted_to}
use Rattle.al_meaning.specs.Places.{function_at, locals_of, block_size, has_block, words_in}
use Rattle.al_meaning.specs.Items.{Found, Work, Answered, TakeBlock, SetBlock, StoreParameter, CountReturn, Replace, Item, Frame, Control, most_turns}
use Rattle.al_meaning.specs.Parts.{item, to_do, going_on}
use Rattle.al_meaning.specs.Here.{Here, here, Next, moves, units_in}
use Rattle.al_meaning.specs.Calls.{only, ends, gives_block, with_given, begun, begun_function, begun_locals, parameter_work, default_of, line_of_name, slots_of, frame_slots, most_slots}
use Rattle.al_meaning.specs.Evaluate.{local_found}
use Rattle.al_meaning.specs.Execute.{items_from}
use Rattle.al_meaning.specs.Step.{private_step, store_parameter}
use Rattle.al_meaning.specs.Tasks.{Answer, Env, Still, Outcome, Rest, Ways, give, ask_in, stop_in, turn_in, Stuck, ◌>>=◌}
use Rattle.al_meaning.specs.Told.{save, local_here}
use Rattle.al_meaning.specs.Meant.{Given, Part, part_from, freed, returned, become_in, jumped, jumps, store_parameters, body_meant, function_meant, function_or_stuck, called, task_told}
use Rattle.al_meaning.specs.Meaning.{start}
use Rattle.al_meaning.specs.Laws.{AskAsTold}
use Rattle.al_meaning.proofs.Does.{Does, stuck, unfinished, one, asks, asks_words, one_word, stops, turns, branching, task_does}
use Rattle.al_meaning.proofs.Places.{save_from}
use Rattle.al_meaning.proofs.Expressions.{CallsDo}
use Rattle.al_meaning.proofs.Ways.{framed, control, GoesOn, Bodies, Around}
use Rattle.al_meaning.proofs.Statements.{meant_does}
use Rattle.al_meaning.proofs.Jumps.{Reaches, from_does}

-- ---- the end of a function

module _ (p : Program) (number : ℕ) (f : FunctionRow) (is : function_at p number ≡ Some f) (below : List Frame) where
  abbrev C : Env → List Item → List Found → Control
  C = control p number below

  abbrev place_at : ℕ → Env → List Item → List Found → Still → Here
  place_at line env items found s = here p line (framed p number below env items found) below s.privates

  freed_does : {c : Control} (line : ℕ) (env : Env) (s : Still) (items : List Item) (found : List Found) (work : List Work) (go : Next) (k : Still → Outcome)
      → private_step p c s.privates ≡ gives_block (place_at line env items found s) work go
      → ((s : Still) → Does p (k s) (C env (map (item line) work) found) s)
      → (private_step p c s.privates ≡ go → Does p (k s) c s)
      → Does p (freed line f.locals env.block s k) c s
  freed_does line env s items found work go k e given gone =
      branching (ask_in line (act.Free env.block FrameBlock) s (λ _ s. k s)) (k s) (has_block f.locals)
      (e ∙ ap (λ o. if has_block (locals_of o) then Asks (act.Free env.block FrameBlock) line (C env (map (item line) work) found) s.privates else go) is)
      (λ q. asks _ q refl (λ words s. given s)) gone

  module _ (next : Given) (h : (o : Option (List ℕ)) (s : Still) → Does p (next o s) (record { entering = None; frames = with_given o below }) s) where
    returns_do : (line : ℕ) (o : Option (List ℕ)) (env : Env) (s : Still) {c : Control} (items : List Item) (found : List Found)
        → private_step p c s.privates ≡ ends (place_at line env items found s) o
        → Does p (returned f.locals next line o env s) c s
    returns_do line o env s items found e =
        freed_does line env s items found (CountReturn o ∷ []) _ (λ s. turn_in line s (λ s. next o s)) e
        (λ s. turns _ refl (λ s. one refl (h o s))) (λ q. turns _ q (λ s. one refl (h o s)))

    becomes_do : (instead : ℕ → List ℕ → Still → Given → Outcome) → CallsDo p instead (sum_by (frame_slots p) below)
        → (line other : ℕ) (words : List ℕ) (env : Env) (s : Still) {c : Control} (items : List Item) (found : List Found)
        → private_step p c s.privates ≡ gives_block (place_at line env items found s) (Replace other words ∷ []) (moves (only (place_at line env items found s) (Replace other words ∷ [])))
        → Does p (become_in f.locals instead next line other words env s) c s
    becomes_do instead instead_does line other words env s items found e =
        freed_does line env s items found (Replace other words ∷ []) _ (λ s. turn_in line s (λ s. instead other words s next)) e
        (λ s. turns _ refl (λ s. instead_does.by other words _ below s next refl refl h))
        (λ q. one q (turns _ refl (λ s. instead_does.by other words _ below s next refl refl h)))

    -- ---- its body

    module _ (n : ℕ) (call instead : ℕ → List ℕ → Still → Given → Outcome)
        (calls_do : CallsDo p call (slots_of p (function_at p number) + sum_by (frame_slots p) below))
        (instead_does : CallsDo p instead (sum_by (frame_slots p) below)) where
      abbrev behind : Rest
      behind = returned f.locals next f.line (default_of p (Some f))

      abbrev ways : (ℕ → Rest) → Ways
      ways jump = record {
        program = p;
        function = number;
        line = f.line;
        call = call;
        jump = jump;
        behind = [];
        again = [];
        return = returned f.locals next;
        become = become_in f.locals instead next;
      }

      abbrev nowhere : Ways
      nowhere = ways (λ l env s. Stuck)

      end_does : GoesOn p number below [] behind
      end_does env s = returns_do f.line (default_of p (Some f)) env s [] [] (ap (λ o. ends (place_at (line_of_name o) env [] [] s) (default_of p o)) is)

      none_within : Bodies p number below [] [] []
      none_within = record { behinds = λ k env s. stuck; agains = λ k env s. stuck }

      abbrev leads : (jump : ℕ → Rest) → ((label : ℕ) → GoesOn p number below (unwrap_or (items_from (function_at p number) label) []) (jump label)) → Around (ways jump) below
      leads jump jumps_do = record {
        calls = calls_do;
        jumps = jumps_do;
        returns = λ line o env s items found e. returns_do line o env s items found e;
        becomes = λ line other words env s items found e. becomes_do instead instead_does line other words env s items found e;
      }

      jumped_does : (jump : ℕ → Rest) → Around (ways jump) below → (a : Option Part) (b : Option (List Item)) → Reaches below [] a b → GoesOn p number below (unwrap_or b []) (jumped a (ways jump) behind)
      jumped_does jump around None b x env s = stuck
      jumped_does jump around (Some m) (Some is) x env s = x (ways jump) env s (λ _. behind) around none_within end_does
      jumped_does jump around (Some m) None x env s = absurd x

      jumps_do : (m label : ℕ) → GoesOn p number below (unwrap_or (items_from (function_at p number) label) []) (jumps m f.body n nowhere behind label)
      jumps_do zero label env s = unfinished
      jumps_do (suc m) label env s =
          subst (λ o. Does p (jumps (suc m) f.body n nowhere behind label env s) (C env (unwrap_or (items_from o label) []) []) s) (sym is)
          (jumped_does (jumps m f.body n nowhere behind) (leads (jumps m f.body n nowhere behind) (jumps_do m)) (part_from label f.body n) (going_on label f.body []) (from_does below n label f.body []) env s)

      -- ---- its start

      abbrev ways_in : Ways
      ways_in = ways (jumps n f.body n nowhere behind)

      parameter_does : (is_shared : Bool) (at_number : ℕ) (l : LocalRow) (words : List ℕ) (more : List Work) (items : List Item) (env : Env) (s : Still) (after : Unit {0} → Rest)
          → slice_get (locals_of (function_at p number)) at_number ≡ Some l
          → ((env : Env) (s : Still) → Does p (after tt env s) (C env (map (item f.line) more ++ items) []) s)
          → Does p ((if is_shared then (local_here ways_in at_number >>= (λ found. save ways_in l.ty (fitted_to (units_in p l.ty) words) found)) else give tt) env s after)
          (C env (map (item f.line) ((if is_shared then StoreParameter at_number words ∷ [] else []) ++ more) ++ items) []) s
      parameter_does true at_number l words more items env s after e h =
          save_from ways_in below l.ty (fitted_to (units_in p l.ty) words) (local_found p number env.block at_number) env s after
          (ap (λ o. store_parameter (place_at f.line env (map (item f.line) more ++ items) [] s) at_number o words) e) h
      parameter_does false at_number l words more items env s after e h = h env s

      parameters_do : (count : ℕ) (ls : List LocalRow) (at_number : ℕ) (words : List ℕ) (items : List Item) (env : Env) (s : Still) (after : Unit {0} → Rest)
          → ((i j : ℕ) → j ≡ at_number + i → slice_get (locals_of (function_at p number)) j ≡ slice_get ls i)
          → ((env : Env) (s : Still) → Does p (after tt env s) (C env items []) s)
          → Does p (store_parameters at_number count ls words ways_in env s after) (C env (map (item f.line) (parameter_work p at_number count ls words) ++ items) []) s
      parameters_do zero ls at_number words items env s after lookup h = h env s
      parameters_do (suc m) [] at_number words items env s after lookup h = h env s
      parameters_do (suc m) (l ∷ ls) at_number words items env s after lookup h =
          parameter_does l.is_shared at_number l (take (words_in p l.ty) words) _ items env s _ (lookup 0 at_number (omega arith)) (λ env s.
          parameters_do m ls (at_number + 1) (drop (words_in p l.ty) words) items env s after (λ i j e. lookup (suc i) j (omega (arith, e))) h)

      module _ (words : List ℕ) where
        abbrev env_with : ℕ → Env
        env_with block = record { locals = begun_locals p f.parameters f.locals words; block = block; around = take (length f.around) words; turns = [] }

        abbrev body_items : List Item
        body_items = to_do f.body ∷ []

        body_does : (block : ℕ) (s : Still)
            → Does p (body_meant p n f block words ways_in behind (env_with block) s) (C (env_with block) (map (item f.line) (parameter_work p 0 f.parameters f.locals words) ++ body_items) []) s
        body_does block s =
            parameters_do f.parameters f.locals 0 words body_items (env_with block) s _ (λ i j e. ap (λ o. slice_get (locals_of o) j) is ∙ ap (λ k. slice_get f.locals k) (e ∙ omega arith)) (λ env s.
            meant_does below n f.body ways_in [] env s (λ _. behind) (leads (jumps n f.body n nowhere behind) (jumps_do n)) none_within end_does)

        taken_does : (has : Bool) (more : List Work) (items : List Item) (s : Still) (after : ℕ → Still → Outcome)
            → ((block : ℕ) (s : Still) → Does p (after block s) (C (env_with block) (map (item f.line) more ++ items) []) s)
            → Does p (if has then ask_in f.line (act.Alloc (block_size p f.locals) FrameBlock) s (λ words s. after (slice_index words 0) s) else after 0 s)
            (C (env_with 0) (map (item f.line) ((if has then TakeBlock ∷ SetBlock ∷ [] else []) ++ more) ++ items) []) s
        taken_does true more items s after h =
            asks_words _ (ap (λ o. Asks (act.Alloc (block_size p (locals_of o)) FrameBlock) f.line (C (env_with 0) (map (item f.line) (Answered ∷ SetBlock ∷ more) ++ items) []) s.privates) is) refl (one_word (2 ^ 32))
            (λ v s. one refl (one refl (h (slice_index v 0) s)))
        taken_does false more items s after h = h 0 s

        pub function_does : (s : Still) → Does p (function_meant p n call instead number f words s next) (record { entering = None; frames = begun p number words ∷ below }) s
        function_does s =
            subst (λ o. Does p (function_meant p n call instead number f words s next) (record { entering = None; frames = begun_function p number o words ∷ below }) s) (sym is)
            (taken_does (has_block f.locals) (parameter_work p 0 f.parameters f.locals words) body_items s _ (λ block s. body_does block s))

-- ---- calls

module _ (p : Program) where
  begins_do : (n : ℕ) (call instead : ℕ → List ℕ → Still → Given → Outcome) (number : ℕ) (o : Option FunctionRow) → function_at p number ≡ o → (below : List Frame)
      → CallsDo p call (slots_of p (function_at p number) + sum_by (frame_slots p) below) → CallsDo p instead (sum_by (frame_slots p) below)
      → (words : List ℕ) (s : Still) (next : Given)
      → ((o : Option (List ℕ)) (s : Still) → Does p (next o s) (record { entering = None; frames = with_given o below }) s)
      → Does p (function_or_stuck p n call instead number o words s next) (record { entering = None; frames = begun p number words ∷ below }) s
  begins_do n call instead number None is below calls_do instead_does words s next h = stuck
  begins_do n call instead number (Some f) is below calls_do instead_does words s next h =
      function_does p number f is below next h n call instead calls_do instead_does words s

  room_does : (is_full : Bool) {c : Control} (d e : Control) (line : ℕ) (s : Still) (o : Outcome)
      → private_step p c s.privates ≡ (if not is_full then Moves e s.privates else Asks (act.Trap trap.Stack) line d s.privates)
      → Does p o e s
      → Does p (if is_full then stop_in line (act.Trap trap.Stack) s else o) c s
  room_does true d e line s o q h = stops _ _ q refl
  room_does false d e line s o q h = one q h

  abbrev full : ℕ → ℕ → Bool
  full number below = nat_lt most_slots (below + slots_of p (function_at p number))

  called_does : (n below : ℕ) → CallsDo p (called p n below) below
  called_does zero below = record { by = λ number words d frames s next sums e h. unfinished }
  called_does (suc n) below = record {
    by = λ number words d frames s next sums e h.
        room_does (full number below) d (record { entering = None; frames = begun p number words ∷ frames }) (line_of_name (function_at p number)) s _
        (e ∙ ap (λ k. if not (full number k) then Moves (record { entering = None; frames = begun p number words ∷ frames }) s.privates
        else Asks (act.Trap trap.Stack) (line_of_name (function_at p number)) d s.privates) sums)
        (begins_do n (called p n (below + slots_of p (function_at p number))) (called p n below) number (function_at p number) refl frames
        (subst (λ k. CallsDo p (called p n (below + slots_of p (function_at p number))) k) (omega (arith, sums)) (called_does n (below + slots_of p (function_at p number))))
        (subst (λ k. CallsDo p (called p n below) k) (sym sums) (called_does n below)) words s next h);
  }

  -- ---- tasks

  ended_does : (o : Option (List ℕ)) (s : Still) → Does p (stop_in 0 act.End s) (record { entering = None; frames = with_given o [] }) s
  ended_does None s = stops _ _ refl refl
  ended_does (Some v) s = stops _ _ refl refl

  started_does : (n : ℕ) (st : Start) (privates : List ℕ) (answers : List Answer)
      → Does p (task_told p n st privates answers) (start p st) (record { left = most_turns; privates = privates; answers = answers })
  started_does n st privates answers =
      begins_do n (called p n (slots_of p (function_at p st.code))) (called p n 0) st.code (function_at p st.code) refl []
      (subst (λ k. CallsDo p (called p n (slots_of p (function_at p st.code))) k) (omega arith) (called_does n (slots_of p (function_at p st.code))))
      (called_does n 0) st.words _ (λ o s. stop_in 0 act.End s) ended_does

pub ask_as_told : AskAsTold
ask_as_told p n st privates answers live done = task_does (start p st) privates answers (started_does p n st privates answers) live done
