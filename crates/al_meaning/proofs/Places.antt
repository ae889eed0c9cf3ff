-- A control does what the meaning says of values in places, and of what was found.
use Rattle.std.proofs.Common.{◌≡◌, ℕ, suc, ◌+◌, ◌^◌, List, [], ◌∷◌, ◌++◌, length, map, drop, Option, Some, None, refl, sym, ap, ◌∙◌, subst, arith, append-nil}
use Rattle.std.specs.Prelude.{Bool, true, false, if◌then◌else◌, sum_by}
use Rattle.al_typed.specs.declared.ty.Ty.{Ty}
use Rattle.al_typed.specs.declared.layout.Unit.{Unit as StorageUnit}
use Rattle.al_typed.specs.declared.expression.Passed.{Passed}
use Rattle.al_typed.specs.declared.expression.Passed.TheVariants as passed
use Rattle.al_meaning.specs.Places.{function_at}
use Rattle.al_meaning.specs.Items.{Found, Words, Address, Local, Private, Nowhere, Work, Fetch, Read, Save, Write, Drop, Item, Frame, Control}
use Rattle.al_meaning.specs.Parts.{item}
use Rattle.al_meaning.specs.Here.{Here, here, Next, with_found, with_values, words_before, places_before, units_in}
use Rattle.al_meaning.specs.Calls.{with_given, slots_of, frame_slots, count_passed}
use Rattle.al_meaning.specs.Evaluate.{save_at, saves, saves_and_gives, saves_updated, passes_place, passes_part}
use Rattle.al_meaning.specs.Step.{private_step, gives_quotient}
use Rattle.al_meaning.specs.Tasks.{Env, Still, Outcome, Rest, Ways}
use Rattle.al_meaning.specs.Told.{needed, drop_checked, at_address, load_units, read, store_units, save, save_all, saved, saved_or_divides, quotient, passed_at, passed_part}
use Rattle.al_meaning.proofs.Does.{Does, stuck, one, asks, asks_words, one_word, stops}

-- what was found, the last first
abbrev pub stacked : List Found → List Found → List Found
stacked [] found = found
stacked (f ∷ fs) found = stacked fs (f ∷ found)

abbrev pub pushed : List (List ℕ) → List Found → List Found
pushed [] found = found
pushed (v ∷ vs) found = pushed vs (Words v ∷ found)

pub stacked_both : (fs gs : List Found) (found : List Found) → stacked gs (stacked fs found) ≡ stacked (fs ++ gs) found
stacked_both [] gs found = refl
stacked_both (f ∷ fs) gs found = stacked_both fs gs (f ∷ found)

pub pushed_both : (vs us : List (List ℕ)) (found : List Found) → pushed us (pushed vs found) ≡ pushed (vs ++ us) found
pushed_both [] us found = refl
pushed_both (v ∷ vs) us found = pushed_both vs us (Words v ∷ found)

abbrev more : {A : Type 0} → List A → ℕ → ℕ
more [] n = n
more (a ∷ rest) n = more rest (suc n)

more_is : {A : Type 0} (all : List A) (n : ℕ) → more all n ≡ length all + n
more_is [] n = omega arith
more_is (a ∷ rest) n = more_is rest (suc n) ∙ omega arith

values_before : (vs : List (List ℕ)) (n : ℕ) (values : List (List ℕ)) (found : List Found) (h : Here) (k : List (List ℕ) → Here → Next)
    → words_before (more vs n) values (with_found (pushed vs found) h) k ≡ words_before n (vs ++ values) (with_found found h) k
values_before [] n values found h k = refl
values_before (v ∷ vs) n values found h k = values_before vs (suc n) values (Words v ∷ found) h k

found_before : (fs : List Found) (n : ℕ) (places : List Found) (found : List Found) (h : Here) (k : List Found → Here → Next)
    → places_before (more fs n) places (with_found (stacked fs found) h) k ≡ places_before n (fs ++ places) (with_found found h) k
found_before [] n places found h k = refl
found_before (f ∷ fs) n places found h k = found_before fs (suc n) places (f ∷ found) h k

-- the values that were found are taken, in order
pub values_taken : (count : ℕ) (vs : List (List ℕ)) (found : List Found) (h : Here) (k : List (List ℕ) → Here → Next) → length vs ≡ count
    → with_values count (with_found (pushed vs found) h) k ≡ k vs (with_found found h)
values_taken count vs found h k e =
    let n : count ≡ more vs 0 = omega (arith, e, more_is vs 0) in
    ap (λ m. words_before m [] (with_found (pushed vs found) h) k) n
    ∙ (values_before vs 0 [] found h k ∙ ap (λ us. k us (with_found found h)) (append-nil vs))

pub places_taken : (count : ℕ) (fs : List Found) (found : List Found) (h : Here) (k : List Found → Here → Next) → length fs ≡ count
    → places_before count [] (with_found (stacked fs found) h) k ≡ k fs (with_found found h)
places_taken count fs found h k e =
    let n : count ≡ more fs 0 = omega (arith, e, more_is fs 0) in
    ap (λ m. places_before m [] (with_found (stacked fs found) h) k) n
    ∙ (found_before fs 0 [] found h k ∙ ap (λ us. k us (with_found found h)) (append-nil fs))

module _ (w : Ways) (below : List Frame) where
  abbrev pub frame : Env → List Item → List Found → Frame
  frame env items found = record {
    function = w.function;
    locals = env.locals;
    block = env.block;
    around = env.around;
    turns = env.turns;
    items = items;
    found = found;
  }

  -- the control in the function at hand
  abbrev pub at : Env → List Item → List Found → Control
  at env items found = record { entering = None; frames = frame env items found ∷ below }

  -- the same with a value, if there is one
  abbrev pub given : Option (List ℕ) → Env → List Item → List Found → Control
  given o env items found = record { entering = None; frames = with_given o (frame env items found ∷ below) }

  abbrev pub place : Env → List Item → List Found → Still → Here
  place env items found s = here w.program w.line (frame env items found) below s.privates

  -- the words that the frames take on the stack
  abbrev pub slots_here : ℕ
  slots_here = slots_of w.program (function_at w.program w.function) + sum_by (frame_slots w.program) below

  abbrev pub DoesIt : Outcome → Control → Still → Type 0
  DoesIt o c s = Does w.program o c s

  pub moved : {o : Outcome} {env : Env} {items : List Item} {found : List Found} {s : Still} (old : List Found) → found ≡ old → DoesIt o (at env items old) s → DoesIt o (at env items found) s
  moved {o} {env} {items} {found} {s} old e h = subst (λ f. DoesIt o (at env items f) s) (sym e) h

  -- where a value was found, a meaning goes on with it
  pub val : {items : List Item} {found : List Found} (next : List ℕ → Rest)
      → ((v : List ℕ) (env : Env) (s : Still) → DoesIt (next v env s) (at env items (Words v ∷ found)) s)
      → (o : Option (List ℕ)) (env : Env) (s : Still) → DoesIt (needed o env s next) (given o env items found) s
  val next h (Some v) env s = h v env s
  val next h None env s = stuck

  pub addressed : {items : List Item} {found : List Found} (next : ℕ → Rest)
      → ((x : ℕ) (env : Env) (s : Still) → DoesIt (next x env s) (at env items (Address x ∷ found)) s)
      → (f : Found) (env : Env) (s : Still) → DoesIt (at_address f env s next) (at env items (f ∷ found)) s
  addressed next h (Address x) env s = h x env s
  addressed next h (Words v) env s = stuck
  addressed next h (Local n) env s = stuck
  addressed next h (Private n) env s = stuck
  addressed next h Nowhere env s = stuck

  -- a value is dropped where there is one
  pub dropped_does : (is_void : Bool) (o : Option (List ℕ)) {found : List Found} (K : List Work → List Item) (items : List Item) (env : Env) (s : Still) (next : Unit {0} → Rest)
      → K [] ≡ items → K (Drop ∷ []) ≡ item w.line Drop ∷ items
      → DoesIt (next tt env s) (at env items found) s
      → DoesIt (drop_checked is_void o env s next) (given o env (K (if is_void then [] else Drop ∷ [])) found) s
  dropped_does true None {found} K items env s next e f h = subst (λ is. DoesIt (next tt env s) (at env is found) s) (sym e) h
  dropped_does false (Some v) {found} K items env s next e f h = subst (λ is. DoesIt (next tt env s) (at env is (Words v ∷ found)) s) (sym f) (one refl h)
  dropped_does true (Some v) K items env s next e f h = stuck
  dropped_does false None K items env s next e f h = stuck

  module _ {items : List Item} {found : List Found} where
    -- ---- values of places

    load_does : (x : ℕ) (units : List StorageUnit) (got : List ℕ) (env : Env) (s : Still) (next : List ℕ → Rest)
        → ((v : List ℕ) (env : Env) (s : Still) → DoesIt (next v env s) (at env items (Words v ∷ found)) s)
        → DoesIt (load_units w x units got env s next) (at env (item w.line (Fetch x units got) ∷ items) found) s
    load_does x [] got env s next h = one refl (h got env s)
    load_does x (u ∷ units) got env s next h =
        asks_words _ refl refl (one_word (256 ^ u.size)) (λ v s. one refl (load_does x units _ env s next h))

    pub read_does : (t : Ty) (f : Found) (env : Env) (s : Still) (next : List ℕ → Rest)
        → ((v : List ℕ) (env : Env) (s : Still) → DoesIt (next v env s) (at env items (Words v ∷ found)) s)
        → DoesIt (read w t f env s next) (at env (item w.line (Read t) ∷ items) (f ∷ found)) s
    read_does t (Address x) env s next h = one refl (load_does x (units_in w.program t) [] env s next h)
    read_does t (Local number) env s next h = one refl (h _ env s)
    read_does t (Private number) env s next h = one refl (h _ env s)
    read_does t (Words v) env s next h = stuck
    read_does t Nowhere env s next h = stuck

    write_does : (x : ℕ) (units : List StorageUnit) (words : List ℕ) (env : Env) (s : Still) (next : Unit {0} → Rest)
        → ((env : Env) (s : Still) → DoesIt (next tt env s) (at env items found) s)
        → DoesIt (store_units w x units words env s next) (at env (item w.line (Write x units words) ∷ items) found) s
    write_does x [] words env s next h = one refl (h env s)
    write_does x (u ∷ units) words env s next h = asks _ refl refl (λ answer s. write_does x units (drop 1 words) env s next h)

    pub save_from : {c : Control} (t : Ty) (words : List ℕ) (f : Found) (env : Env) (s : Still) (next : Unit {0} → Rest)
        → private_step w.program c s.privates ≡ save_at t words f (place env items found s)
        → ((env : Env) (s : Still) → DoesIt (next tt env s) (at env items found) s)
        → DoesIt (save w t words f env s next) c s
    save_from t words (Address x) env s next e h = one e (write_does x (units_in w.program t) words env s next h)
    save_from t words (Local number) env s next e h = one e (h _ s)
    save_from t words (Private number) env s next e h = one e (h env _)
    save_from t words Nowhere env s next e h = one e (h env s)
    save_from t words (Words v) env s next e h = stuck

    pub save_does : (t : Ty) (words : List ℕ) (f : Found) (env : Env) (s : Still) (next : Unit {0} → Rest)
        → ((env : Env) (s : Still) → DoesIt (next tt env s) (at env items found) s)
        → DoesIt (save w t words f env s next) (at env (item w.line (Save t words f) ∷ items) found) s
    save_does t words f env s next h = save_from t words f env s next refl h

  pub saves_do : (items : List Item) {found : List Found} (rest : List Work) (ts : List Ty) (fs : List Found) (words : List ℕ) (env : Env) (s : Still) (next : Unit {0} → Rest)
      → ((env : Env) (s : Still) → DoesIt (next tt env s) (at env (map (item w.line) rest ++ items) found) s)
      → DoesIt (save_all w ts fs words env s next) (at env (map (item w.line) (saves w.program ts fs words ++ rest) ++ items) found) s
  saves_do items rest (t ∷ ts) (f ∷ fs) words env s next h = save_does t _ f env s _ (λ env s. saves_do items rest ts fs _ env s next h)
  saves_do items rest [] fs words env s next h = h env s
  saves_do items rest (t ∷ ts) [] words env s next h = h env s

  module _ {items : List Item} {found : List Found} (next : Option (List ℕ) → Rest)
      (h : (o : Option (List ℕ)) (env : Env) (s : Still) → DoesIt (next o env s) (given o env items found) s) where
    pub quotient_does : {c : Control} (o : Option (List ℕ)) (env : Env) (s : Still)
        → private_step w.program c s.privates ≡ gives_quotient (place env items found s) o
        → DoesIt (quotient w o env s next) c s
    quotient_does (Some v) env s e = one e (h (Some v) env s)
    quotient_does None env s e = stops _ _ e refl

    pub saved_does : {c : Control} (t : Ty) (f : Found) (new old : List ℕ) (env : Env) (s : Still)
        → private_step w.program c s.privates ≡ saves_and_gives (place env items found s) t f new old
        → DoesIt (saved w t f new old env s next) c s
    saved_does t f new old env s e = one e (save_does t new f env s _ (λ env s. one refl (h (Some old) env s)))

    pub updated_does : {c : Control} (t : Ty) (f : Found) (o : Option (List ℕ)) (env : Env) (s : Still)
        → private_step w.program c s.privates ≡ saves_updated (place env items found s) t f o
        → DoesIt (saved_or_divides w t f o env s next) c s
    updated_does t f (Some v) env s e = saved_does t f v v env s e
    updated_does t f None env s e = stops _ _ e refl

  -- ---- what an object gives to a function

  pub passed_at_does : {items : List Item} {found : List Found} {c : Control} (how : Passed) (t : Ty) (x : ℕ) (env : Env) (s : Still) (next : List (List ℕ) → Rest)
      → private_step w.program c s.privates ≡ passes_place how t x (place env items found s)
      → ((vs : List (List ℕ)) (env : Env) (s : Still) → length vs ≡ count_passed how → DoesIt (next vs env s) (at env items (pushed vs found)) s)
      → DoesIt (passed_at w how t x env s next) c s
  passed_at_does passed.Address t x env s next e h = one e (h ((x ∷ []) ∷ []) env s refl)
  passed_at_does passed.Value t x env s next e h = one e (read_does t (Address x) env s _ (λ v env s. h (v ∷ []) env s refl))
  passed_at_does passed.Nothing t x env s next e h = one e (h [] env s refl)

  pub passed_part_does : {items : List Item} {found : List Found} {c : Control} (how : Passed) (t : Ty) (path v : List ℕ) (env : Env) (s : Still) (next : List (List ℕ) → Rest)
      → private_step w.program c s.privates ≡ passes_part how t path v (place env items found s)
      → ((vs : List (List ℕ)) (env : Env) (s : Still) → length vs ≡ count_passed how → DoesIt (next vs env s) (at env items (pushed vs found)) s)
      → DoesIt (passed_part w how t path v env s next) c s
  passed_part_does passed.Address t path v env s next e h = stuck
  passed_part_does passed.Value t path v env s next e h = one e (h (_ ∷ []) env s refl)
  passed_part_does passed.Nothing t path v env s next e h = one e (h [] env s refl)
