-- Calls of functions by their names.
use Rattle.std.proofs.Common.{◌≡◌, ℕ, ◌+◌, List, [], ◌∷◌, ◌++◌, map, length, Option, Some, None, refl, sym, ap, ◌∙◌, subst, arith, length-append}
use Rattle.std.specs.Prelude.{Bool, true, false, ◌&&◌}
use Rattle.std.specs.List.{flat_map}
use Rattle.al_typed.specs.declared.ty.Ty.{Ty}
use Rattle.al_typed.specs.declared.program.Function.{Function as FunctionRow}
use Rattle.al_typed.specs.declared.program.Program.{Program}
use Rattle.al_typed.specs.Types.{is_void, is_array}
use Rattle.al_typed.specs.Typed.{parameter_types}
use Rattle.al_typed.specs.Layout.{unit_at}
use Rattle.al_meaning.specs.Here.{units_in}
use Rattle.al_meaning.specs.Places.{function_at}
use Rattle.al_meaning.specs.Calls.{joined}
use Rattle.al_meaning.specs.Tasks.{Still, Env, Rest, Task, turn_in}
use Rattle.al_ir.specs.declared.ir.Operation.{Operation}
use Rattle.al_ir.specs.declared.op.Op.TheVariants.{Invoke}
use Rattle.al_ir.specs.Control.{Slots, Frame, slots_from}
use Rattle.al_lowered.specs.Rules.{rules, given_units}
use Rattle.al_lower_words.specs.Units.{AreOf}
use Rattle.al_lower_words.proofs.Integers.{length_of, words_are}
use Rattle.al_lower_code.specs.Homes.{here}
use Rattle.al_lower_code.specs.Moving.{results}
use Rattle.al_lower_code.specs.Coded.{Row, Given}
use Rattle.al_lower_code.specs.Actions.{arguments_code, calling, call_coded}
use Rattle.al_lower_steps.specs.Slots.{Holds, HoldsGiven, Outside}
use Rattle.al_lower_steps.specs.Site.{frame_at}
use Rattle.al_lower_steps.specs.Given.{GivenOf}
use Rattle.al_lower_steps.proofs.Slots.{holds_join, holds_at, holds_from_start}
use Rattle.al_lower_steps.proofs.Steps.{moved, has_front, has_back}
use Rattle.al_lower_steps.proofs.Calls.{invoke_does}
use Rattle.al_lower_steps.proofs.Functions.{CalledDoes}
use Rattle.al_lower_claims.proofs.Moving.{results_do}
use Rattle.al_lower_claims.proofs.Privates.{join_fits}
use Rattle.al_lower_claims.proofs.Variables.{Stays, stays_both, holds_stays, more_room, put_outside_is}
use Rattle.al_lower_claims.proofs.Claims.{Setting, scene, site, spot, Run, Has, HasVars, HasRoom, count_of, Gave, GoesOn, ValueDoes, CodedDoes}
use Rattle.al_lower_claims.proofs.Operands.{both_true}
use Rattle.al_lower_claims.proofs.Plain.{valued_does}
use Rattle.al_lower_values.proofs.Rows.{RowDoes}

flat_append : {A B : Type 0} (f : A → List B) (xs ys : List A) → flat_map f (xs ++ ys) ≡ flat_map f xs ++ flat_map f ys
flat_append f [] ys = refl
flat_append f (x ∷ xs) ys = ap (λ r. f x ++ r) (flat_append f xs ys) ∙ joins (f x) (flat_map f xs) (flat_map f ys)
  where
    joins : {B : Type 0} (a b c : List B) → a ++ (b ++ c) ≡ (a ++ b) ++ c
    joins [] b c = refl
    joins (x ∷ a) b c = ap (λ r. x ∷ r) (joins a b c)

-- calls of this function above the frames at hand do what they mean
abbrev pub CallsDo : Setting → Type 0
CallsDo k = (frame : Frame) → frame.function ≡ k.ways.function → CalledDoes k.ways.program k.ir (rules k.ways.program) k.ways.call (frame ∷ k.below)

-- what is called gives its value to the frame at hand
pub record Calling (k : Setting) (m : Task (Option (List ℕ))) (t : Ty) (keeps : Bool) (code : (to : ℕ) → List Operation) : Type 0 where
  pub by : (to pc : ℕ) (slots last : Slots) (env : Env) (s : Still) (next : Option (List ℕ) → Rest) → HasRoom k to → HasVars k env slots → Has k pc (code to) → ((o : Option (List ℕ)) (env2 : Env) (s : Still) (now last : Slots) → Gave k t o → HasVars k env2 now → Stays (scene k) to now slots → HoldsGiven last 0 o → (keeps ≡ true → env2 ≡ env) → Run k (next o env2 s) (pc + length (code to)) now last s) → Run k (m env s next) pc slots last s

-- what functions of types that are the same are given and give
pub record SameCalls (p : Program) (t u : Ty) (ts us : List Ty) : Type 0 where
  pub void : is_void t ≡ is_void u
  pub given : units_in p t ≡ units_in p u
  pub taken : flat_map (units_in p) ts ≡ flat_map (units_in p) us

-- a value of a type is one of another type with the same units
pub gave_same : (p : Program) (t u : Ty) → is_void t ≡ is_void u → units_in p t ≡ units_in p u → (o : Option (List ℕ)) → GivenOf p u o → GivenOf p t o
gave_same p t u void given None g = void ∙ g
gave_same p t u void given (Some v) g = (void ∙ g.0, subst (λ q. AreOf q v) (sym given) g.1)

module _ (k : Setting) where
  -- the words that it left go to where they are wanted
  pub calling_does : {m : Task (Option (List ℕ))} (t : Ty) (keeps : Bool) (code : (to : ℕ) → List Operation) → (is_void t ≡ true → count_of k t ≡ 0) → (is_void t ≡ false → is_array t ≡ false) → Calling k m t keeps code → CodedDoes k m t (calling (spot k) t keeps code)
  calling_does {m} t keeps code void_words no_array h =
      let p = valued_does k keeps (λ dest to. code to ++ results k.ways.line dest 0 (count_of k t)) values in
      record {
        value = values;
        effect = record {
          by = λ to pc slots last env s next room vars has go.
              h.by to pc slots last env s next room vars has (λ o env2 s now last2 g vars2 st2 holds same. go o env2 s now last2 g vars2 st2 same);
        };
        unless = p.unless;
        pointer = p.pointer;
        stored = p.stored;
        known = p.known;
        stands = p.stands;
      }
    where
      taken : (o : Option (List ℕ)) (dest to pc : ℕ) (slots now last : Slots) (env env2 : Env) (s : Still) (next : Option (List ℕ) → Rest) → Gave k t o → HasVars k env2 now → Stays (scene k) to now slots → HoldsGiven last 0 o → (keeps ≡ true → env2 ≡ env) → Has k pc (results k.ways.line dest 0 (count_of k t)) → GoesOn k t keeps false env slots next dest to (pc + length (results k.ways.line dest 0 (count_of k t))) → Run k (next o env2 s) pc now last s
      taken None dest to pc slots now last env env2 s next g vars st holds same has go =
          let z : pc ≡ pc + 0 = omega arith in
          moved (site k) (z ∙ ap (λ n. pc + length (results k.ways.line dest 0 n)) (sym (void_words g))) (go None env2 s now now last g vars st (λ i lt a. refl) tt same (λ e. absurd (cc)))
      taken (Some v) dest to pc slots now last env env2 s next g vars st holds same has go =
          let count : count_of k t ≡ length v = words_are k.ways.program t (no_array g.0) ∙ sym (length_of _ _ g.1) in
          results_do (site k) v k.ways.line dest 0 pc now last s _ (subst (λ n. Has k pc (results k.ways.line dest 0 n)) count has) holds (λ now3 out holds3.
          moved (site k) (ap (λ n. pc + length (results k.ways.line dest 0 n)) (sym count)) (go (Some v) env2 s now now3 last g vars st (put_outside_is (count_of k t) dest to now3 now (subst (λ n. Outside dest n now3 now) (sym count) out)) holds3 same (λ e. absurd (cc))))

      values : ValueDoes k m t keeps false (λ dest to. code to ++ results k.ways.line dest 0 (count_of k t))
      values = record {
        by = λ dest to pc slots last env s next d room vars has go.
            let ca = code to in
            let cb = results k.ways.line dest 0 (count_of k t) in
            let len : pc + length ca + length cb ≡ pc + length (ca ++ cb) = omega (arith, length-append ca cb) in
            h.by to pc slots last env s next room vars (has_front (site k) pc ca cb has) (λ o env2 s now last2 g vars2 st2 holds same.
            taken o dest to (pc + length ca) slots now last2 env env2 s next g vars2 st2 holds same (has_back (site k) pc ca cb has) (λ o env3 s was now3 last3 g3 vars3 st3 put3 holds3 same3 truth3.
            moved (site k) len (go o env3 s was now3 last3 g3 vars3 st3 put3 holds3 same3 truth3)));
      }

  abbrev pub call_means : Task (List (List ℕ)) → Task (List (List ℕ)) → ℕ → Task (Option (List ℕ))
  call_means object arguments function env s next = object env s (λ os env s. arguments env s (λ vs env s. turn_in k.ways.line s (λ s. k.ways.call function (joined (os ++ vs)) s (λ o s. next o env s))))

  pub call_does : {mo mr : Task (List (List ℕ))} {ts us : List Ty} (t : Ty) (function : ℕ) (g : FunctionRow) (object : Given) (row : Row) → CallsDo k → function_at k.ways.program function ≡ Some g → g.around ≡ [] → SameCalls k.ways.program t g.returns (ts ++ us) (parameter_types g) → object.words ≡ length (flat_map (units_in k.ways.program) ts) → (is_void t ≡ true → count_of k t ≡ 0) → (is_void t ≡ false → is_array t ≡ false) → RowDoes k mo ts object.keeps object.code → RowDoes k mr us row.keeps row.values → CodedDoes k (call_means mo mr function) t (call_coded (spot k) t function object row)
  call_does {mo} {mr} {ts} {us} t function g object row calls there branch alike given void_words no_array ho hr = calling_does t (object.keeps && row.keeps) (λ to. arguments_code object row to ++ here (spot k) (Invoke function to)) void_words no_array (record {
    by = λ to pc slots last env s next room vars has go.
        let ca = object.code to in
        let cb = row.values (to + object.words) in
        let cc2 = here (spot k) (Invoke function to) in
        let front = has_front (site k) pc (ca ++ cb) cc2 has in
        ho.by to pc slots last env s (λ os env s. mr env s (λ vs env s. turn_in k.ways.line s (λ s. k.ways.call function (joined (os ++ vs)) s (λ o s. next o env s)))) room vars (has_front (site k) pc ca cb front) (λ os env1 s now1 last1 fo vars1 st1 holds1 same1.
        hr.by (to + object.words) (pc + length ca) now1 last1 env1 s (λ vs env s. turn_in k.ways.line s (λ s. k.ways.call function (joined (os ++ vs)) s (λ o s. next o env s))) (more_room (scene k) to object.words room) vars1 (has_back (site k) pc ca cb front) (λ vs env2 s now2 last2 fv vars2 st2 holds2 same2.
        let count : length (joined os) ≡ object.words = length_of _ _ fo ∙ sym given in
        let words = joined (os ++ vs) in
        let is : words ≡ joined os ++ joined vs = flat_append (λ ws. ws) os vs in
        let kept : Holds now2 to (joined os) = holds_stays (scene k) (joined os) to (to + object.words) now2 now1 room (omega (arith, count)) st2 holds1 in
        let all : Holds now2 to words = subst (Holds now2 to) (sym is) (holds_join (joined os) (joined vs) to now2 kept (holds_at (joined vs) (to + object.words) (to + length (joined os)) now2 (ap (λ i. to + i) (sym count)) holds2)) in
        let units : flat_map (units_in k.ways.program) ts ++ flat_map (units_in k.ways.program) us ≡ given_units k.ways.program g = sym (ap (λ q. map (λ _. unit_at 0 4) q ++ flat_map (units_in k.ways.program) (parameter_types g)) branch ∙ (sym alike.taken ∙ flat_append (units_in k.ways.program) ts us)) in
        let fits : AreOf (given_units k.ways.program g) words = subst (λ q. AreOf q words) units (subst (AreOf (flat_map (units_in k.ways.program) ts ++ flat_map (units_in k.ways.program) us)) (sym is) (join_fits (flat_map (units_in k.ways.program) ts) (flat_map (units_in k.ways.program) us) (joined os) (joined vs) fo fv)) in
        let at : pc + length (ca ++ cb) ≡ pc + length ca + length cb = omega (arith, length-append ca cb) in
        let end : pc + length ca + length cb + 1 ≡ pc + length ((ca ++ cb) ++ cc2) = omega (arith, length-append ca cb, length-append (ca ++ cb) cc2) in
        invoke_does (site k) (λ s. k.ways.call function words s (λ o s. next o env2 s)) (subst (λ n. Has k n cc2) at (has_back (site k) pc (ca ++ cb) cc2 has)).0 (λ s.
        (calls (frame_at (site k) (pc + length ca + length cb + 1) now2) refl).by function g there words fits (slots_from to now2) (holds_from_start words to now2 all) s (λ o s. next o env2 s) (λ o s last3 gave holds3.
        moved (site k) end (go o env2 s now2 last3 (gave_same k.ways.program t g.returns alike.void alike.given o gave) vars2 (stays_both (scene k) to (to + object.words) now2 now1 slots (omega arith) st2 st1) holds3 (λ e. let b = both_true object.keeps row.keeps e in same2 b.1 ∙ same1 b.0))))));
  })
