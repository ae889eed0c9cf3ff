-- Members by their names lead to members.
use Rattle.std.proofs.Common.{◌≡◌, ℕ, zero, suc, ◌+◌, ◌<◌, Bool, true, false, cond, List, [], ◌∷◌, ◌++◌, map, fold, length, get_or, Option, Some, None, arith, refl, sym, ap, ap₂, subst, ◌∙◌, append_assoc}
use Rattle.std.specs.Prelude.{find, nat_eq, if◌then◌else◌, nat_le, slice_get, unwrap_or}
use Rattle.std.specs.Option.{option_to_list}
use Rattle.std.proofs.lemmas.List.{length-map}
use Rattle.std.proofs.lemmas.Option.{slice_get-get_or, slice_get_within}
use Rattle.al_base.specs.declared.place.Place.{Place}
use Rattle.al_rules.specs.declared.fault.TypeFault.{TypeFault}
use Rattle.al_rules.specs.Outcome.{Good, ask}
use Rattle.al_typed.specs.declared.program.Aggregate.{Aggregate as AggregateRow}
use Rattle.al_typed.specs.declared.ty.Ty.{Ty, roll-Ty}
use Rattle.al_typed.specs.declared.ty.Ty.TheOpen.{Ty-F}
use Rattle.al_typed.specs.declared.ty.Ty.TheVariants as ty
use Rattle.al_typed.specs.declared.ty.Ty.TheViews.{out-Ty, roll-out-Ty}
use denote.Hole.Carrier.{out}
use Rattle.al_typed.specs.Layout.{Layout, beyond, body_layout, further, is_union_of, layout, layouts_after, member, member_offsets, members_of, number_at, offsets_from, row_of}
use Rattle.al_typed.specs.WellTyped.{LeadsTo}
use Rattle.al_environment.specs.declared.environment.Environment.{Environment}
use Rattle.al_environment.specs.declared.environment.MemberNames.{MemberNames}
use Rattle.al_environment.specs.declared.environment.NamedFunction.{NamedFunction}
use Rattle.al_environment.specs.declared.environment.NamedMember.{NamedMember}
use Rattle.al_environment.specs.Lookups.{function_named, functions_in, member_named, members_in}
use Rattle.al_form.specs.declared.form.Form.{Form}
use Rattle.al_form.specs.declared.form.FormMember.{FormMember}
use Rattle.al_form.specs.declared.form.Forms.{Forms}
use Rattle.al_layout.specs.Rules.{rule_7_member, rule_18_size}
use Rattle.al_layout.specs.Rows.{fault_of_member, faults_of_members, member_types, row, ty_of_member, types_of_members, with_form as with_row_form, with_members as with_row_members, with_number, with_rows}
use Rattle.al_layout.specs.Types.{member_ty}
use Rattle.al_member_names.specs.declared.function.OwnFunction.{OwnFunction}
use Rattle.al_sound_environment.specs.Unnamed.{Walk}
use Rattle.al_member_names.specs.Members.{aggregate_if, aggregate_of, begun, interns_of, lent, lent_function, member_names, names_in, of_form, of_members, own, own_at, with_all_lent, with_form, with_forms, with_function, with_lent, with_lent_function, with_member, with_members, with_name, with_numbered, with_own_function, with_ty, with_unnamed}
use Rattle.al_sound_environment.specs.Members.{AreForms, AreOwn, AreStored, Every, HaveMembers, IsNamed, IsOwned, MembersAreSound}
use Rattle.al_sound_environment.proofs.Lists.{every_more, good_is, judged_good, none_in, some_is, then_good}

-- ---- lists

pub found_right : {A : Type 0} (P : A → Type 0) (test : A → Bool) (xs : List A) (x : A) → find test xs ≡ Some x → Every P xs → P x
found_right P test [] x h all = absurd (cc)
found_right P test (y ∷ ys) x h all = go (test y) h (λ e. found_right P test ys x e all.1)
  where
    go : (b : Bool) → cond b (Some y) (find test ys) ≡ Some x → (find test ys ≡ Some x → P x) → P x
    go true h rest = subst P (some_is h) all.0
    go false h rest = rest h

-- ---- paths

offsets-length : (ls : List Layout) (at : ℕ) → length (offsets_from at ls) ≡ length ls
offsets-length [] at = refl
offsets-length (l ∷ ls) at = ap suc (offsets-length ls _)

member_offsets-length : (rows : List AggregateRow) (a : Option AggregateRow) → length (member_offsets rows a) ≡ length (members_of a)
member_offsets-length rows a = go (is_union_of a)
  where
    go : (b : Bool) → length (if b then map (λ _. 0) (members_of a) else offsets_from 0 (map (layout rows) (members_of a))) ≡ length (members_of a)
    go true = length-map (members_of a) (λ _. 0)
    go false = offsets-length (map (layout rows) (members_of a)) 0 ∙ length-map (members_of a) (layout rows)

row_of-Aggregate : (rows : List AggregateRow) (n : ℕ) → row_of rows (ty.Aggregate n) ≡ slice_get rows n
unfolding row_of out-Ty out
row_of-Aggregate rows n = refl

-- a path goes on behind a member
leads_on : (rows : List AggregateRow) (n i : ℕ) (t u : Ty) (path : List ℕ) → slice_get (members_of (slice_get rows n)) i ≡ Some t → LeadsTo rows path t u
    → LeadsTo rows (i ∷ path) (ty.Aggregate n) u
unfolding member
leads_on rows n i t u path e l =
    let a = slice_get rows n in
    let within = slice_get_within (members_of a) i t e in
    let inside : i < length (member_offsets rows a) = subst (λ x. i < x) (sym (member_offsets-length rows a)) within in
    let o = get_or (member_offsets rows a) i 0 in
    let at : slice_get (member_offsets rows a) i ≡ Some o = slice_get-get_or (member_offsets rows a) i 0 inside in (
      record { ty = l.0.ty; at = o + l.0.at },
      (
        ap (λ r. beyond (slice_get (members_of r) i) (slice_get (member_offsets rows r) i) (member rows path)) (row_of-Aggregate rows n)
            ∙ ap₂ (λ x y. beyond x y (member rows path)) e at ∙ ap (further o) l.1.0,
        l.1.1,
      ),
    )

leads_nowhere : (rows : List AggregateRow) (t : Ty) → LeadsTo rows [] t t
unfolding member
leads_nowhere rows t = (record { ty = t; at = 0 }, (refl, refl))

pub aggregate_of-is : (t : Ty) (n : ℕ) → aggregate_of t ≡ Some n → t ≡ ty.Aggregate n
unfolding aggregate_of
aggregate_of-is t n h = sym (roll-out-Ty t) ∙ at (out-Ty t) h
  where
    at : (y : Ty-F Ty) → number_at y ≡ Some n → roll-Ty y ≡ ty.Aggregate n
    at (Ty-F.Aggregate m) h = ty.rolls-Aggregate m ∙ ap ty.Aggregate (some_is h)
    at _ h = absurd (cc)

-- ---- the names of one type

module _ (rows : List AggregateRow) (stored : AreStored rows) where
  record AreNames (n : ℕ) (members : List NamedMember) (functions : List NamedFunction) : Type 0 where
    named : Every (IsNamed rows n) members
    owned : Every (IsOwned rows n) functions

  abbrev IsWalk : ℕ → Walk → Type 0
  IsWalk n w = AreNames n w.members w.functions

  abbrev AreNamesOf : ℕ → MemberNames → Type 0
  AreNamesOf n x = AreNames n x.members x.functions

  -- the type of the member of that number
  abbrev IsAt : ℕ → ℕ → Ty → Type 0
  IsAt n i t = slice_get (members_of (slice_get rows n)) i ≡ Some t

  name_right : (at : Place) (n : ℕ) (w : Walk) (m : NamedMember) → IsWalk n w → IsNamed rows n m → IsWalk n (with_name at w m)
  unfolding with_name
  name_right at n w m h is = record { named = every_more (IsNamed rows n) w.members m h.named is; owned = h.owned }

  function_right : (at : Place) (n : ℕ) (w : Walk) (f : NamedFunction) → IsWalk n w → IsOwned rows n f → IsWalk n (with_function at w f)
  unfolding with_function
  function_right at n w f h is = record { named = h.named; owned = every_more (IsOwned rows n) w.functions f h.owned is }

  -- what the member i lends, which is of the aggregate j
  lent_right : (n i j : ℕ) (interns : List ℕ) (m : NamedMember) → IsAt n i (ty.Aggregate j) → IsNamed rows j m → IsNamed rows n (lent i interns m)
  lent_right n i j interns m e is = record { leads = leads_on rows n i (ty.Aggregate j) m.ty m.path e is.leads; stored = is.stored }

  lent_function_right : (n i j : ℕ) (interns : List ℕ) (f : NamedFunction) → IsAt n i (ty.Aggregate j) → IsOwned rows j f → IsOwned rows n (lent_function i interns f)
  lent_function_right n i j interns f e is = record { adt = is.adt; leads = leads_on rows n i (ty.Aggregate j) (ty.Aggregate is.adt) f.path e is.leads }

  all_lent : (at : Place) (n i j : ℕ) (interns : List ℕ) (w : Walk) (ms : List NamedMember) → IsAt n i (ty.Aggregate j) → Every (IsNamed rows j) ms → IsWalk n w
      → IsWalk n (fold (with_lent at i interns) w ms)
  all_lent at n i j interns w [] e all h = h
  all_lent at n i j interns w (m ∷ ms) e all h =
      all_lent at n i j interns (with_lent at i interns w m) ms e all.1 (name_right at n w (lent i interns m) h (lent_right n i j interns m e all.0))

  all_functions_lent : (at : Place) (n i j : ℕ) (interns : List ℕ) (w : Walk) (ms : List NamedFunction) → IsAt n i (ty.Aggregate j) → Every (IsOwned rows j) ms → IsWalk n w
      → IsWalk n (fold (with_lent_function at i interns) w ms)
  all_functions_lent at n i j interns w [] e all h = h
  all_functions_lent at n i j interns w (m ∷ ms) e all h =
      all_functions_lent at n i j interns (with_lent_function at i interns w m) ms e all.1 (function_right at n w (lent_function i interns m) h (lent_function_right n i j interns m e all.0))

  -- those before, by their numbers
  abbrev IsBefore : List MemberNames → Type 0
  IsBefore before = (j : ℕ) (x : MemberNames) → slice_get before j ≡ Some x → AreNamesOf j x

  names_right : (at : Place) (n i j : ℕ) (interns : List ℕ) (w : Walk) (o : Option MemberNames) → IsAt n i (ty.Aggregate j)
      → ((x : MemberNames) → o ≡ Some x → AreNamesOf j x) → IsWalk n w → IsWalk n (with_all_lent at i interns w o)
  names_right at n i j interns w None e b h = h
  names_right at n i j interns w (Some x) e b h =
      let is = b x refl in
      all_functions_lent at n i j interns (fold (with_lent at i interns) w x.members) x.functions e is.owned (all_lent at n i j interns w x.members e is.named h)

  unnamed_right : (before : List MemberNames) (at : Place) (n i : ℕ) (interns : List ℕ) (w : Walk) (o : Option Ty) → IsBefore before → ((t : Ty) → o ≡ Some t → IsAt n i t)
      → IsWalk n w → IsWalk n (with_unnamed before at i interns w (aggregate_if o))
  unfolding with_unnamed
  unnamed_right before at n i interns w None b e h = record { named = h.named; owned = h.owned }
  unnamed_right before at n i interns w (Some t) b e h = go (aggregate_of t) refl
    where
      go : (a : Option ℕ) → aggregate_of t ≡ a → IsWalk n (with_unnamed before at i interns w a)
      go None is = record { named = h.named; owned = h.owned }
      go (Some j) is =
          names_right at n i j interns _ (slice_get before j) (subst (IsAt n i) (aggregate_of-is t j is) (e t refl)) (b j)
          (record { named = h.named; owned = h.owned })

  ty_right : (before : List MemberNames) (at : Place) (n i : ℕ) (name : Option ℕ) (interns : List ℕ) (w : Walk) (o : Option Ty) → IsBefore before
      → ((t : Ty) → o ≡ Some t → IsAt n i t) → IsWalk n w → IsWalk n (with_ty before at i name interns w o)
  ty_right before at n i None interns w o b e h = unnamed_right before at n i interns w o b e h
  ty_right before at n i (Some name) interns w None b e h = h
  ty_right before at n i (Some name) interns w (Some t) b e h =
      name_right at n w (own i name t interns) h (record { leads = leads_on rows n i t t [] (e t refl) (leads_nowhere rows t); stored = stored n i t (e t refl) })

  module _ (fs : Forms) (ns : List ℕ) where
    abbrev StandFrom : ℕ → ℕ → List FormMember → Type 0
    StandFrom n from ms = (i : ℕ) (m : FormMember) (t : Ty) → slice_get ms i ≡ Some m → member_ty fs ns m.ty ≡ Some t → IsAt n (from + i) t

    numbered_right : (before : List MemberNames) (n i : ℕ) (w : Walk) (m : FormMember) → IsBefore before → ((t : Ty) → member_ty fs ns m.ty ≡ Some t → IsAt n i t)
        → IsWalk n w → IsWalk n (with_numbered fs ns before n i w m)
    numbered_right before n i w m b e h = go (nat_le i 4294967295)
      where
        go : (c : Bool) → IsWalk n (if c then with_member fs ns before n i w m else w)
        go true = ty_right before m.at n i m.name (interns_of n m.is_intern) w (member_ty fs ns m.ty) b e h
        go false = h

    members_right : (before : List MemberNames) (n from : ℕ) (ms : List FormMember) (w : Walk) → IsBefore before → StandFrom n from ms → IsWalk n w
        → IsWalk n (with_members fs ns before n from ms w)
    unfolding with_members
    members_right before n from [] w b e h = h
    members_right before n from (m ∷ ms) w b e h =
        members_right before n (from + 1) ms (with_numbered fs ns before n from w m) b
        (λ i x t at is. subst (λ k. IsAt n k t) (omega arith) (e (suc i) x t at is))
        (numbered_right before n from w m b (λ t is. subst (λ k. IsAt n k t) (omega arith) (e 0 m t refl is)) h)

    abbrev IsOwn : ℕ → OwnFunction → Type 0
    IsOwn n f = f.function.path ≡ []

    own_right : (n : ℕ) (w : Walk) (list : List OwnFunction) → Every (IsOwn n) list → IsWalk n w → IsWalk n (fold with_own_function w list)
    own_right n w [] all h = h
    own_right n w (f ∷ list) all h =
        own_right n (with_own_function w f) list all.1
        (function_right f.at n w f.function h (record {
          adt = n;
          leads = subst (λ p. LeadsTo rows p (ty.Aggregate n) (ty.Aggregate n)) (sym all.0) (leads_nowhere rows (ty.Aggregate n));
        }))

    nothing_right : (n : ℕ) → AreNames n [] []
    nothing_right n = record { named = tt; owned = tt }

    form_right : (before : List MemberNames) (list : List OwnFunction) (o : Option Form) (x : MemberNames) → IsBefore before → Every (IsOwn (length before)) list
        → ((f : Form) (ms : List FormMember) → o ≡ Some f → f.members ≡ Some ms → StandFrom (length before) 0 ms) → of_form fs ns before list o ≡ Good x → AreNamesOf (length before) x
    form_right before list None x b all e h = subst (AreNamesOf (length before)) (good_is h) (nothing_right (length before))
    form_right before list (Some f) x b all e h = go f.members (λ ms is. e f ms refl is) h
      where
        go : (o : Option (List FormMember)) → ((ms : List FormMember) → o ≡ Some ms → StandFrom (length before) 0 ms) → of_members fs ns before list o ≡ Good x → AreNamesOf (length before) x
        go None e h = subst (AreNamesOf (length before)) (good_is h) (nothing_right (length before))
        go (Some ms) e h =
            let w = fold with_own_function (with_members fs ns before (length before) 0 ms begun) list in
            let j = judged_good w.faults (names_in w) x h in
            let right : IsWalk (length before) w = own_right (length before) (with_members fs ns before (length before) 0 ms begun) list all
            (members_right before (length before) 0 ms begun b (e ms refl) (nothing_right (length before))) in
            subst (AreNamesOf (length before)) j.1 (record { named = right.named; owned = right.owned })

    before_more : (before : List MemberNames) (x : MemberNames) → IsBefore before → AreNamesOf (length before) x → IsBefore (before ++ x ∷ [])
    before_more before x b is j y at =
        subst (λ k. AreNamesOf k y) (omega arith)
        (go 0 before (λ i v e. subst (λ k. AreNamesOf k v) (omega arith) (b i v e)) (subst (λ k. AreNamesOf k x) (omega arith) is) j y at)
      where
        go : (from : ℕ) (xs : List MemberNames) → ((j : ℕ) (y : MemberNames) → slice_get xs j ≡ Some y → AreNamesOf (from + j) y) → AreNamesOf (from + length xs) x
            → (j : ℕ) (y : MemberNames) → slice_get (xs ++ x ∷ []) j ≡ Some y → AreNamesOf (from + j) y
        go from [] b is zero y at = subst (AreNamesOf (from + 0)) (some_is at) is
        go from [] b is (suc j) y at = absurd (cc)
        go from (z ∷ zs) b is zero y at = b zero y at
        go from (z ∷ zs) b is (suc j) y at =
            subst (λ k. AreNamesOf k y) (omega arith)
            (go (suc from) zs (λ i v e. subst (λ k. AreNamesOf k v) (omega arith) (b (suc i) v e)) (subst (λ k. AreNamesOf k x) (omega arith) is) j y at)

    forms_right : (list : List (List OwnFunction)) (ks front back : List ℕ) (before more : List MemberNames) → AreOwn list → HaveMembers fs ns rows ks → front ++ back ≡ ks
        → length front ≡ length before → IsBefore before → with_forms fs ns list before back ≡ Good more → IsBefore more
    unfolding with_forms
    forms_right list ks front [] before more all have is count b h = subst IsBefore (good_is h) b
    forms_right list ks front (k ∷ back) before more all have is count b h =
        let t = then_good (with_form fs ns list before (slice_get fs.list k)) (λ next. with_forms fs ns list next back) more h in
        let u = then_good (of_form fs ns before (own_at list (length before)) (slice_get fs.list k)) (λ names. Good (before ++ names ∷ [])) t.0 t.1 in
        let right = form_right before (own_at list (length before)) (slice_get fs.list k) u.0 b (all (length before))
        (λ f ms e m i x v at v_is. subst (λ j. IsAt (length before) j v) (omega arith) (have (length before) k f ms (here front k back ks (length before) is count) e m i x v at v_is)) u.1 in
        let more_before : IsBefore t.0 = subst IsBefore (good_is u.2) (before_more before u.0 b right) in
        forms_right list ks (front ++ k ∷ []) back t.0 more all have (append_assoc front (k ∷ []) back ∙ is)
        (grows front k before u.0 t.0 count (good_is u.2)) more_before t.2
      where
        seam : (front : List ℕ) (k : ℕ) (back : List ℕ) → slice_get (front ++ k ∷ back) (length front) ≡ Some k
        seam [] k back = refl
        seam (x ∷ front) k back = seam front k back

        here : (front : List ℕ) (k : ℕ) (back ks : List ℕ) (n : ℕ) → front ++ k ∷ back ≡ ks → length front ≡ n → slice_get ks n ≡ Some k
        here front k back ks n is count = subst (λ l. slice_get l n ≡ Some k) is (subst (λ x. slice_get (front ++ k ∷ back) x ≡ Some k) count (seam front k back))

        one_more : {A : Type 0} (xs : List A) (x : A) → length (xs ++ x ∷ []) ≡ suc (length xs)
        one_more [] x = refl
        one_more (y ∷ ys) x = ap suc (one_more ys x)

        grows : (front : List ℕ) (k : ℕ) (before : List MemberNames) (x : MemberNames) (next : List MemberNames) → length front ≡ length before → before ++ x ∷ [] ≡ next
            → length (front ++ k ∷ []) ≡ length next
        grows front k before x next count is = one_more front k ∙ ap suc count ∙ sym (one_more before x) ∙ ap length is

    all_names : (list : List (List OwnFunction)) (ks : List ℕ) (names : List MemberNames) → AreOwn list → HaveMembers fs ns rows ks → member_names fs ns ks list ≡ Good names
        → IsBefore names
    unfolding member_names
    all_names list ks names all have h = forms_right list ks [] ks [] names all have refl refl (λ j x at. absurd (cc)) h

    named_is : (list : List (List OwnFunction)) (ks : List ℕ) (env : Environment) → AreOwn list → HaveMembers fs ns rows ks → member_names fs ns ks list ≡ Good env.names
        → (aggregate name : ℕ) (m : NamedMember) → member_named env aggregate name ≡ Some m → IsNamed rows aggregate m
    unfolding member_named
    named_is list ks env all have h a name m e = go (slice_get env.names a) refl e
      where
        go : (o : Option MemberNames) → slice_get env.names a ≡ o → find (λ (x : NamedMember). nat_eq x.name name) (members_in o) ≡ Some m → IsNamed rows a m
        go None is e = absurd (cc)
        go (Some x) is e = found_right (IsNamed rows a) _ x.members m e (all_names list ks env.names all have h a x is).named

    owned_is : (list : List (List OwnFunction)) (ks : List ℕ) (env : Environment) → AreOwn list → HaveMembers fs ns rows ks → member_names fs ns ks list ≡ Good env.names
        → (aggregate name : ℕ) (f : NamedFunction) → function_named env aggregate name ≡ Some f → IsOwned rows aggregate f
    unfolding function_named
    owned_is list ks env all have h a name f e = go (slice_get env.names a) refl e
      where
        go : (o : Option MemberNames) → slice_get env.names a ≡ o → find (λ (x : NamedFunction). nat_eq x.name name) (functions_in o) ≡ Some f → IsOwned rows a f
        go None is e = absurd (cc)
        go (Some x) is e = found_right (IsOwned rows a) _ x.functions f e (all_names list ks env.names all have h a x is).owned

-- ---- rows have the members of forms

module _ (fs : Forms) (ns : List ℕ) where
  pub one_type : (rows : List AggregateRow) (m : FormMember) (rest : List TypeFault) → fault_of_member fs ns rows m ++ rest ≡ [] → (t : Ty) × (ty_of_member fs ns m ≡ Some t)
  one_type rows m rest h = go (ty_of_member fs ns m) (none_in _ _ (none_in (fault_of_member fs ns rows m) rest h).0).1
    where
      go : (o : Option Ty) → ask 7 m.at (rule_7_member rows o) ≡ [] → (t : Ty) × (o ≡ Some t)
      go None h = absurd (cc)
      go (Some t) h = (t, refl)

  types_stand : (rows : List AggregateRow) (ms : List FormMember) → faults_of_members fs ns rows ms ≡ [] → (i : ℕ) (m : FormMember) (t : Ty) → slice_get ms i ≡ Some m
      → member_ty fs ns m.ty ≡ Some t → slice_get (types_of_members fs ns ms) i ≡ Some t
  unfolding faults_of_members types_of_members
  types_stand rows [] h i m t at is = absurd (cc)
  types_stand rows (x ∷ xs) h zero m t at is =
      let same : ty_of_member fs ns x ≡ Some t = ap (λ (y : FormMember). ty_of_member fs ns y) (some_is at) ∙ is in
      ap (λ o. slice_get (option_to_list o ++ types_of_members fs ns xs) 0) same
  types_stand rows (x ∷ xs) h (suc i) m t at is =
      let one = one_type rows x (faults_of_members fs ns rows xs) h in
      let hs = none_in (fault_of_member fs ns rows x) (faults_of_members fs ns rows xs) h in
      ap (λ o. slice_get (option_to_list o ++ types_of_members fs ns xs) (suc i)) one.1 ∙ types_stand rows xs hs.1 i m t at is

  -- a row that has the members of a form
  abbrev Fits : Form → AggregateRow → Type 0
  Fits f a = (ms : List FormMember) → f.members ≡ Some ms → (i : ℕ) (m : FormMember) (t : Ty) → slice_get ms i ≡ Some m → member_ty fs ns m.ty ≡ Some t → slice_get (members_of (Some a)) i ≡ Some t

  types_fit : (rows : List AggregateRow) (o : Option (List FormMember)) (types : Option (List Ty)) → member_types fs ns rows o ≡ Good types
      → (ms : List FormMember) → o ≡ Some ms → (i : ℕ) (m : FormMember) (t : Ty) → slice_get ms i ≡ Some m → member_ty fs ns m.ty ≡ Some t → slice_get (unwrap_or types []) i ≡ Some t
  types_fit rows None types h ms e i m t at is = absurd (cc)
  types_fit rows (Some xs) types h ms e i m t at is =
      let j = judged_good (faults_of_members fs ns rows xs) (Some (types_of_members fs ns xs)) types h in
      subst (λ (o : Option (List Ty)). slice_get (unwrap_or o []) i ≡ Some t) j.1
      (types_stand rows xs j.0 i m t (subst (λ l. slice_get l i ≡ Some m) (sym (some_is e)) at) is)

  pub form_row : (rows more : List AggregateRow) (f : Form) → with_row_form fs ns rows f ≡ Good more → (a : AggregateRow) × (rows ++ a ∷ [] ≡ more) × Fits f a
  unfolding with_row_form with_row_members
  form_row rows more f h =
      let t = then_good (member_types fs ns rows f.members) (with_row_members rows f) more h in
      let l = body_layout (layouts_after [] rows) f.is_union t.0 in
      let a = row f.is_union t.0 l in
      let j = judged_good (ask 18 f.at (rule_18_size l)) (rows ++ a ∷ []) more t.2 in
      (a, j.1, λ ms e i m v at is. types_fit rows f.members t.0 t.1 ms e i m v at is)

  -- each row fits the form of its number
  abbrev Fit : List AggregateRow → List ℕ → Type 0
  Fit rows ks = (n k : ℕ) (f : Form) → slice_get ks n ≡ Some k → slice_get fs.list k ≡ Some f → (a : AggregateRow) × (slice_get rows n ≡ Some a) × Fits f a

  abbrev Kept : List AggregateRow → List AggregateRow → Type 0
  Kept rows more = (n : ℕ) (a : AggregateRow) → slice_get rows n ≡ Some a → slice_get more n ≡ Some a

  kept_more : (rows : List AggregateRow) (x : AggregateRow) → Kept rows (rows ++ x ∷ [])
  kept_more [] x n a h = absurd (cc)
  kept_more (y ∷ ys) x zero a h = h
  kept_more (y ∷ ys) x (suc n) a h = kept_more ys x n a h

  last_row : (rows : List AggregateRow) (x : AggregateRow) → slice_get (rows ++ x ∷ []) (length rows) ≡ Some x
  last_row [] x = refl
  last_row (y ∷ ys) x = last_row ys x

  pub longer : (rows : List AggregateRow) (x : AggregateRow) → length (rows ++ x ∷ []) ≡ suc (length rows)
  longer [] x = refl
  longer (y ∷ ys) x = ap suc (longer ys x)

  abbrev FitFrom : List AggregateRow → ℕ → List ℕ → Type 0
  FitFrom rows from ks = (n k : ℕ) (f : Form) → slice_get ks n ≡ Some k → slice_get fs.list k ≡ Some f → (a : AggregateRow) × (slice_get rows (from + n) ≡ Some a) × Fits f a

  rows_fit : (rows more : List AggregateRow) (ks : List ℕ) → AreForms fs ks → with_rows fs ns rows ks ≡ Good more → Kept rows more × FitFrom more (length rows) ks
  unfolding with_rows
  rows_fit rows more [] all h = (λ n a e. subst (λ l. slice_get l n ≡ Some a) (good_is h) e, λ n k f e. absurd (cc))
  rows_fit rows more (k ∷ ks) all h =
      let t = then_good (with_number fs ns rows (slice_get fs.list k)) (λ next. with_rows fs ns next ks) more h in
      let f = all.0.0 in
      let made = form_row rows t.0 f (subst (λ o. with_number fs ns rows o ≡ Good t.0) all.0.1 t.1) in
      let rest = rows_fit t.0 more ks all.1 t.2 in
      let count : length t.0 ≡ suc (length rows) = ap length (sym made.1) ∙ longer rows made.0 in
      let here : slice_get more (length rows) ≡ Some made.0 = rest.0 (length rows) made.0 (subst (λ l. slice_get l (length rows) ≡ Some made.0) made.1 (last_row rows made.0)) in
      (λ n a e. rest.0 n a (subst (λ l. slice_get l n ≡ Some a) made.1 (kept_more rows made.0 n a e)), go t.0 f made.0 all.0.1 made.2 rest.1 count here)
    where
      go : (next : List AggregateRow) (f : Form) (a : AggregateRow) → slice_get fs.list k ≡ Some f → Fits f a → FitFrom more (length next) ks → length next ≡ suc (length rows) → slice_get more (length rows) ≡ Some a
          → FitFrom more (length rows) (k ∷ ks)
      go next f a form fits rest count here zero j g e there =
          let same : Some f ≡ Some g = sym form ∙ ap (slice_get fs.list) (some_is e) ∙ there in
          (a, subst (λ x. slice_get more x ≡ Some a) (omega arith) here, subst (λ x. Fits x a) (some_is same) fits)
      go next f a form fits rest count here (suc n) j g e there =
          let r = rest n j g e there in
          (r.0, subst (λ x. slice_get more x ≡ Some r.0) (omega arith) r.1, r.2)

have_members : (fs : Forms) (ns ks : List ℕ) (rows : List AggregateRow) → AreForms fs ks → with_rows fs ns [] ks ≡ Good rows → HaveMembers fs ns rows ks
have_members fs ns ks rows all h n k f ms e there is i m t at m_is =
    let fit = (rows_fit fs ns [] rows ks all h).1 n k f e there in
    ap (λ o. slice_get (members_of o) i) (subst (λ x. slice_get rows x ≡ Some fit.0) (omega arith) fit.1) ∙ fit.2 ms is i m t at m_is

pub members_are_sound : MembersAreSound
members_are_sound = record {
  have_members = have_members;
  named = λ fs ns ks rows own env have stored all h. named_is rows stored fs ns own ks env all have h;
  owned = λ fs ns ks rows own env have stored all h. owned_is rows stored fs ns own ks env all have h;
}
