-- Functions by their names lead to functions that adts have of their own.
use Rattle.std.proofs.Common.{◌≡◌, ℕ, zero, suc, ◌+◌, Bool, true, false, ◌||◌, not, cond, nat_eq, List, [], ◌∷◌, ◌++◌, map, fold, length, get_or, ◌<◌, Option, Some, None, arith, refl, sym, ap, ap₂, subst, ◌∙◌, append_assoc}
use Rattle.std.specs.Prelude.{find, if◌then◌else◌, nat_le, slice_get}
use Rattle.std.specs.List.{list_any}
use Rattle.std.proofs.lemmas.Bool.{eq-eqb}
use Rattle.std.proofs.lemmas.List.{length-map}
use Rattle.std.proofs.lemmas.Option.{slice_get-get_or, slice_get_within}
use Rattle.al_base.specs.declared.place.Place.{Place}
use Rattle.al_rules.specs.Outcome.{Good, ask}
use Rattle.al_typed.specs.declared.program.Aggregate.{Aggregate as AggregateRow}
use Rattle.al_typed.specs.declared.ty.Ty.{Ty}
use Rattle.al_typed.specs.declared.ty.Ty.TheVariants as ty
use Rattle.al_typed.specs.declared.ty.Ty.TheViews.{out-Ty}
use denote.Hole.Carrier.{out}
use Rattle.al_typed.specs.Layout.{Layout, beyond, further, is_union_of, layout, member, member_offsets, members_of, offsets_from, row_of}
use Rattle.al_typed.specs.WellTyped.{LeadsTo}
use Rattle.al_environment.specs.declared.environment.MemberNames.{MemberNames}
use Rattle.al_environment.specs.declared.environment.NamedFunction.{NamedFunction}
use Rattle.al_environment.specs.declared.environment.NamedMember.{NamedMember}
use Rattle.al_environment.specs.Lookups.{functions_in}
use Rattle.al_form.specs.declared.form.Form.{Form}
use Rattle.al_form.specs.declared.form.FormMember.{FormMember}
use Rattle.al_form.specs.declared.form.Forms.{Forms}
use Rattle.al_layout.specs.Types.{member_ty}
use Rattle.al_member_names.specs.Rules.{is_among, rule_8_once}
use Rattle.al_member_names.specs.declared.function.OwnFunction.{OwnFunction}
use Rattle.al_member_names.specs.Members.{aggregate_if, aggregate_of, begun, interns_of, lent_function, member_names, names_in, of_form, of_members, own, own_at, with_all_lent, with_form, with_forms, with_function, with_lent, with_lent_function, with_member, with_members, with_name, with_numbered, with_own_function, with_ty, with_unnamed}
use Rattle.al_sound_environment.specs.Members.{HaveMembers}
use Rattle.al_sound_environment.specs.Unnamed as unnamed
use Rattle.al_sound_environment.proofs.MembersAre.{aggregate_of-is}
use Rattle.al_sound_calls.proofs.Lists.{Every, asked_true, judged_good, none_in, some_is, then_good}
use Rattle.al_sound_calls.proofs.Declares.{nil_first}

pub good_is : {A : Type 0} {a b : A} → Good a ≡ Good b → a ≡ b
good_is h = cc

pub every_more : {A : Type 0} (P : A → Type 0) (xs : List A) (y : A) → Every P xs → P y → Every P (xs ++ y ∷ [])
every_more P [] y h p = (p, tt)
every_more P (x ∷ xs) y h p = (h.0, every_more P xs y h.1 p)

pub every_both : {A : Type 0} (P Q R : A → Type 0) → ((x : A) → P x → Q x → R x) → (xs : List A) → Every P xs → Every Q xs → Every R xs
every_both P Q R f [] p q = tt
every_both P Q R f (x ∷ xs) p q = (f x p.0 q.0, every_both P Q R f xs p.1 q.1)

pub found_right : {A : Type 0} (P : A → Type 0) (test : A → Bool) (xs : List A) (x : A) → find test xs ≡ Some x → Every P xs → P x × (test x ≡ true)
found_right P test [] x h all = absurd (cc)
found_right P test (y ∷ ys) x h all = go (test y) refl h (λ e. found_right P test ys x e all.1)
  where
    go : (b : Bool) → test y ≡ b → cond b (Some y) (find test ys) ≡ Some x → (find test ys ≡ Some x → P x × (test x ≡ true)) → P x × (test x ≡ true)
    go true is h rest = (subst P (some_is h) all.0, ap test (sym (some_is h)) ∙ is)
    go false is h rest = rest h

-- ---- paths

offsets-length : (ls : List Layout) (at : ℕ) → length (offsets_from at ls) ≡ length ls
offsets-length [] at = refl
offsets-length (l ∷ ls) at = ap suc (offsets-length ls _)

member_offsets-length : (rows : List AggregateRow) (a : Option AggregateRow) → length (member_offsets rows a) ≡ length (members_of a)
member_offsets-length rows a = go (is_union_of a)
  where
    go : (b : Bool) → length (if b then map (λ _. 0) (members_of a) else offsets_from 0 (map (layout rows) (members_of a))) ≡ length (members_of a)
    go true = length-map (members_of a) (λ _. 0)
    go false = offsets-length (map (layout rows) (members_of a)) 0 ∙ length-map (members_of a) (layout rows)

row_of-Aggregate : (rows : List AggregateRow) (n : ℕ) → row_of rows (ty.Aggregate n) ≡ slice_get rows n
unfolding row_of out-Ty out
row_of-Aggregate rows n = refl

-- a path goes on behind a member
leads_on : (rows : List AggregateRow) (n i : ℕ) (t u : Ty) (path : List ℕ) → slice_get (members_of (slice_get rows n)) i ≡ Some t → LeadsTo rows path t u
    → LeadsTo rows (i ∷ path) (ty.Aggregate n) u
unfolding member
leads_on rows n i t u path e l =
    let a = slice_get rows n in
    let within = slice_get_within (members_of a) i t e in
    let inside : i < length (member_offsets rows a) = subst (λ x. i < x) (sym (member_offsets-length rows a)) within in
    let o = get_or (member_offsets rows a) i 0 in
    let at : slice_get (member_offsets rows a) i ≡ Some o = slice_get-get_or (member_offsets rows a) i 0 inside in (
      record { ty = l.0.ty; at = o + l.0.at },
      (
        ap (λ r. beyond (slice_get (members_of r) i) (slice_get (member_offsets rows r) i) (member rows path)) (row_of-Aggregate rows n)
            ∙ ap₂ (λ x y. beyond x y (member rows path)) e at ∙ ap (further o) l.1.0,
        l.1.1,
      ),
    )

leads_nowhere : (rows : List AggregateRow) (t : Ty) → LeadsTo rows [] t t
unfolding member
leads_nowhere rows t = (record { ty = t; at = 0 }, (refl, refl))

-- ---- the own functions of one type have names of their own

abbrev pub is_named : ℕ → OwnFunction → Bool
is_named name f = nat_eq f.function.name name

any_more : {A : Type 0} (p : A → Bool) (xs : List A) (x : A) → list_any p (xs ++ x ∷ []) ≡ false → (list_any p xs ≡ false) × (p x ≡ false)
any_more p [] x h = (refl, go (p x) h)
  where
    go : (b : Bool) → (b || false) ≡ false → b ≡ false
    go true h = h
    go false h = refl
any_more p (y ∷ ys) x h = go (p y) (any_more p ys x) h
  where
    go : (b : Bool) → (list_any p (ys ++ x ∷ []) ≡ false → (list_any p ys ≡ false) × (p x ≡ false)) → (b || list_any p (ys ++ x ∷ [])) ≡ false → ((b || list_any p ys) ≡ false) × (p x ≡ false)
    go true rest h = absurd (let f : ⊥ = cc in f)
    go false rest h = rest h

own_back : (w : unnamed.Walk) (fs : List OwnFunction) → (fold with_own_function w fs).faults ≡ [] → w.faults ≡ []
unfolding with_function
own_back w [] h = h
own_back w (f ∷ fs) h = nil_first w.faults _ (own_back (with_own_function w f) fs h)

once_is : (names : List ℕ) (name : ℕ) → rule_8_once names name ≡ true → is_among names name ≡ false
once_is names name h = go (is_among names name) h
  where
    go : (b : Bool) → not b ≡ true → b ≡ false
    go true h = absurd (let f : ⊥ = cc in f)
    go false h = refl

apart : (w : unnamed.Walk) (fs : List OwnFunction) → (fold with_own_function w fs).faults ≡ [] → Every (λ (g : OwnFunction). is_among w.names g.function.name ≡ false) fs
unfolding with_function
apart w [] h = tt
apart w (f ∷ fs) h =
    let e = own_back (with_own_function w f) fs h in
    let first = asked_true 8 f.at (rule_8_once w.names f.function.name) (none_in w.faults (ask 8 f.at (rule_8_once w.names f.function.name)) e).1 in (
      once_is w.names f.function.name first,
      every_both _ (λ _. Unit {0}) (λ (g : OwnFunction). is_among w.names g.function.name ≡ false) (λ g p q. (any_more (λ n. nat_eq n g.function.name) w.names f.function.name p).0) fs
          (apart (with_own_function w f) fs h) (all_units fs),
    )
  where
    all_units : (gs : List OwnFunction) → Every (λ _. Unit {0}) gs
    all_units [] = tt
    all_units (g ∷ gs) = (tt, all_units gs)

abbrev IsFirst : List OwnFunction → OwnFunction → Type 0
IsFirst fs g = find (is_named g.function.name) fs ≡ Some g

firsts : (w : unnamed.Walk) (fs : List OwnFunction) → (fold with_own_function w fs).faults ≡ [] → Every (IsFirst fs) fs
unfolding with_function
firsts w [] h = tt
firsts w (f ∷ fs) h = (
  ap (λ b. cond b (Some f) (find (is_named f.function.name) fs)) (eq-eqb f.function.name f.function.name refl),
  every_both (IsFirst fs) (λ (g : OwnFunction). is_among (with_own_function w f).names g.function.name ≡ false) (IsFirst (f ∷ fs))
      (λ g p q. ap (λ b. cond b (Some f) (find (is_named g.function.name) fs)) (any_more (λ n. nat_eq n g.function.name) w.names f.function.name q).1 ∙ p) fs
      (firsts (with_own_function w f) fs h) (apart (with_own_function w f) fs h),
)

-- ---- the functions of one type

-- a function is one that an adt has of its own, which is that of its object
pub record IsOrigin (rows : List AggregateRow) (list : List (List OwnFunction)) (n : ℕ) (f : NamedFunction) : Type 0 where
  pub adt : ℕ
  pub leads : LeadsTo rows f.path (ty.Aggregate n) (ty.Aggregate adt)
  pub from : OwnFunction
  pub first : find (is_named f.name) (own_at list adt) ≡ Some from
  pub passed : from.function.passed ≡ f.passed
  pub types : from.function.signature ≡ f.signature

module _ (rows : List AggregateRow) (list : List (List OwnFunction)) where
  abbrev AreFrom : ℕ → List NamedFunction → Type 0
  AreFrom n fs = Every (IsOrigin rows list n) fs

  abbrev IsWalk : ℕ → unnamed.Walk → Type 0
  IsWalk n w = AreFrom n w.functions

  -- the type of the member of that number
  abbrev IsAt : ℕ → ℕ → Ty → Type 0
  IsAt n i t = slice_get (members_of (slice_get rows n)) i ≡ Some t

  name_right : (at : Place) (n : ℕ) (w : unnamed.Walk) (m : NamedMember) → IsWalk n w → IsWalk n (with_name at w m)
  unfolding with_name
  name_right at n w m h = h

  function_right : (at : Place) (n : ℕ) (w : unnamed.Walk) (f : NamedFunction) → IsWalk n w → IsOrigin rows list n f → IsWalk n (with_function at w f)
  unfolding with_function
  function_right at n w f h is = every_more (IsOrigin rows list n) w.functions f h is

  -- what the member i lends, which is of the aggregate j
  lent_right : (n i j : ℕ) (interns : List ℕ) (f : NamedFunction) → IsAt n i (ty.Aggregate j) → IsOrigin rows list j f → IsOrigin rows list n (lent_function i interns f)
  lent_right n i j interns f e is = record {
    adt = is.adt;
    leads = leads_on rows n i (ty.Aggregate j) (ty.Aggregate is.adt) f.path e is.leads;
    from = is.from;
    first = is.first;
    passed = is.passed;
    types = is.types;
  }

  all_members_lent : (at : Place) (n i : ℕ) (interns : List ℕ) (w : unnamed.Walk) (ms : List NamedMember) → IsWalk n w → IsWalk n (fold (with_lent at i interns) w ms)
  all_members_lent at n i interns w [] h = h
  all_members_lent at n i interns w (m ∷ ms) h = all_members_lent at n i interns (with_lent at i interns w m) ms (name_right at n w _ h)

  all_lent : (at : Place) (n i j : ℕ) (interns : List ℕ) (w : unnamed.Walk) (ms : List NamedFunction) → IsAt n i (ty.Aggregate j) → AreFrom j ms → IsWalk n w
      → IsWalk n (fold (with_lent_function at i interns) w ms)
  all_lent at n i j interns w [] e all h = h
  all_lent at n i j interns w (m ∷ ms) e all h =
      all_lent at n i j interns (with_lent_function at i interns w m) ms e all.1 (function_right at n w (lent_function i interns m) h (lent_right n i j interns m e all.0))

  -- those before, by their numbers
  abbrev IsBefore : List MemberNames → Type 0
  IsBefore before = (j : ℕ) (x : MemberNames) → slice_get before j ≡ Some x → AreFrom j x.functions

  names_right : (at : Place) (n i j : ℕ) (interns : List ℕ) (w : unnamed.Walk) (o : Option MemberNames) → IsAt n i (ty.Aggregate j)
      → ((x : MemberNames) → o ≡ Some x → AreFrom j x.functions) → IsWalk n w → IsWalk n (with_all_lent at i interns w o)
  names_right at n i j interns w None e b h = h
  names_right at n i j interns w (Some x) e b h =
      all_lent at n i j interns (fold (with_lent at i interns) w x.members) x.functions e (b x refl) (all_members_lent at n i interns w x.members h)

  unnamed_right : (before : List MemberNames) (at : Place) (n i : ℕ) (interns : List ℕ) (w : unnamed.Walk) (o : Option Ty) → IsBefore before → ((t : Ty) → o ≡ Some t → IsAt n i t)
      → IsWalk n w → IsWalk n (with_unnamed before at i interns w (aggregate_if o))
  unfolding with_unnamed
  unnamed_right before at n i interns w None b e h = h
  unnamed_right before at n i interns w (Some t) b e h = go (aggregate_of t) refl
    where
      go : (a : Option ℕ) → aggregate_of t ≡ a → IsWalk n (with_unnamed before at i interns w a)
      go None is = h
      go (Some j) is = names_right at n i j interns _ (slice_get before j) (subst (IsAt n i) (aggregate_of-is t j is) (e t refl)) (b j) h

  ty_right : (before : List MemberNames) (at : Place) (n i : ℕ) (name : Option ℕ) (interns : List ℕ) (w : unnamed.Walk) (o : Option Ty) → IsBefore before
      → ((t : Ty) → o ≡ Some t → IsAt n i t) → IsWalk n w → IsWalk n (with_ty before at i name interns w o)
  ty_right before at n i None interns w o b e h = unnamed_right before at n i interns w o b e h
  ty_right before at n i (Some name) interns w None b e h = h
  ty_right before at n i (Some name) interns w (Some t) b e h = name_right at n w (own i name t interns) h

  own_right : (n : ℕ) (w : unnamed.Walk) (fs : List OwnFunction) → Every (λ (f : OwnFunction). IsOrigin rows list n f.function) fs → IsWalk n w → IsWalk n (fold with_own_function w fs)
  own_right n w [] all h = h
  own_right n w (f ∷ fs) all h = own_right n (with_own_function w f) fs all.1 (function_right f.at n w f.function h all.0)

  module _ (fs : Forms) (ns : List ℕ) where
    abbrev StandFrom : ℕ → ℕ → List FormMember → Type 0
    StandFrom n from ms = (i : ℕ) (m : FormMember) (t : Ty) → slice_get ms i ≡ Some m → member_ty fs ns m.ty ≡ Some t → IsAt n (from + i) t

    numbered_right : (before : List MemberNames) (n i : ℕ) (w : unnamed.Walk) (m : FormMember) → IsBefore before → ((t : Ty) → member_ty fs ns m.ty ≡ Some t → IsAt n i t)
        → IsWalk n w → IsWalk n (with_numbered fs ns before n i w m)
    numbered_right before n i w m b e h = go (nat_le i 4294967295)
      where
        go : (c : Bool) → IsWalk n (if c then with_member fs ns before n i w m else w)
        go true = ty_right before m.at n i m.name (interns_of n m.is_intern) w (member_ty fs ns m.ty) b e h
        go false = h

    members_right : (before : List MemberNames) (n from : ℕ) (ms : List FormMember) (w : unnamed.Walk) → IsBefore before → StandFrom n from ms → IsWalk n w
        → IsWalk n (with_members fs ns before n from ms w)
    unfolding with_members
    members_right before n from [] w b e h = h
    members_right before n from (m ∷ ms) w b e h =
        members_right before n (from + 1) ms (with_numbered fs ns before n from w m) b
        (λ i x t at is. subst (λ k. IsAt n k t) (omega arith) (e (suc i) x t at is))
        (numbered_right before n from w m b (λ t is. subst (λ k. IsAt n k t) (omega arith) (e 0 m t refl is)) h)

    own_from : (n : ℕ) (w : unnamed.Walk) (gs : List OwnFunction) → own_at list n ≡ gs → Every (λ (f : OwnFunction). f.function.path ≡ []) gs
        → (fold with_own_function w gs).faults ≡ [] → Every (λ (f : OwnFunction). IsOrigin rows list n f.function) gs
    own_from n w gs is plain h =
        every_both (IsFirst gs) (λ (f : OwnFunction). f.function.path ≡ []) (λ (f : OwnFunction). IsOrigin rows list n f.function)
        (λ f p q. record {
          adt = n;
          leads = subst (λ l. LeadsTo rows l (ty.Aggregate n) (ty.Aggregate n)) (sym q) (leads_nowhere rows (ty.Aggregate n));
          from = f;
          first = ap (find (is_named f.function.name)) is ∙ p;
          passed = refl;
          types = refl;
        }) gs (firsts w gs h) plain

    form_right : (before : List MemberNames) (o : Option Form) (x : MemberNames) → IsBefore before → Every (λ (f : OwnFunction). f.function.path ≡ []) (own_at list (length before))
        → ((f : Form) (ms : List FormMember) → o ≡ Some f → f.members ≡ Some ms → StandFrom (length before) 0 ms) → of_form fs ns before (own_at list (length before)) o ≡ Good x
        → AreFrom (length before) x.functions
    form_right before None x b all e h = subst (λ (y : MemberNames). AreFrom (length before) y.functions) (good_is h) tt
    form_right before (Some f) x b all e h = go f.members (λ ms is. e f ms refl is) h
      where
        go : (o : Option (List FormMember)) → ((ms : List FormMember) → o ≡ Some ms → StandFrom (length before) 0 ms) → of_members fs ns before (own_at list (length before)) o ≡ Good x
            → AreFrom (length before) x.functions
        go None e h = subst (λ (y : MemberNames). AreFrom (length before) y.functions) (good_is h) tt
        go (Some ms) e h =
            let v = with_members fs ns before (length before) 0 ms begun in
            let gs = own_at list (length before) in
            let w = fold with_own_function v gs in
            let j = judged_good w.faults (names_in w) x h in
            subst (λ (y : MemberNames). AreFrom (length before) y.functions) j.1
            (own_right (length before) v gs (own_from (length before) v gs refl all j.0) (members_right before (length before) 0 ms begun b (e ms refl) tt))

    before_more : (before : List MemberNames) (x : MemberNames) → IsBefore before → AreFrom (length before) x.functions → IsBefore (before ++ x ∷ [])
    before_more before x b is j y at =
        subst (λ k. AreFrom k y.functions) (omega arith)
        (go 0 before (λ i v e. subst (λ k. AreFrom k v.functions) (omega arith) (b i v e)) (subst (λ k. AreFrom k x.functions) (omega arith) is) j y at)
      where
        go : (from : ℕ) (xs : List MemberNames) → ((j : ℕ) (y : MemberNames) → slice_get xs j ≡ Some y → AreFrom (from + j) y.functions) → AreFrom (from + length xs) x.functions
            → (j : ℕ) (y : MemberNames) → slice_get (xs ++ x ∷ []) j ≡ Some y → AreFrom (from + j) y.functions
        go from [] b is zero y at = subst (λ (z : MemberNames). AreFrom (from + 0) z.functions) (some_is at) is
        go from [] b is (suc j) y at = absurd (cc)
        go from (z ∷ zs) b is zero y at = b zero y at
        go from (z ∷ zs) b is (suc j) y at =
            subst (λ k. AreFrom k y.functions) (omega arith)
            (go (suc from) zs (λ i v e. subst (λ k. AreFrom k v.functions) (omega arith) (b (suc i) v e)) (subst (λ k. AreFrom k x.functions) (omega arith) is) j y at)

    seam : (front : List ℕ) (k : ℕ) (back : List ℕ) → slice_get (front ++ k ∷ back) (length front) ≡ Some k
    seam [] k back = refl
    seam (x ∷ front) k back = seam front k back

    here : (front : List ℕ) (k : ℕ) (back ks : List ℕ) (n : ℕ) → front ++ k ∷ back ≡ ks → length front ≡ n → slice_get ks n ≡ Some k
    here front k back ks n is count = subst (λ l. slice_get l n ≡ Some k) is (subst (λ x. slice_get (front ++ k ∷ back) x ≡ Some k) count (seam front k back))

    one_more : {A : Type 0} (xs : List A) (x : A) → length (xs ++ x ∷ []) ≡ suc (length xs)
    one_more [] x = refl
    one_more (y ∷ ys) x = ap suc (one_more ys x)

    grows : (front : List ℕ) (k : ℕ) (before : List MemberNames) (x : MemberNames) (next : List MemberNames) → length front ≡ length before → before ++ x ∷ [] ≡ next
        → length (front ++ k ∷ []) ≡ length next
    grows front k before x next count is = one_more front k ∙ ap suc count ∙ sym (one_more before x) ∙ ap length is

    abbrev ArePlain : Type 0
    ArePlain = (n : ℕ) → Every (λ (f : OwnFunction). f.function.path ≡ []) (own_at list n)

    forms_right : (ks front back : List ℕ) (before more : List MemberNames) → ArePlain → HaveMembers fs ns rows ks → front ++ back ≡ ks
        → length front ≡ length before → IsBefore before → with_forms fs ns list before back ≡ Good more → IsBefore more
    unfolding with_forms
    forms_right ks front [] before more all have is count b h = subst IsBefore (good_is h) b
    forms_right ks front (k ∷ back) before more all have is count b h =
        let t = then_good (with_form fs ns list before (slice_get fs.list k)) (λ next. with_forms fs ns list next back) more h in
        let u = then_good (of_form fs ns before (own_at list (length before)) (slice_get fs.list k)) (λ names. Good (before ++ names ∷ [])) t.0 t.1 in
        let right = form_right before (slice_get fs.list k) u.0 b (all (length before))
        (λ f ms e m i x v at v_is. subst (λ j. IsAt (length before) j v) (omega arith) (have (length before) k f ms (here front k back ks (length before) is count) e m i x v at v_is)) u.1 in
        let more_before : IsBefore t.0 = subst IsBefore (good_is u.2) (before_more before u.0 b right) in
        forms_right ks (front ++ k ∷ []) back t.0 more all have (append_assoc front (k ∷ []) back ∙ is)
        (grows front k before u.0 t.0 count (good_is u.2)) more_before t.2

    pub method_is : (ks : List ℕ) (names : List MemberNames) → ArePlain → HaveMembers fs ns rows ks → member_names fs ns ks list ≡ Good names → (a name : ℕ) (f : NamedFunction)
        → find (λ (x : NamedFunction). nat_eq x.name name) (functions_in (slice_get names a)) ≡ Some f → IsOrigin rows list a f × (nat_eq f.name name ≡ true)
    unfolding member_names
    method_is ks names all have h a name f e = go (slice_get names a) refl e
      where
        before : IsBefore names
        before = forms_right ks [] ks [] names all have refl refl (λ j x at. absurd (cc)) h

        go : (o : Option MemberNames) → slice_get names a ≡ o → find (λ (x : NamedFunction). nat_eq x.name name) (functions_in o) ≡ Some f → IsOrigin rows list a f × (nat_eq f.name name ≡ true)
        go None is e = absurd (cc)
        go (Some x) is e = found_right (IsOrigin rows list a) _ x.functions f e (before a x is)
