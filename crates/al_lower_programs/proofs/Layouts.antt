-- The layouts of a lowered program are those of the types that use them.
use Rattle.std.proofs.Common.{◌≡◌, ℕ, zero, suc, ◌+◌, ◌<◌, List, [], ◌∷◌, ◌++◌, map, take, length, Option, Some, None, refl, sym, ap, ap₂, ◌∙◌, subst, arith, length-append}
use Rattle.std.specs.Prelude.{Bool, true, false, if◌then◌else◌, filter, slice_get}
use Rattle.std.specs.List.{flat_map}
use Rattle.std.proofs.lemmas.Option.{same_Some}
use Rattle.al_typed.specs.declared.ty.Ty.{Ty}
use Rattle.al_typed.specs.declared.ty.Ty.TheOpen.{Ty-F}
use Rattle.al_typed.specs.declared.ty.Ty.TheVariants as ty
use Rattle.al_typed.specs.declared.ty.Ty.TheViews.{out-Ty, roll-Ty, roll-out-Ty}
use Rattle.al_typed.specs.declared.program.Aggregate.{Aggregate}
use Rattle.al_typed.specs.declared.program.Function.{Function as FunctionRow}
use Rattle.al_typed.specs.declared.program.Local.{Local as LocalRow}
use Rattle.al_typed.specs.declared.program.Program.{Program}
use Rattle.al_typed.specs.Layout.{Layout, IsLaidOut}
use Rattle.al_typed.proofs.Layouts.{layout-none, layout-row}
use Rattle.al_meaning.specs.Places.{function_at}
use Rattle.al_meaning.specs.Here.{units_in, size_in}
use Rattle.al_ir.specs.Units.{units_at, units_or_none}
use Rattle.al_lower_code.specs.Homes.{Spot, units, size}
use Rattle.al_lower_code.specs.Moving.{is_wide, layout_at, layout_number}
use Rattle.al_lower_code.specs.Functions.{runs_of, aggregate_runs, is_wide_parameter, wide_among, wide_in, local_runs, layouts, wide_number, lowered}
use Rattle.al_lower_programs.proofs.Runs.{runs_are}

-- ---- lists

get_front : {A : Type 0} (xs ys : List A) (k : ℕ) (x : A) → slice_get xs k ≡ Some x → slice_get (xs ++ ys) k ≡ Some x
get_front [] ys k x e = absurd (cc)
get_front (a ∷ xs) ys zero x e = e
get_front (a ∷ xs) ys (suc k) x e = get_front xs ys k x e

get_behind : {A : Type 0} (xs ys : List A) (k : ℕ) → slice_get (xs ++ ys) (length xs + k) ≡ slice_get ys k
get_behind [] ys k = let e : 0 + k ≡ k = omega arith in ap (slice_get ys) e
get_behind (a ∷ xs) ys k = let e : suc (length xs) + k ≡ suc (length xs + k) = omega arith in ap (slice_get (a ∷ xs ++ ys)) e ∙ get_behind xs ys k

pub get_map : {A B : Type 0} (f : A → B) (xs : List A) (k : ℕ) (x : A) → slice_get xs k ≡ Some x → slice_get (map f xs) k ≡ Some (f x)
get_map f [] k x e = absurd (cc)
get_map f (a ∷ xs) zero x e = ap (λ b. Some (f b)) (same_Some a x e)
get_map f (a ∷ xs) (suc k) x e = get_map f xs k x e

pub get_take : {A : Type 0} (xs : List A) (m k : ℕ) (x : A) → slice_get xs k ≡ Some x → k < m → slice_get (take m xs) k ≡ Some x
get_take [] m k x e lt = absurd (cc)
get_take (a ∷ xs) zero k x e lt = absurd (omega (arith, lt))
get_take (a ∷ xs) (suc m) zero x e lt = e
get_take (a ∷ xs) (suc m) (suc k) x e lt = get_take xs m k x e (omega (arith, lt))

take_twice : {A : Type 0} (m : ℕ) (xs : List A) → take m (take m xs) ≡ take m xs
take_twice zero xs = refl
take_twice (suc m) [] = refl
take_twice (suc m) (x ∷ xs) = ap (λ l. x ∷ l) (take_twice m xs)

-- among those that pass a test
get_filter : {A : Type 0} (f : A → Bool) (xs : List A) (k : ℕ) (x : A) → slice_get xs k ≡ Some x → f x ≡ true → slice_get (filter f xs) (length (filter f (take k xs))) ≡ Some x
get_filter f [] k x e h = absurd (cc)
get_filter f (a ∷ xs) zero x e h =
    let same = same_Some a x e in
    let passes : f a ≡ true = ap f same ∙ h in
    ap (λ c. slice_get (if c then a ∷ filter f xs else filter f xs) 0) passes ∙ ap Some same
get_filter f (a ∷ xs) (suc k) x e h = on (f a) (get_filter f xs k x e h)
  where
    on : (c : Bool) → slice_get (filter f xs) (length (filter f (take k xs))) ≡ Some x → slice_get (if c then a ∷ filter f xs else filter f xs) (length (if c then a ∷ filter f (take k xs) else filter f (take k xs))) ≡ Some x
    on true q = q
    on false q = q

-- in the part that an element gives
get_flat : {A B : Type 0} (h : A → List B) (xs : List A) (m k : ℕ) (a : A) (x : B) → slice_get xs m ≡ Some a → slice_get (h a) k ≡ Some x → slice_get (flat_map h xs) (length (flat_map h (take m xs)) + k) ≡ Some x
get_flat h [] m k a x e q = absurd (cc)
get_flat h (y ∷ xs) zero k a x e q =
    let z : 0 + k ≡ k = omega arith in
    ap (slice_get (h y ++ flat_map h xs)) z ∙ get_front (h y) (flat_map h xs) k x (ap (λ b. slice_get (h b) k) (same_Some y a e) ∙ q)
get_flat h (y ∷ xs) (suc m) k a x e q =
    let front = h y in
    let len : length (front ++ flat_map h (take m xs)) + k ≡ length front + (length (flat_map h (take m xs)) + k) = omega (arith, length-append front (flat_map h (take m xs))) in
    ap (slice_get (front ++ flat_map h xs)) len ∙ (get_behind front (flat_map h xs) (length (flat_map h (take m xs)) + k) ∙ get_flat h xs m k a x e q)

-- ---- aggregates

module _ (p : Program) where
  runs_length : (number : ℕ) (rows : List Aggregate) → length (aggregate_runs p number rows) ≡ length rows
  runs_length number [] = refl
  runs_length number (a ∷ rows) = ap suc (runs_length (number + 1) rows)

  get_runs : (rows : List Aggregate) (number k : ℕ) (a : Aggregate) → slice_get rows k ≡ Some a → slice_get (aggregate_runs p number rows) k ≡ Some (if is_wide a.units a.size then runs_of (units_in p (ty.Aggregate (number + k))) else [])
  get_runs [] number k a e = absurd (cc)
  get_runs (r ∷ rows) number zero a e =
      let z : number ≡ number + 0 = omega arith in
      ap (λ (q : Aggregate). Some (if is_wide q.units q.size then runs_of (units_in p (ty.Aggregate number)) else [])) (same_Some r a e) ∙ ap (λ n. Some (if is_wide a.units a.size then runs_of (units_in p (ty.Aggregate n)) else [])) z
  get_runs (r ∷ rows) number (suc k) a e =
      let z : number + 1 + k ≡ number + suc k = omega arith in
      get_runs rows (number + 1) k a e ∙ ap (λ n. Some (if is_wide a.units a.size then runs_of (units_in p (ty.Aggregate n)) else [])) z

  -- a type that is copied in one operation is an aggregate of many units
  record WideType (s : Spot) (t : Ty) (n : ℕ) : Type 0 where
    is : t ≡ ty.Aggregate n
    wide : is_wide (length (units s t)) (size s t) ≡ true

  wide_type : (s : Spot) (t : Ty) (n : ℕ) → layout_number s t ≡ Some n → WideType s t n
  unfolding layout_number
  wide_type s t n e = on (is_wide (length (units s t)) (size s t)) (out-Ty t) refl (sym (roll-out-Ty t)) e
    where
      same : (i j : ℕ) → Some i ≡ Some j → i ≡ j
      same i j e = cc

      on : (c : Bool) (f : Ty-F Ty) → is_wide (length (units s t)) (size s t) ≡ c → t ≡ roll-Ty f → layout_at c f ≡ Some n → WideType s t n
      on true (Ty-F.Aggregate number) w q e = record { is = q ∙ (ty.rolls-Aggregate number ∙ ap ty.Aggregate (same number n e)); wide = w }
      on true Ty-F.Void w q e = absurd (cc)
      on true (Ty-F.Integer kind) w q e = absurd (cc)
      on true (Ty-F.Pointer to) w q e = absurd (cc)
      on true (Ty-F.Array element count) w q e = absurd (cc)
      on true (Ty-F.Chan element capacity) w q e = absurd (cc)
      on true (Ty-F.Tuple parts) w q e = absurd (cc)
      on true (Ty-F.Function returns parameters) w q e = absurd (cc)
      on false (Ty-F.Aggregate number) w q e = absurd (cc)
      on false Ty-F.Void w q e = absurd (cc)
      on false (Ty-F.Integer kind) w q e = absurd (cc)
      on false (Ty-F.Pointer to) w q e = absurd (cc)
      on false (Ty-F.Array element count) w q e = absurd (cc)
      on false (Ty-F.Chan element capacity) w q e = absurd (cc)
      on false (Ty-F.Tuple parts) w q e = absurd (cc)
      on false (Ty-F.Function returns parameters) w q e = absurd (cc)

  aggregate_units : (laid : IsLaidOut p.aggregates) (n : ℕ) → is_wide (length (units_in p (ty.Aggregate n))) (size_in p (ty.Aggregate n)) ≡ true → units_or_none (slice_get (layouts p) n) ≡ units_in p (ty.Aggregate n)
  aggregate_units laid n wide = on (slice_get p.aggregates n) refl
    where
      on : (o : Option Aggregate) → slice_get p.aggregates n ≡ o → units_or_none (slice_get (layouts p) n) ≡ units_in p (ty.Aggregate n)
      on None e =
          let none = layout-none p.aggregates n e in
          absurd (no_wide (ap (λ (l : Layout). is_wide (length l.units) l.size) (sym none) ∙ wide))
        where
          no_wide : false ≡ true → ⊥
          no_wide e = cc
      on (Some a) e =
          let row = layout-row p.aggregates n a e in
          let keeps = laid.keeps n a e in
          let units : a.units ≡ length (units_in p (ty.Aggregate n)) = keeps.units ∙ ap (λ (l : Layout). length l.units) (sym row) in
          let bytes : a.size ≡ size_in p (ty.Aggregate n) = keeps.size ∙ ap (λ (l : Layout). l.size) (sym row) in
          let is : is_wide a.units a.size ≡ true = ap₂ (λ (u z : ℕ). is_wide u z) units bytes ∙ wide in
          let z : 0 + n ≡ n = omega arith in
          let got : slice_get (aggregate_runs p 0 p.aggregates) n ≡ Some (runs_of (units_in p (ty.Aggregate n))) = get_runs p.aggregates 0 n a e ∙ (ap (λ c. Some (if c then runs_of (units_in p (ty.Aggregate (0 + n))) else [])) is ∙ ap (λ m. Some (runs_of (units_in p (ty.Aggregate m)))) z) in
          ap units_or_none (get_front (aggregate_runs p 0 p.aggregates) (map (local_runs p) (flat_map (wide_in p) p.functions)) n (runs_of (units_in p (ty.Aggregate n))) got) ∙ runs_are (units_in p (ty.Aggregate n))

  pub layouts_are : IsLaidOut p.aggregates → (s : Spot) (t : Ty) (n : ℕ) → s.program ≡ p → layout_number s t ≡ Some n → units_at (lowered p) n ≡ units_in p t
  layouts_are laid s t n same e =
      let w = wide_type s t n e in
      let wide : is_wide (length (units_in p (ty.Aggregate n))) (size_in p (ty.Aggregate n)) ≡ true = subst (λ t. is_wide (length (units_in p t)) (size_in p t) ≡ true) w.is (subst (λ q. is_wide (length (units_in q t)) (size_in q t) ≡ true) same w.wide) in
      aggregate_units laid n wide ∙ ap (units_in p) (sym w.is)

  -- ---- wide parameters

  pub wide_are : (number n : ℕ) (g : FunctionRow) (l : LocalRow) → function_at p number ≡ Some g → slice_get g.locals n ≡ Some l → n < g.parameters → is_wide_parameter p l ≡ true → units_at (lowered p) (wide_number p number n g) ≡ units_in p l.ty
  wide_are number n g l there row lt wide =
      let first = take g.parameters g.locals in
      let got : slice_get first n ≡ Some l = get_take g.locals g.parameters n l row lt in
      let among : slice_get (filter (is_wide_parameter p) first) (length (wide_among p n g)) ≡ Some l = get_filter (is_wide_parameter p) first n l got wide in
      let whole : slice_get (wide_in p g) (length (wide_among p n g)) ≡ Some l = ap (λ ls. slice_get (filter (is_wide_parameter p) ls) (length (wide_among p n g))) (take_twice g.parameters g.locals) ∙ among in
      let flat = get_flat (wide_in p) p.functions number (length (wide_among p n g)) g l there whole in
      let mapped = get_map (local_runs p) (flat_map (wide_in p) p.functions) (length (flat_map (wide_in p) (take number p.functions)) + length (wide_among p n g)) l flat in
      let count = runs_length 0 p.aggregates in
      let at : wide_number p number n g ≡ length (aggregate_runs p 0 p.aggregates) + (length (flat_map (wide_in p) (take number p.functions)) + length (wide_among p n g)) = ap (λ m. m + (length (flat_map (wide_in p) (take number p.functions)) + length (wide_among p n g))) (sym count) in
      ap (λ m. units_or_none (slice_get (layouts p) m)) at
      ∙ (ap units_or_none (get_behind (aggregate_runs p 0 p.aggregates) (map (local_runs p) (flat_map (wide_in p) p.functions)) (length (flat_map (wide_in p) (take number p.functions)) + length (wide_among p n g)) ∙ mapped)
      ∙ runs_are (units_in p l.ty))
