-- Values are read from places and saved to them.
use Rattle.std.proofs.Common.{◌≡◌, ℕ, ◌+◌, ◌<◌, ◌≤◌, List, [], length, Option, Some, None, refl, sym, ap, ◌∙◌, subst, ◌⊎◌, inl, inr, ⊎_elim, arith}
use Rattle.std.specs.Prelude.{nat_lt, nat_le, ◌&&◌, Bool, true, false, slice_get}
use Rattle.std.proofs.lemmas.Bool.{cases_eq}
use Rattle.std.proofs.lemmas.Grind.{common_steps}
use Rattle.al_typed.specs.declared.ty.Ty.{Ty, out-Ty}
use Rattle.al_typed.specs.declared.ty.Ty.TheOpen.{Ty-F}
use Rattle.al_typed.specs.declared.program.Local.{Local as LocalRow}
use Rattle.al_typed.specs.Types.{is_array}
use Rattle.al_meaning.specs.Words.{sum}
use Rattle.al_meaning.specs.Places.{function_at, locals_of}
use Rattle.al_meaning.specs.Here.{units_in}
use Rattle.al_meaning.specs.Tasks.{Still, Env, Rest}
use Rattle.al_meaning.specs.Told.{load_units, store_units}
use Rattle.al_ir.specs.Bounds.{IsApart}
use Rattle.al_ir.specs.Units.{units_at}
use Rattle.al_ir.specs.Control.{Slots, put_all}
use Rattle.al_lower_words.specs.Units.{AreOf}
use Rattle.al_lower_words.proofs.Integers.{length_of, words_are}
use Rattle.al_lower_code.specs.Homes.{Spot, units, size}
use Rattle.al_lower_code.specs.Moving.{layout_number, layout_at, is_wide, load_by, store_by}
use Rattle.al_lower_steps.specs.Slots.{Holds, Outside}
use Rattle.al_lower_steps.proofs.Slots.{put_all_outside, put_all_holds}
use Rattle.al_lower_steps.proofs.Steps.{comes_out}
use Rattle.al_lower_steps.proofs.Storage.{load_units_does, store_units_does}
use Rattle.al_lower_claims.proofs.Homes.{less_or_more}
use Rattle.al_lower_claims.proofs.Moving.{CanCopy}
use Rattle.al_lower_claims.proofs.Storing.{CanLoad, ready, loads_do, stores_do}
use Rattle.al_lower_claims.proofs.Variables.{IsLocal, home, Dest, free, local, lone}
use Rattle.al_lower_claims.proofs.Claims.{Setting, scene, site, spot, Run, Has, HasRoom, UnitsOf, count_of, Leads, own, bound, variable}

one_row : {A : Type 0} (o : Option A) (a b : A) → o ≡ Some a → o ≡ Some b → a ≡ b
one_row o a b h k = cc

both_left : (a b : Bool) → (a && b) ≡ true → a ≡ true
both_left true b e = refl
both_left false b e = absurd (cc)

-- what is copied in one operation has many units
wide : (s : Spot) (t : Ty) (n : ℕ) → layout_number s t ≡ Some n → 16 < length (units s t)
unfolding layout_number
wide s t n e = let w : nat_lt 16 (length (units s t)) ≡ true = both_left (nat_lt 16 (length (units s t))) (nat_le (size s t) 1024) (on (is_wide (length (units s t)) (size s t)) (out-Ty t) e) in grind (arith, common_steps, w)
  where
    on : (b : Bool) (f : Ty-F Ty) → layout_at b f ≡ Some n → b ≡ true
    on true f e = refl
    on false (Ty-F.Aggregate number) e = absurd (cc)
    on false Ty-F.Void e = absurd (cc)
    on false (Ty-F.Integer kind) e = absurd (cc)
    on false (Ty-F.Pointer to) e = absurd (cc)
    on false (Ty-F.Array element count) e = absurd (cc)
    on false (Ty-F.Chan element capacity) e = absurd (cc)
    on false (Ty-F.Tuple parts) e = absurd (cc)
    on false (Ty-F.Function returns parameters) e = absurd (cc)

module _ (k : Setting) where
  -- two private locals are one, or their homes lie apart
  two_homes : (m n : ℕ) (l r : LocalRow) → IsLocal (scene k) m l → IsLocal (scene k) n r → ((m ≡ n) × (l ≡ r)) ⊎ ((home (scene k) m + length (units_in k.ways.program l.ty) ≤ home (scene k) n) ⊎ (home (scene k) n + length (units_in k.ways.program r.ty) ≤ home (scene k) m))
  two_homes m n l r x y = ⊎_elim
      (λ e. inl (e, one_row _ l r x.row (ap (λ i. slice_get (locals_of (function_at k.ways.program k.ways.function)) i) e ∙ y.row)))
      (λ ne. inr (k.homes.apart m n l r x y ne))
      (cases_eq m n)

  one_apart : (slot dest n : ℕ) → n ≡ 1 → IsApart slot dest n ⊎ ((n ≡ 1) × (slot ≡ dest))
  one_apart slot dest n e = ⊎_elim (λ same. inr (e, same)) (λ ne. ⊎_elim (λ lt. inl (inl lt)) (λ lt. inl (inr (omega (arith, lt, e)))) (less_or_more slot dest ne)) (cases_eq slot dest)

  -- the slot of an address lies apart from where the value comes to stand, or is that of the one word of it
  pub lead_apart : {lasting : Bool} (slot dest n to : ℕ) → Leads k lasting slot (to + n) → Dest (scene k) n dest to → HasRoom k to → IsApart slot dest n ⊎ ((n ≡ 1) × (slot ≡ dest))
  lead_apart slot dest n to leads (lone d lt) room = one_apart slot dest n d
  lead_apart slot dest n to (own e) (free d) room = inl (inr (omega (arith, e, d)))
  lead_apart slot dest n to (own e) (local m l x d len) room = let q = k.homes.fits m l x in let a = k.above in inl (inr (omega (arith, e, d, len, q, a, room)))
  lead_apart slot dest n to (bound f lt) (free d) room = inl (inl (omega (arith, lt, d, room)))
  lead_apart slot dest n to (bound f lt) (local m l x d len) room = ⊎_elim (λ q. inl (inl (omega (arith, q, d)))) (λ q. inl (inr (omega (arith, q, d, len)))) (f m l x)
  lead_apart slot dest n to (variable j r e y at one) (free d) room = let q = k.homes.fits j r y in let a = k.above in inl (inl (omega (arith, q, a, at, one, d, room)))
  lead_apart slot dest n to (variable j r e y at one) (local m l x d len) room = ⊎_elim
      (λ same. inr (sym len ∙ (ap (λ (q : LocalRow). length (units_in k.ways.program q.ty)) same.1 ∙ one), at ∙ (ap (home (scene k)) (sym same.0) ∙ sym d)))
      (λ apart. ⊎_elim (λ q. inl (inr (omega (arith, q, at, d, len)))) (λ q. inl (inl (omega (arith, q, at, d, one)))) apart)
      (two_homes m j l r x y)

  can_load : (slot dest n : ℕ) → IsApart slot dest n ⊎ ((n ≡ 1) × (slot ≡ dest)) → CanLoad slot dest n
  can_load slot dest n (inl (inl lt)) = inl lt
  can_load slot dest n (inl (inr le)) = inr (omega (arith, le))
  can_load slot dest n (inr e) = let a = e.0 in let b = e.1 in inr (omega (arith, a, b))

  is_apart : (slot dest n : ℕ) → 16 < n → IsApart slot dest n ⊎ ((n ≡ 1) × (slot ≡ dest)) → IsApart slot dest n
  is_apart slot dest n lt (inl a) = a
  is_apart slot dest n lt (inr e) = let a = e.0 in absurd (omega (arith, a, lt))

  pub one_copies : (from to n : ℕ) → n ≡ 1 → CanCopy from to n
  one_copies from to n e = ⊎_elim (λ same. inr (omega (arith, same))) (λ ne. ⊎_elim (λ lt. inl (omega (arith, lt, e))) (λ lt. inr (omega (arith, lt))) (less_or_more from to ne)) (cases_eq from to)

  -- the words of a local can be copied to where they are wanted
  pub home_copies : (m : ℕ) (l : LocalRow) (dest n to : ℕ) → IsLocal (scene k) m l → length (units_in k.ways.program l.ty) ≡ n → Dest (scene k) n dest to → HasRoom k to → CanCopy (home (scene k) m) dest n
  home_copies m l dest n to x len (lone d lt) room = one_copies (home (scene k) m) dest n d
  home_copies m l dest n to x len (free d) room = let q = k.homes.fits m l x in let a = k.above in inl (omega (arith, q, len, d, a, room))
  home_copies m l dest n to x len (local j r y d len2) room = ⊎_elim
      (λ same. let e : home (scene k) m ≡ dest = ap (home (scene k)) same.0 ∙ sym d in inr (omega (arith, e)))
      (λ apart. ⊎_elim (λ q. inl (omega (arith, q, len, d))) (λ q. inr (omega (arith, q, d))) apart)
      (two_homes m j l r x y)

  -- ---- storage

  pub load_by_does : (t : Ty) (s : Still) (next : List ℕ → Rest) (env : Env) (a dest slot offset pc : ℕ) (slots last : Slots) → slots slot ≡ Some a → is_array t ≡ false → IsApart slot dest (count_of k t) ⊎ ((count_of k t ≡ 1) × (slot ≡ dest)) → Has k pc (load_by (spot k) (layout_number (spot k) t) t dest slot offset) → ((v : List ℕ) (s : Still) (now : Slots) → UnitsOf k t v → Outside dest (count_of k t) now slots → Holds now dest v → Run k (next v env s) (pc + length (load_by (spot k) (layout_number (spot k) t) t dest slot offset)) now last s) → Run k (load_units k.ways (sum a offset) (units_in k.ways.program t) [] env s next) pc slots last s
  load_by_does t s next env a dest slot offset pc slots last there na apart has go = on (layout_number (spot k) t) refl has go
    where
      count : count_of k t ≡ length (units_in k.ways.program t)
      count = words_are k.ways.program t na

      on : (o : Option ℕ) → layout_number (spot k) t ≡ o → Has k pc (load_by (spot k) o t dest slot offset) → ((v : List ℕ) (s : Still) (now : Slots) → UnitsOf k t v → Outside dest (count_of k t) now slots → Holds now dest v → Run k (next v env s) (pc + length (load_by (spot k) o t dest slot offset)) now last s) → Run k (load_units k.ways (sum a offset) (units_in k.ways.program t) [] env s next) pc slots last s
      on None e has go =
          loads_do (site k) k.ways env (units_in k.ways.program t) [] s next a dest slot offset pc slots last has
          (ready (units_in k.ways.program t) slot a dest slots there (subst (CanLoad slot dest) count (can_load slot dest (count_of k t) apart)))
          (λ v s now fits o holds. go v s now fits (subst (λ n. Outside dest n now slots) (sym count) o) holds)
      on (Some layout) e has go =
          let us : units_at k.ir layout ≡ units_in k.ways.program t = k.layouts (spot k) t layout refl e in
          let many : 16 < count_of k t = subst (λ n. 16 < n) (sym count) (wide (spot k) t layout e) in
          comes_out (site k) (ap (λ us. load_units k.ways (sum a offset) us [] env s next) (sym us))
          (load_units_does (site k) k.ways env s next has.0 there (subst (IsApart slot dest) (count ∙ ap length (sym us)) (is_apart slot dest (count_of k t) many apart)) (λ v s fits.
          let fits2 : UnitsOf k t v = subst (λ us. AreOf us v) us fits in
          let n : length v ≡ count_of k t = length_of _ _ fits2 ∙ sym count in
          go v s (put_all dest v slots) fits2 (subst (λ n. Outside dest n (put_all dest v slots) slots) n (put_all_outside v dest slots)) (put_all_holds v dest slots)))

  pub store_by_does : (t : Ty) (v : List ℕ) (s : Still) (next : Unit {0} → Rest) (env : Env) (a slot offset from pc : ℕ) (slots last : Slots) → slots slot ≡ Some a → UnitsOf k t v → Holds slots from v → Has k pc (store_by (spot k) (layout_number (spot k) t) t slot offset from) → ((s : Still) → Run k (next tt env s) (pc + length (store_by (spot k) (layout_number (spot k) t) t slot offset from)) slots last s) → Run k (store_units k.ways (sum a offset) (units_in k.ways.program t) v env s next) pc slots last s
  store_by_does t v s next env a slot offset from pc slots last there fits holds has go = on (layout_number (spot k) t) refl has go
    where
      on : (o : Option ℕ) → layout_number (spot k) t ≡ o → Has k pc (store_by (spot k) o t slot offset from) → ((s : Still) → Run k (next tt env s) (pc + length (store_by (spot k) o t slot offset from)) slots last s) → Run k (store_units k.ways (sum a offset) (units_in k.ways.program t) v env s next) pc slots last s
      on None e has go = stores_do (site k) k.ways env (units_in k.ways.program t) v s next a slot offset from pc slots last fits has there holds go
      on (Some layout) e has go =
          let us : units_at k.ir layout ≡ units_in k.ways.program t = k.layouts (spot k) t layout refl e in
          comes_out (site k) (ap (λ us. store_units k.ways (sum a offset) us v env s next) (sym us))
          (store_units_does (site k) k.ways env s v next has.0 there (subst (λ us. AreOf us v) (sym us) fits) holds go)
