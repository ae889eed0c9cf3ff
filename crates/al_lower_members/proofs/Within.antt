-- Each unit of a member lies within one unit of the whole.
use Rattle.std.proofs.Common.{◌≡◌, ℕ, zero, suc, ◌+◌, ◌*◌, ◌/◌, ◌%◌, ◌<◌, ◌≤◌, max, List, [], ◌∷◌, ◌++◌, map, length, Some, refl, sym, ap, ◌∙◌, subst, inl, arith}
use Rattle.std.specs.Prelude.{⊤, fold, slice_get}
use Rattle.std.specs.List.{range_with_len}
use Rattle.al_typed.specs.declared.layout.Unit.{Unit}
use Rattle.al_typed.specs.Layout.{Layout, Run, Extent, rounded, over_each_other, followed, widened, moved, unit_at, offsets_from}
use Rattle.al_typed.proofs.CappedLemmas.{rounded_above}
use Rattle.al_lower_members.proofs.Even.{IsPower, by_power, power_some, even_of, IsEvenUnit, AreEven, IsEven, AllEven, greater_parts, rounded_even}

-- ---- units within others

pub record Within (us : List Unit) (v : Unit) : Type 0 where
  pub index : ℕ
  pub unit : Unit
  pub there : slice_get us index ≡ Some unit
  pub from : unit.at ≤ v.at
  pub to : v.at + v.size ≤ unit.at + unit.size

abbrev pub AllWithin : List Unit → List Unit → Type 0
AllWithin us [] = ⊤
AllWithin us (v ∷ vs) = Within us v × AllWithin us vs

same_some : {A : Type 0} (a b : A) → Some a ≡ Some b → a ≡ b
same_some a b e = cc

within_at : (us vs : List Unit) (i : ℕ) (v : Unit) → AllWithin us vs → slice_get vs i ≡ Some v → Within us v
within_at us [] i v h e = absurd (cc)
within_at us (x ∷ vs) zero v h e = subst (Within us) (same_some x v e) h.0
within_at us (x ∷ vs) (suc i) v h e = within_at us vs i v h.1 e

within_all : (us vs : List Unit) → ((i : ℕ) (v : Unit) → slice_get vs i ≡ Some v → Within us v) → AllWithin us vs
within_all us [] h = tt
within_all us (v ∷ vs) h = (h 0 v refl, within_all us vs (λ i w e. h (suc i) w e))

pub within_both : (us vs ws : List Unit) → AllWithin us vs → AllWithin vs ws → AllWithin us ws
within_both us vs [] h k = tt
within_both us vs (w ∷ ws) h k =
    let x = k.0 in
    let y = within_at us vs x.index x.unit h x.there in
    let a = x.from in let b = x.to in let c = y.from in let d = y.to in
    (record { index = y.index; unit = y.unit; there = y.there; from = omega (arith, a, c); to = omega (arith, b, d) }, within_both us vs ws h k.1)

moved_get : (by : ℕ) (us : List Unit) (i : ℕ) (u : Unit) → slice_get us i ≡ Some u → slice_get (moved by us) i ≡ Some (unit_at (by + u.at) u.size)
moved_get by [] i u e = absurd (cc)
moved_get by (x ∷ us) zero u e = ap (λ (x : Unit). Some (unit_at (by + x.at) x.size)) (same_some x u e)
moved_get by (x ∷ us) (suc i) u e = moved_get by us i u e

pub within_moved : (by : ℕ) (us vs : List Unit) → AllWithin us vs → AllWithin (moved by us) (moved by vs)
within_moved by us [] h = tt
within_moved by us (v ∷ vs) h =
    let x = h.0 in
    let a = x.from in let b = x.to in
    (record { index = x.index; unit = unit_at (by + x.unit.at) x.unit.size; there = moved_get by us x.index x.unit x.there; from = omega (arith, a); to = omega (arith, b) }, within_moved by us vs h.1)

front_get : (us zs : List Unit) (i : ℕ) (u : Unit) → slice_get us i ≡ Some u → slice_get (us ++ zs) i ≡ Some u
front_get [] zs i u e = absurd (cc)
front_get (x ∷ us) zs zero u e = e
front_get (x ∷ us) zs (suc i) u e = front_get us zs i u e

back_get : (zs us : List Unit) (i : ℕ) (u : Unit) → slice_get us i ≡ Some u → slice_get (zs ++ us) (length zs + i) ≡ Some u
back_get [] us i u e = let z : 0 + i ≡ i = omega arith in subst (λ n. slice_get us n ≡ Some u) (sym z) e
back_get (x ∷ zs) us i u e = let z : length (x ∷ zs) + i ≡ suc (length zs + i) = omega arith in subst (λ n. slice_get ((x ∷ zs) ++ us) n ≡ Some u) (sym z) (back_get zs us i u e)

within_front : (us zs vs : List Unit) → AllWithin us vs → AllWithin (us ++ zs) vs
within_front us zs [] h = tt
within_front us zs (v ∷ vs) h = let x = h.0 in (record { index = x.index; unit = x.unit; there = front_get us zs x.index x.unit x.there; from = x.from; to = x.to }, within_front us zs vs h.1)

-- the last of joined units
within_back : (zs us : List Unit) → AllWithin (zs ++ us) us
within_back zs us = within_all (zs ++ us) us (λ i v e. record { index = length zs + i; unit = v; there = back_get zs us i v e; from = omega arith; to = omega arith })

pub within_self : (us : List Unit) → AllWithin us us
within_self us = within_back [] us

-- ---- members in order

placed_within : (ls : List Layout) (run : Run) (vs : List Unit) → AllWithin run.units vs → AllWithin (fold followed run ls).units vs
unfolding followed
placed_within [] run vs h = h
placed_within (l ∷ ls) run vs h = placed_within ls (followed run l) vs (within_front run.units (moved (rounded run.at l.align) l.units) vs h)

pub member_follows : (ls : List Layout) (run : Run) (i o : ℕ) (l : Layout) → slice_get ls i ≡ Some l → slice_get (offsets_from run.at ls) i ≡ Some o → AllWithin (fold followed run ls).units (moved o l.units)
unfolding followed
member_follows [] run i o l e f = absurd (cc)
member_follows (x ∷ ls) run zero o l e f =
    let same : x ≡ l = same_some x l e in
    let at : rounded run.at x.align ≡ o = same_some (rounded run.at x.align) o f in
    subst (λ (l : Layout). AllWithin (fold followed run (x ∷ ls)).units (moved o l.units)) same
    (subst (λ o. AllWithin (fold followed run (x ∷ ls)).units (moved o x.units)) at
    (placed_within ls (followed run x) (moved (rounded run.at x.align) x.units) (within_back run.units (moved (rounded run.at x.align) x.units))))
member_follows (x ∷ ls) run (suc i) o l e f = member_follows ls (followed run x) i o l e f

-- ---- members over each other

record Reaches (l : Layout) (e : Extent) : Type 0 where
  size : l.size ≤ e.size
  align : e.align % l.align ≡ 0
  power : IsPower e.align

reaches_more : (ls : List Layout) (l : Layout) (e : Extent) → IsPower l.align → AllEven ls → Reaches l e → Reaches l (fold widened e ls)
reaches_more [] l e p h r = r
reaches_more (x ∷ ls) l e p h r =
    let g = greater_parts e.align x.align r.power h.0.power in
    let s = r.size in
    reaches_more ls l (widened e x) p h.1 (record { size = omega (arith, s); align = even_of l.align e.align (max e.align x.align) p r.power r.align g.1.0; power = g.0 })

all_reach : (ls : List Layout) (e : Extent) (i : ℕ) (l : Layout) → IsPower e.align → AllEven ls → slice_get ls i ≡ Some l → Reaches l (fold widened e ls)
all_reach [] e i l p h f = absurd (cc)
all_reach (x ∷ ls) e zero l p h f =
    let g = greater_parts e.align x.align p h.0.power in
    subst (λ (l : Layout). Reaches l (fold widened e (x ∷ ls))) (same_some x l f) (reaches_more ls x (widened e x) h.0.power h.1 (record { size = omega arith; align = g.1.1; power = g.0 }))
all_reach (x ∷ ls) e (suc i) l p h f = let g = greater_parts e.align x.align p h.0.power in all_reach ls (widened e x) i l g.0 h.1 f

range_get : (f : ℕ → Unit) (a n i : ℕ) → i < n → slice_get (map f (range_with_len a n)) i ≡ Some (f (a + i))
range_get f a zero i lt = absurd (omega (arith, lt))
range_get f a (suc n) zero lt = let z : a ≡ a + 0 = omega arith in ap (λ k. Some (f k)) z
range_get f a (suc n) (suc i) lt = let z : a + 1 + i ≡ a + suc i = omega arith in range_get f (a + 1) n i (omega (arith, lt)) ∙ ap (λ k. Some (f k)) z

-- bytes of one unit lie in one piece of the union
abbrev InPiece : (at size hi w : ℕ) → Type 0
InPiece at size hi w = w % size ≡ 0 → at % size ≡ 0 → at + size ≤ hi → hi % w ≡ 0 → (at / w < hi / w) × ((at / w * w ≤ at) × (at + size ≤ at / w * w + w))

in_piece : (at size hi w : ℕ) → IsPower size → IsPower w → InPiece at size hi w
in_piece at size hi w p q =
    by_power (λ size. InPiece at size hi w)
    (by_power (λ w. InPiece at 1 hi w) (λ a b c d. (omega (arith, a, b, c, d), (omega (arith, a, b, c, d), omega (arith, a, b, c, d)))) (λ a b c d. (omega (arith, a, b, c, d), (omega (arith, a, b, c, d), omega (arith, a, b, c, d)))) (λ a b c d. (omega (arith, a, b, c, d), (omega (arith, a, b, c, d), omega (arith, a, b, c, d)))) w q)
    (by_power (λ w. InPiece at 2 hi w) (λ a b c d. absurd (omega (arith, a))) (λ a b c d. (omega (arith, a, b, c, d), (omega (arith, a, b, c, d), omega (arith, a, b, c, d)))) (λ a b c d. (omega (arith, a, b, c, d), (omega (arith, a, b, c, d), omega (arith, a, b, c, d)))) w q)
    (by_power (λ w. InPiece at 4 hi w) (λ a b c d. absurd (omega (arith, a))) (λ a b c d. absurd (omega (arith, a))) (λ a b c d. (omega (arith, a, b, c, d), (omega (arith, a, b, c, d), omega (arith, a, b, c, d)))) w q)
    size p

pub bounded : (lo hi a : ℕ) (us : List Unit) → AreEven lo hi a us → lo ≤ hi
bounded lo hi a [] h = h
bounded lo hi a (u ∷ us) h = let f = h.0 in let r = bounded (u.at + u.size) hi a us h.1.1 in omega (arith, f, r)

-- one of them
pub record Even (lo hi a : ℕ) (u : Unit) : Type 0 where
  pub unit : IsEvenUnit a u
  pub from : lo ≤ u.at
  pub to : u.at + u.size ≤ hi

pub even_get : (lo hi a : ℕ) (us : List Unit) (i : ℕ) (u : Unit) → AreEven lo hi a us → slice_get us i ≡ Some u → Even lo hi a u
even_get lo hi a [] i u h e = absurd (cc)
even_get lo hi a (x ∷ us) zero u h e = subst (Even lo hi a) (same_some x u e) (record { unit = h.1.0; from = h.0; to = bounded (x.at + x.size) hi a us h.1.1 })
even_get lo hi a (x ∷ us) (suc i) u h e =
    let r = even_get (x.at + x.size) hi a us i u h.1.1 e in
    let f = h.0 in let g = r.from in
    record { unit = r.unit; from = omega (arith, f, g); to = r.to }

pub union_within : (ls : List Layout) (i : ℕ) (l : Layout) → AllEven ls → IsEven l → slice_get ls i ≡ Some l → AllWithin (over_each_other ls).units l.units
unfolding over_each_other
union_within ls i l h k e =
    let flat : Extent = record { size = 0; align = 1 } in
    let all = fold widened flat ls in
    let w = all.align in
    let size = rounded all.size w in
    let r = all_reach ls flat i l (one_power 1 refl) h e in
    within_all (map (λ i. unit_at (i * w) w) (range_with_len 0 (size / w))) l.units (λ j v f.
    let x = even_get 0 l.size l.align l.units j v k.units f in
    let divides = even_of v.size l.align w x.unit.power k.power x.unit.divides r.align in
    let above = rounded_above all.size w (power_some w r.power) in
    let reach = r.size in
    let to = x.to in
    let q = in_piece v.at v.size size w x.unit.power r.power divides x.unit.even (omega (arith, to, reach, above)) (rounded_even all.size w) in
    let z : 0 + v.at / w ≡ v.at / w = omega arith in
    record { index = v.at / w; unit = unit_at (v.at / w * w) w; there = range_get (λ i. unit_at (i * w) w) 0 (size / w) (v.at / w) q.0 ∙ ap (λ n. Some (unit_at (n * w) w)) z; from = q.1.0; to = q.1.1 })
  where
    one_power : (n : ℕ) → n ≡ 1 → IsPower n
    one_power n e = inl e
