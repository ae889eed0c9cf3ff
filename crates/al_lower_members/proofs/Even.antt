-- Units lie in order, one behind the other, each at a multiple of its size.
use Rattle.std.proofs.Common.{◌≡◌, ℕ, zero, suc, ◌+◌, ◌*◌, ◌/◌, ◌%◌, ◌≤◌, max, List, [], ◌∷◌, ◌++◌, map, Option, Some, None, refl, sym, ap, ◌∙◌, subst, le_refl, ◌⊎◌, inl, inr, arith}
use Rattle.std.specs.Prelude.{⊤, Bool, true, false, fold, slice_get, unwrap_or}
use Rattle.std.specs.List.{flat_map, range_with_len}
use Rattle.std.proofs.Math.Nat.{mul-mod_left, mod-add-div', mul_assoc, div-mul-le_self, add-mul}
use Rattle.al_base.specs.declared.arith.Kind.{Kind}
use Rattle.al_base.specs.declared.arith.Kind.TheVariants.{Byte, Sint, Usint, Int, Uint, Lint, Ulint}
use Rattle.al_typed.specs.declared.layout.Unit.{Unit}
use Rattle.al_typed.specs.declared.program.Aggregate.{Aggregate}
use Rattle.al_typed.specs.declared.ty.Ty.{Ty, Void, Integer, Pointer', Array', Chan', Tuple', Aggregate as Aggregate_, Function', Row_of-Ty, end_of-Ty, more_of-Ty}
use Rattle.al_typed.specs.TyFold.{fold_ty, fold_types}
use Rattle.al_typed.specs.Types.{bytes_of}
use Rattle.al_typed.specs.Layout.{Layout, Run, Extent, rounded, layout, layout_of, layout_step, layouts_after, aggregate_layout, body_layout, members_layout, nothing, single, double, of_bytes, repeated, in_order, over_each_other, followed, widened, piled, begun, moved, unit_at}
use Rattle.al_typed.proofs.CappedLemmas.{rounded_above}

-- ---- sizes and alignments are 1, 2 or 4

abbrev pub IsPower : ℕ → Type 0
IsPower s = (s ≡ 1) ⊎ ((s ≡ 2) ⊎ (s ≡ 4))

pub by_power : (P : ℕ → Type 0) → P 1 → P 2 → P 4 → (s : ℕ) → IsPower s → P s
by_power P a b c s (inl e) = subst P (sym e) a
by_power P a b c s (inr (inl e)) = subst P (sym e) b
by_power P a b c s (inr (inr e)) = subst P (sym e) c

pub power_some : (s : ℕ) → IsPower s → 1 ≤ s
power_some s p = by_power (λ s. 1 ≤ s) (omega arith) (omega arith) (omega arith) s p

sum_even : (s a b : ℕ) → IsPower s → a % s ≡ 0 → b % s ≡ 0 → (a + b) % s ≡ 0
sum_even s a b p = by_power (λ s. a % s ≡ 0 → b % s ≡ 0 → (a + b) % s ≡ 0) (λ e f. omega (arith, e, f)) (λ e f. omega (arith, e, f)) (λ e f. omega (arith, e, f)) s p

abbrev Carries : ℕ → ℕ → ℕ → Type 0
Carries n s a = a % s ≡ 0 → n % a ≡ 0 → n % s ≡ 0

pub even_of : (s a n : ℕ) → IsPower s → IsPower a → Carries n s a
even_of s a n p q =
    by_power (λ s. Carries n s a)
    (by_power (λ a. Carries n 1 a) (λ e f. omega (arith, e, f)) (λ e f. omega (arith, e, f)) (λ e f. omega (arith, e, f)) a q)
    (by_power (λ a. Carries n 2 a) (λ e f. absurd (omega (arith, e))) (λ e f. omega (arith, e, f)) (λ e f. omega (arith, e, f)) a q)
    (by_power (λ a. Carries n 4 a) (λ e f. absurd (omega (arith, e))) (λ e f. absurd (omega (arith, e))) (λ e f. omega (arith, e, f)) a q)
    s p

times_even : (s n m : ℕ) → m % s ≡ 0 → n * m % s ≡ 0
times_even s n m e =
    let q : m ≡ m / s * s = let d = mod-add-div' m s in omega (arith, d, e) in
    ap (λ i. n * i % s) q ∙ (ap (λ i. i % s) (sym (mul_assoc n (m / s) s)) ∙ mul-mod_left (n * (m / s)) s)

-- the greater of two alignments is a multiple of both
record IsGreater (a b : ℕ) : Type 0 where
  power : IsPower (max a b)
  left : max a b % a ≡ 0
  right : max a b % b ≡ 0

greater : (a b : ℕ) → IsPower a → IsPower b → IsGreater a b
greater a b p q =
    by_power (λ a. IsGreater a b)
    (by_power (λ b. IsGreater 1 b) (record { power = inl refl; left = refl; right = refl }) (record { power = inr (inl refl); left = refl; right = refl }) (record { power = inr (inr refl); left = refl; right = refl }) b q)
    (by_power (λ b. IsGreater 2 b) (record { power = inr (inl refl); left = refl; right = refl }) (record { power = inr (inl refl); left = refl; right = refl }) (record { power = inr (inr refl); left = refl; right = refl }) b q)
    (by_power (λ b. IsGreater 4 b) (record { power = inr (inr refl); left = refl; right = refl }) (record { power = inr (inr refl); left = refl; right = refl }) (record { power = inr (inr refl); left = refl; right = refl }) b q)
    a p

pub greater_parts : (a b : ℕ) → IsPower a → IsPower b → IsPower (max a b) × ((max a b % a ≡ 0) × (max a b % b ≡ 0))
greater_parts a b p q = let g = greater a b p q in (g.power, (g.left, g.right))

-- ---- units in order

-- the size of a unit divides where it stands, and the alignment of the whole
pub record IsEvenUnit (align : ℕ) (u : Unit) : Type 0 where
  pub power : IsPower u.size
  pub divides : align % u.size ≡ 0
  pub even : u.at % u.size ≡ 0

-- each ends before the next begins, from one place up to another
abbrev pub AreEven : (lo hi align : ℕ) → List Unit → Type 0
AreEven lo hi align [] = lo ≤ hi
AreEven lo hi align (u ∷ us) = (lo ≤ u.at) × (IsEvenUnit align u × AreEven (u.at + u.size) hi align us)

pub record IsEven (l : Layout) : Type 0 where
  pub power : IsPower l.align
  pub even : l.size % l.align ≡ 0
  pub units : AreEven 0 l.size l.align l.units

lower : (lo less hi align : ℕ) (us : List Unit) → less ≤ lo → AreEven lo hi align us → AreEven less hi align us
lower lo less hi align [] le h = omega (arith, le, h)
lower lo less hi align (u ∷ us) le h = let f = h.0 in (omega (arith, le, f), h.1)

higher : (lo hi more align : ℕ) (us : List Unit) → hi ≤ more → AreEven lo hi align us → AreEven lo more align us
higher lo hi more align [] le h = omega (arith, le, h)
higher lo hi more align (u ∷ us) le h = (h.0, (h.1.0, higher (u.at + u.size) hi more align us le h.1.1))

coarser : (lo hi a b : ℕ) (us : List Unit) → IsPower a → b % a ≡ 0 → AreEven lo hi a us → AreEven lo hi b us
coarser lo hi a b [] p e h = h
coarser lo hi a b (u ∷ us) p e h =
    let x = h.1.0 in
    (h.0, (record { power = x.power; divides = even_of u.size a b x.power p x.divides e; even = x.even }, coarser (u.at + u.size) hi a b us p e h.1.1))

shifted : (by lo hi a : ℕ) (us : List Unit) → IsPower a → by % a ≡ 0 → AreEven lo hi a us → AreEven (by + lo) (by + hi) a (moved by us)
shifted by lo hi a [] p e h = omega (arith, h)
shifted by lo hi a (u ∷ us) p e h =
    let x = h.1.0 in
    let f = h.0 in
    let z : by + (u.at + u.size) ≡ by + u.at + u.size = omega arith in
    (omega (arith, f), (record { power = x.power; divides = x.divides; even = sum_even u.size by u.at x.power (even_of u.size a by x.power p x.divides e) x.even }, subst (λ n. AreEven n (by + hi) a (moved by us)) z (shifted by (u.at + u.size) hi a us p e h.1.1)))

joined : (lo mid hi a : ℕ) (us vs : List Unit) → AreEven lo mid a us → AreEven mid hi a vs → AreEven lo hi a (us ++ vs)
joined lo mid hi a [] vs h k = lower mid lo hi a vs h k
joined lo mid hi a (u ∷ us) vs h k = (h.0, (h.1.0, joined (u.at + u.size) mid hi a us vs h.1.1 k))

-- ---- layouts

single_even : (s : ℕ) → IsPower s → IsEven (single s)
single_even s p =
    by_power (λ s. IsEven (single s))
    (record { power = inl refl; even = refl; units = (omega arith, (record { power = inl refl; divides = refl; even = refl }, omega arith)) })
    (record { power = inr (inl refl); even = refl; units = (omega arith, (record { power = inr (inl refl); divides = refl; even = refl }, omega arith)) })
    (record { power = inr (inr refl); even = refl; units = (omega arith, (record { power = inr (inr refl); divides = refl; even = refl }, omega arith)) })
    s p

double_even : IsEven double
double_even = record {
  power = inr (inr refl);
  even = refl;
  units = (omega arith, (record { power = inr (inr refl); divides = refl; even = refl }, (omega arith, (record { power = inr (inr refl); divides = refl; even = refl }, omega arith))));
}

nothing_even : IsEven nothing
nothing_even = record { power = inl refl; even = refl; units = omega arith }

integer_even : (kind : Kind) → IsEven (of_bytes (bytes_of kind))
integer_even Byte = single_even 1 (inl refl)
integer_even Sint = single_even 2 (inr (inl refl))
integer_even Usint = single_even 2 (inr (inl refl))
integer_even Int = single_even 4 (inr (inr refl))
integer_even Uint = single_even 4 (inr (inr refl))
integer_even Lint = double_even
integer_even Ulint = double_even

next_times : (a m : ℕ) → a * m + m ≡ (a + 1) * m
next_times a m = let z : m ≡ 1 * m = omega arith in ap (λ i. a * m + i) z ∙ sym (add-mul a 1 m)

elements_even : (l : Layout) → IsEven l → (a n : ℕ) → AreEven (a * l.size) ((a + n) * l.size) l.align (flat_map (λ i. moved (i * l.size) l.units) (range_with_len a n))
elements_even l h a zero = let z : a ≡ a + 0 = omega arith in subst (λ i. a * l.size ≤ i * l.size) z (le_refl (a * l.size))
elements_even l h a (suc n) =
    let z : a * l.size + 0 ≡ a * l.size = omega arith in
    let y : a + 1 + n ≡ a + suc n = omega arith in
    let here = shifted (a * l.size) 0 l.size l.align l.units h.power (times_even l.align a l.size h.even) h.units in
    joined (a * l.size) ((a + 1) * l.size) ((a + suc n) * l.size) l.align (moved (a * l.size) l.units) (flat_map (λ i. moved (i * l.size) l.units) (range_with_len (a + 1) n))
    (subst (λ i. AreEven i ((a + 1) * l.size) l.align (moved (a * l.size) l.units)) z (subst (λ i. AreEven (a * l.size + 0) i l.align (moved (a * l.size) l.units)) (next_times a l.size) here))
    (subst (λ i. AreEven ((a + 1) * l.size) (i * l.size) l.align (flat_map (λ i. moved (i * l.size) l.units) (range_with_len (a + 1) n))) y (elements_even l h (a + 1) n))

repeated_even : (count : ℕ) (l : Layout) → IsEven l → IsEven (repeated count l)
unfolding repeated
repeated_even count l h =
    let none : 0 * l.size ≡ 0 = omega arith in
    let z : 0 + count ≡ count = omega arith in
    record {
      power = h.power;
      even = times_even l.align count l.size h.even;
      units = subst (λ i. AreEven i (count * l.size) l.align (flat_map (λ i. moved (i * l.size) l.units) (range_with_len 0 count))) none (subst (λ i. AreEven (0 * l.size) (i * l.size) l.align (flat_map (λ i. moved (i * l.size) l.units) (range_with_len 0 count))) z (elements_even l h 0 count));
    }

pub rounded_even : (n a : ℕ) → rounded n a % a ≡ 0
unfolding rounded
rounded_even n a = mul-mod_left _ a

-- members that were placed so far
record RunEven (run : Run) : Type 0 where
  power : IsPower run.align
  units : AreEven 0 run.at run.align run.units

followed_even : (run : Run) (l : Layout) → RunEven run → IsEven l → RunEven (followed run l)
unfolding followed
followed_even run l h k =
    let g = greater run.align l.align h.power k.power in
    let r = rounded run.at l.align in
    let m = max run.align l.align in
    let above = rounded_above run.at l.align (power_some l.align k.power) in
    let z : r + 0 ≡ r = omega arith in
    let before : AreEven 0 r m run.units = higher 0 run.at r m run.units above (coarser 0 run.at run.align m run.units h.power g.left h.units) in
    let next : AreEven r (r + l.size) m (moved r l.units) = subst (λ i. AreEven i (r + l.size) m (moved r l.units)) z (coarser (r + 0) (r + l.size) l.align m (moved r l.units) k.power g.right (shifted r 0 l.size l.align l.units k.power (rounded_even run.at l.align) k.units)) in
    record { power = g.power; units = joined 0 r (r + l.size) m run.units (moved r l.units) before next }

abbrev pub AllEven : List Layout → Type 0
AllEven [] = ⊤
AllEven (l ∷ ls) = IsEven l × AllEven ls

run_even : (ls : List Layout) (run : Run) → RunEven run → AllEven ls → RunEven (fold followed run ls)
run_even [] run h k = h
run_even (l ∷ ls) run h k = run_even ls (followed run l) (followed_even run l h k.0) k.1

in_order_even : (ls : List Layout) → AllEven ls → IsEven (in_order ls)
unfolding in_order
in_order_even [] h = record { power = inl refl; even = refl; units = omega arith }
in_order_even (l ∷ ls) h =
    let run = fold followed begun (l ∷ ls) in
    let x : RunEven (fold followed begun (l ∷ ls)) = run_even (l ∷ ls) begun (record { power = inl refl; units = omega arith }) h in
    record { power = x.power; even = rounded_even run.at run.align; units = higher 0 run.at (rounded run.at run.align) run.align run.units (rounded_above run.at run.align (power_some run.align x.power)) x.units }

extent_power : (ls : List Layout) (e : Extent) → IsPower e.align → AllEven ls → IsPower (fold widened e ls).align
extent_power [] e p h = p
extent_power (l ∷ ls) e p h = extent_power ls (widened e l) (greater e.align l.align p h.0.power).power h.1

self_even : (a : ℕ) → IsPower a → a % a ≡ 0
self_even a p = by_power (λ a. a % a ≡ 0) refl refl refl a p

pile_even : (w : ℕ) → IsPower w → (a n hi : ℕ) → (a + n) * w ≤ hi → AreEven (a * w) hi w (map (λ i. unit_at (i * w) w) (range_with_len a n))
pile_even w p a zero hi le = let z : a + 0 ≡ a = omega arith in subst (λ i. i * w ≤ hi) z le
pile_even w p a (suc n) hi le =
    let y : a + suc n ≡ a + 1 + n = omega arith in
    (le_refl (a * w), (record { power = p; divides = self_even w p; even = mul-mod_left a w }, subst (λ i. AreEven i hi w (map (λ i. unit_at (i * w) w) (range_with_len (a + 1) n))) (sym (next_times a w)) (pile_even w p (a + 1) n hi (subst (λ i. i * w ≤ hi) y le))))

piled_even : (e : Extent) → IsPower e.align → IsEven (piled e)
piled_even e p =
    let size = rounded e.size e.align in
    let none : 0 * e.align ≡ 0 = omega arith in
    let z : size / e.align ≡ 0 + size / e.align = omega arith in
    record {
      power = p;
      even = rounded_even e.size e.align;
      units = subst (λ i. AreEven i (rounded e.size e.align) e.align (map (λ i. unit_at (i * e.align) e.align) (range_with_len 0 (rounded e.size e.align / e.align)))) none (pile_even e.align p 0 (size / e.align) size (subst (λ i. i * e.align ≤ rounded e.size e.align) z (div-mul-le_self size e.align)));
    }

over_each_other_even : (ls : List Layout) → AllEven ls → IsEven (over_each_other ls)
unfolding over_each_other
over_each_other_even ls h = piled_even (fold widened (record { size = 0; align = 1 }) ls) (extent_power ls (record { size = 0; align = 1 }) (inl refl) h)

even_append : (ls ms : List Layout) → AllEven ls → AllEven ms → AllEven (ls ++ ms)
even_append [] ms h k = k
even_append (l ∷ ls) ms h k = (h.0, even_append ls ms h.1 k)

even_at : (ls : List Layout) (k : ℕ) → AllEven ls → IsEven (unwrap_or (slice_get ls k) nothing)
even_at [] k h = nothing_even
even_at (l ∷ ls) zero h = h.0
even_at (l ∷ ls) (suc k) h = even_at ls k h.1

mutual
  fold_even : (known : List Layout) (t : Ty) → AllEven known → IsEven (fold_ty (layout_step known) t)
  fold_even known Void h = nothing_even
  fold_even known (Integer kind) h = integer_even kind
  fold_even known (Pointer' _ (more_of-Ty to end_of-Ty)) h = single_even 4 (inr (inr refl))
  fold_even known (Array' _ (more_of-Ty element end_of-Ty) count) h =
      repeated_even count (fold_ty (layout_step known) element) (fold_even known element h)
  fold_even known (Chan' _ (more_of-Ty element end_of-Ty) capacity) h = single_even 4 (inr (inr refl))
  fold_even known (Tuple' _ parts) h = in_order_even (fold_types (layout_step known) parts) (fold_all_even known parts h)
  fold_even known (Aggregate_ number) h = even_at known number h
  fold_even known (Function' _ (more_of-Ty returns end_of-Ty) _ parameters) h = nothing_even

  fold_all_even : (known : List Layout) {m : _} (row : Row_of-Ty m) → AllEven known → AllEven (fold_types (layout_step known) row)
  fold_all_even known end_of-Ty h = tt
  fold_all_even known (more_of-Ty t rest) h = (fold_even known t h, fold_all_even known rest h)

of_known : (known : List Layout) (ts : List Ty) → AllEven known → AllEven (map (layout_of known) ts)
unfolding layout_of
of_known known [] h = tt
of_known known (t ∷ ts) h = (fold_even known t h, of_known known ts h)

members_even : (is_union : Bool) (ls : List Layout) → AllEven ls → IsEven (members_layout is_union ls)
members_even true ls h = over_each_other_even ls h
members_even false ls h = in_order_even ls h

body_even : (known : List Layout) (is_union : Bool) (members : Option (List Ty)) → AllEven known → IsEven (body_layout known is_union members)
body_even known is_union None h = nothing_even
body_even known is_union (Some ms) h = members_even is_union (map (layout_of known) ms) (of_known known ms h)

aggregate_even : (known : List Layout) (a : Aggregate) → AllEven known → IsEven (aggregate_layout known a)
unfolding aggregate_layout
aggregate_even known a h = body_even known a.is_union a.members h

after_even : (known : List Layout) (rows : List Aggregate) → AllEven known → AllEven (layouts_after known rows)
unfolding layouts_after
after_even known [] h = h
after_even known (a ∷ rest) h =
    after_even (known ++ aggregate_layout known a ∷ []) rest
    (even_append known (aggregate_layout known a ∷ []) h (aggregate_even known a h, tt))

pub layout_even : (rows : List Aggregate) (t : Ty) → IsEven (layout rows t)
unfolding layout layout_of
layout_even rows t = fold_even (layouts_after [] rows) t (after_even [] rows tt)

pub layouts_even : (rows : List Aggregate) (ts : List Ty) → AllEven (map (layout rows) ts)
layouts_even rows [] = tt
layouts_even rows (t ∷ ts) = (layout_even rows t, layouts_even rows ts)
