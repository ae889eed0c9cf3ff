-- What the forms of expressions have in common that choose between several ways.
use Rattle.std.proofs.Common.{◌≡◌, ℕ, Bool, true, false, not, ◌&&◌, if◌then◌else◌, Option, Some, None, refl, sym}
use Rattle.al_base.specs.declared.arith.Kind.{Kind}
use Rattle.al_typed.specs.declared.ty.Ty.{Ty, Integer, Tuple'}
use Rattle.al_typed.specs.declared.expression.BinaryOp.{BinaryOp}
use Rattle.al_typed.specs.declared.expression.Logic.{Logic}
use Rattle.al_typed.specs.declared.expression.Logic.TheVariants as logic
use Rattle.al_typed.specs.declared.expression.Movement.{Movement}
use Rattle.al_typed.specs.declared.expression.Movement.TheVariants as movement
use Rattle.al_typed.specs.declared.expression.StepOp.{StepOp}
use Rattle.std.proofs.lemmas.Bool.{true≢false}
use Rattle.al_lower_code.specs.Homes.{Spot}
use Rattle.al_lower_code.specs.Moving.{Stored, home_of}
use Rattle.al_lower_code.specs.Operators.{is_long, compares, keeps_bits, stays, all_stay}
use Rattle.al_lower_code.specs.Coded.{Coded, Placed, Aimed}
use Rattle.al_lower_code.specs.Values.{complement_coded, binary_coded, logical_coded, movement_coded, converted_coded}
use Rattle.al_lower_code.specs.Actions.{assign_coded, stepped_coded, steps_variable, clears_variable, zerox_coded, gives_old}

-- a choice between two expressions
pub of_either : {A : Type 0} (field : Coded → A) (b : Bool) (x y : Coded) (a : A) → field x ≡ a → field y ≡ a → field (if b then x else y) ≡ a
of_either field true x y a p q = p
of_either field false x y a p q = q

chosen : (b : Bool) (x y : Coded) → b ≡ true → (if b then x else y) ≡ x
chosen true x y h = refl
chosen false x y h = absurd (true≢false (sym h))

other_of : {A : Type 0} (field : Coded → A) (b : Bool) (x y : Coded) (a : A) → b ≡ false → field y ≡ a → field (if b then x else y) ≡ a
other_of field true x y a h q = absurd (true≢false h)
other_of field false x y a h q = q

pub complement_known : (s : Spot) (t : Ty) (k : Kind) (c : Coded) → (complement_coded s t k c).known ≡ None
complement_known s t k c = of_either (λ (x : Coded). x.known) (is_long k) _ _ None refl refl

pub complement_stands : (s : Spot) (t : Ty) (k : Kind) (c : Coded) → (complement_coded s t k c).stands ≡ None
complement_stands s t k c = of_either (λ (x : Coded). x.stands) (is_long k) _ _ None refl refl

pub complement_is_truth : (s : Spot) (t : Ty) (k : Kind) (c : Coded) → (complement_coded s t k c).is_truth ≡ false
complement_is_truth s t k c = of_either (λ (x : Coded). x.is_truth) (is_long k) _ _ false refl refl

pub complement_keeps : (s : Spot) (t : Ty) (k : Kind) (c : Coded) → (complement_coded s t k c).keeps ≡ c.keeps
complement_keeps s t k c = of_either (λ (x : Coded). x.keeps) (is_long k) _ _ c.keeps refl refl

pub binary_known : (s : Spot) (t : Ty) (op : BinaryOp) (k : Kind) (n : ℕ) (l r : Coded) → (binary_coded s t op k n l r).known ≡ None
binary_known s t op k n l r = of_either (λ (x : Coded). x.known) (compares op && not (is_long k)) _ _ None refl refl

pub binary_stands : (s : Spot) (t : Ty) (op : BinaryOp) (k : Kind) (n : ℕ) (l r : Coded) → (binary_coded s t op k n l r).stands ≡ None
binary_stands s t op k n l r = of_either (λ (x : Coded). x.stands) (compares op && not (is_long k)) _ _ None refl refl

pub binary_is_truth : (s : Spot) (t : Ty) (op : BinaryOp) (k : Kind) (n : ℕ) (l r : Coded) → (binary_coded s t op k n l r).is_truth ≡ (compares op)
binary_is_truth s t op k n l r = of_either (λ (x : Coded). x.is_truth) (compares op && not (is_long k)) _ _ (compares op) refl refl

pub binary_keeps : (s : Spot) (t : Ty) (op : BinaryOp) (k : Kind) (n : ℕ) (l r : Coded) → (binary_coded s t op k n l r).keeps ≡ (l.keeps && r.keeps)
binary_keeps s t op k n l r = of_either (λ (x : Coded). x.keeps) (compares op && not (is_long k)) _ _ (l.keeps && r.keeps) refl refl

pub logical_known : (s : Spot) (t : Ty) (op : Logic) (n : ℕ) (l r : Coded) → (logical_coded s t op n l r).known ≡ None
logical_known s t logic.And n l r = refl
logical_known s t logic.Or n l r = refl

pub logical_stands : (s : Spot) (t : Ty) (op : Logic) (n : ℕ) (l r : Coded) → (logical_coded s t op n l r).stands ≡ None
logical_stands s t logic.And n l r = refl
logical_stands s t logic.Or n l r = refl

pub logical_is_truth : (s : Spot) (t : Ty) (op : Logic) (n : ℕ) (l r : Coded) → (logical_coded s t op n l r).is_truth ≡ true
logical_is_truth s t logic.And n l r = refl
logical_is_truth s t logic.Or n l r = refl

pub logical_keeps : (s : Spot) (t : Ty) (op : Logic) (n : ℕ) (l r : Coded) → (logical_coded s t op n l r).keeps ≡ (l.keeps && r.keeps)
logical_keeps s t logic.And n l r = refl
logical_keeps s t logic.Or n l r = refl

pub movement_known : (s : Spot) (t : Ty) (how : Movement) (l r : Coded) → (movement_coded s t how l r).known ≡ None
movement_known s t movement.Forward l r = refl
movement_known s t movement.CountFirst l r = refl
movement_known s t movement.Back l r = refl

pub movement_stands : (s : Spot) (t : Ty) (how : Movement) (l r : Coded) → (movement_coded s t how l r).stands ≡ None
movement_stands s t movement.Forward l r = refl
movement_stands s t movement.CountFirst l r = refl
movement_stands s t movement.Back l r = refl

pub movement_is_truth : (s : Spot) (t : Ty) (how : Movement) (l r : Coded) → (movement_coded s t how l r).is_truth ≡ false
movement_is_truth s t movement.Forward l r = refl
movement_is_truth s t movement.CountFirst l r = refl
movement_is_truth s t movement.Back l r = refl

pub movement_keeps : (s : Spot) (t : Ty) (how : Movement) (l r : Coded) → (movement_coded s t how l r).keeps ≡ (l.keeps && r.keeps)
movement_keeps s t movement.Forward l r = refl
movement_keeps s t movement.CountFirst l r = refl
movement_keeps s t movement.Back l r = refl

assign_by-known : (s : Spot) (t : Ty) (x : Aimed) (c : Coded) (single : Option Placed) → (assign_coded s t (record x { single = single }) c).known ≡ None
assign_by-known s t x c (Some pl) = refl
assign_by-known s t x c None = refl

pub assign_known : (s : Spot) (t : Ty) (x : Aimed) (c : Coded) → (assign_coded s t x c).known ≡ None
assign_known s t x c = assign_by-known s t x c x.single

steps_known : (s : Spot) (t : Ty) (op : StepOp) (home : ℕ) → (steps_variable s t op home).known ≡ None
steps_known s t op home = of_either (λ (x : Coded). x.known) (gives_old op) _ _ None refl refl

stepped_by-known : (s : Spot) (t : Ty) (op : StepOp) (home : Option ℕ) (other : Coded) → other.known ≡ None →
    (elim home as (λ (_ : Option ℕ). Coded) [ Some h ↦ steps_variable s t op h | None ↦ other ]).known ≡ None
stepped_by-known s t op (Some h) other p = steps_known s t op h
stepped_by-known s t op None other p = p

pub stepped_known : (s : Spot) (t : Ty) (op : StepOp) (pl : Placed) → (stepped_coded s t op pl).known ≡ None
stepped_known s t op pl = stepped_by-known s t op (home_of (pl.at false 0)) _ refl

clears_by-known : (s : Spot) (t : Ty) (home : Option ℕ) (other : Coded) → other.known ≡ None →
    (elim home as (λ (_ : Option ℕ). Coded) [ Some h ↦ clears_variable s t h | None ↦ other ]).known ≡ None
clears_by-known s t (Some h) other p = refl
clears_by-known s t None other p = p

pub zerox_known : (s : Spot) (t : Ty) (pl : Placed) → (zerox_coded s t pl).known ≡ None
zerox_known s t pl = clears_by-known s t (home_of (pl.at false 0)) _ refl

assign_by-stands : (s : Spot) (t : Ty) (x : Aimed) (c : Coded) (single : Option Placed) → (assign_coded s t (record x { single = single }) c).stands ≡ None
assign_by-stands s t x c (Some pl) = refl
assign_by-stands s t x c None = refl

pub assign_stands : (s : Spot) (t : Ty) (x : Aimed) (c : Coded) → (assign_coded s t x c).stands ≡ None
assign_stands s t x c = assign_by-stands s t x c x.single

steps_stands : (s : Spot) (t : Ty) (op : StepOp) (home : ℕ) → (steps_variable s t op home).stands ≡ None
steps_stands s t op home = of_either (λ (x : Coded). x.stands) (gives_old op) _ _ None refl refl

stepped_by-stands : (s : Spot) (t : Ty) (op : StepOp) (home : Option ℕ) (other : Coded) → other.stands ≡ None →
    (elim home as (λ (_ : Option ℕ). Coded) [ Some h ↦ steps_variable s t op h | None ↦ other ]).stands ≡ None
stepped_by-stands s t op (Some h) other p = steps_stands s t op h
stepped_by-stands s t op None other p = p

pub stepped_stands : (s : Spot) (t : Ty) (op : StepOp) (pl : Placed) → (stepped_coded s t op pl).stands ≡ None
stepped_stands s t op pl = stepped_by-stands s t op (home_of (pl.at false 0)) _ refl

clears_by-stands : (s : Spot) (t : Ty) (home : Option ℕ) (other : Coded) → other.stands ≡ None →
    (elim home as (λ (_ : Option ℕ). Coded) [ Some h ↦ clears_variable s t h | None ↦ other ]).stands ≡ None
clears_by-stands s t (Some h) other p = refl
clears_by-stands s t None other p = p

pub zerox_stands : (s : Spot) (t : Ty) (pl : Placed) → (zerox_coded s t pl).stands ≡ None
zerox_stands s t pl = clears_by-stands s t (home_of (pl.at false 0)) _ refl

assign_by-is_truth : (s : Spot) (t : Ty) (x : Aimed) (c : Coded) (single : Option Placed) → (assign_coded s t (record x { single = single }) c).is_truth ≡ false
assign_by-is_truth s t x c (Some pl) = refl
assign_by-is_truth s t x c None = refl

pub assign_is_truth : (s : Spot) (t : Ty) (x : Aimed) (c : Coded) → (assign_coded s t x c).is_truth ≡ false
assign_is_truth s t x c = assign_by-is_truth s t x c x.single

steps_is_truth : (s : Spot) (t : Ty) (op : StepOp) (home : ℕ) → (steps_variable s t op home).is_truth ≡ false
steps_is_truth s t op home = of_either (λ (x : Coded). x.is_truth) (gives_old op) _ _ false refl refl

stepped_by-is_truth : (s : Spot) (t : Ty) (op : StepOp) (home : Option ℕ) (other : Coded) → other.is_truth ≡ false →
    (elim home as (λ (_ : Option ℕ). Coded) [ Some h ↦ steps_variable s t op h | None ↦ other ]).is_truth ≡ false
stepped_by-is_truth s t op (Some h) other p = steps_is_truth s t op h
stepped_by-is_truth s t op None other p = p

pub stepped_is_truth : (s : Spot) (t : Ty) (op : StepOp) (pl : Placed) → (stepped_coded s t op pl).is_truth ≡ false
stepped_is_truth s t op pl = stepped_by-is_truth s t op (home_of (pl.at false 0)) _ refl

clears_by-is_truth : (s : Spot) (t : Ty) (home : Option ℕ) (other : Coded) → other.is_truth ≡ false →
    (elim home as (λ (_ : Option ℕ). Coded) [ Some h ↦ clears_variable s t h | None ↦ other ]).is_truth ≡ false
clears_by-is_truth s t (Some h) other p = refl
clears_by-is_truth s t None other p = p

pub zerox_is_truth : (s : Spot) (t : Ty) (pl : Placed) → (zerox_coded s t pl).is_truth ≡ false
zerox_is_truth s t pl = clears_by-is_truth s t (home_of (pl.at false 0)) _ refl

assign_by-keeps : (s : Spot) (t : Ty) (x : Aimed) (c : Coded) (single : Option Placed) → (assign_coded s t (record x { single = single }) c).keeps ≡ false
assign_by-keeps s t x c (Some pl) = refl
assign_by-keeps s t x c None = refl

pub assign_keeps : (s : Spot) (t : Ty) (x : Aimed) (c : Coded) → (assign_coded s t x c).keeps ≡ false
assign_keeps s t x c = assign_by-keeps s t x c x.single

steps_keeps : (s : Spot) (t : Ty) (op : StepOp) (home : ℕ) → (steps_variable s t op home).keeps ≡ false
steps_keeps s t op home = of_either (λ (x : Coded). x.keeps) (gives_old op) _ _ false refl refl

stepped_by-keeps : (s : Spot) (t : Ty) (op : StepOp) (home : Option ℕ) (other : Coded) → other.keeps ≡ false →
    (elim home as (λ (_ : Option ℕ). Coded) [ Some h ↦ steps_variable s t op h | None ↦ other ]).keeps ≡ false
stepped_by-keeps s t op (Some h) other p = steps_keeps s t op h
stepped_by-keeps s t op None other p = p

pub stepped_keeps : (s : Spot) (t : Ty) (op : StepOp) (pl : Placed) → (stepped_coded s t op pl).keeps ≡ false
stepped_keeps s t op pl = stepped_by-keeps s t op (home_of (pl.at false 0)) _ refl

clears_by-keeps : (s : Spot) (t : Ty) (home : Option ℕ) (other : Coded) → other.keeps ≡ false →
    (elim home as (λ (_ : Option ℕ). Coded) [ Some h ↦ clears_variable s t h | None ↦ other ]).keeps ≡ false
clears_by-keeps s t (Some h) other p = refl
clears_by-keeps s t None other p = p

pub zerox_keeps : (s : Spot) (t : Ty) (pl : Placed) → (zerox_coded s t pl).keeps ≡ false
zerox_keeps s t pl = clears_by-keeps s t (home_of (pl.at false 0)) _ refl

pub at_to : (lasting : Bool) (to : ℕ) → Stored (if lasting then to else to) 0 ≡ Stored to 0
at_to true to = refl
at_to false to = refl

pub same_either : (b : Bool) (n : ℕ) → (if b then n else n) ≡ n
same_either true n = refl
same_either false n = refl

pub complement_leads : (s : Spot) (t : Ty) (k : Kind) (c : Coded) (lasting : Bool) (to : ℕ) → (complement_coded s t k c).leads lasting to ≡ Stored to 0
complement_leads s t k c lasting to = of_either (λ (x : Coded). x.leads lasting to) (is_long k) _ _ (Stored to 0) (at_to lasting to) (at_to lasting to)

pub binary_leads : (s : Spot) (t : Ty) (op : BinaryOp) (k : Kind) (n : ℕ) (l r : Coded) (lasting : Bool) (to : ℕ) → (binary_coded s t op k n l r).leads lasting to ≡ Stored to 0
binary_leads s t op k n l r lasting to = of_either (λ (x : Coded). x.leads lasting to) (compares op && not (is_long k)) _ _ (Stored to 0) (at_to lasting to) (at_to lasting to)

pub logical_leads : (s : Spot) (t : Ty) (op : Logic) (n : ℕ) (l r : Coded) (lasting : Bool) (to : ℕ) → (logical_coded s t op n l r).leads lasting to ≡ Stored to 0
logical_leads s t logic.And n l r lasting to = at_to lasting to
logical_leads s t logic.Or n l r lasting to = at_to lasting to

pub movement_leads : (s : Spot) (t : Ty) (how : Movement) (l r : Coded) (lasting : Bool) (to : ℕ) → (movement_coded s t how l r).leads lasting to ≡ Stored to 0
movement_leads s t movement.Forward l r lasting to = at_to lasting to
movement_leads s t movement.CountFirst l r lasting to = at_to lasting to
movement_leads s t movement.Back l r lasting to = at_to lasting to

assign_by-leads : (s : Spot) (t : Ty) (x : Aimed) (c : Coded) (single : Option Placed) (lasting : Bool) (to : ℕ) → (assign_coded s t (record x { single = single }) c).leads lasting to ≡ Stored to 0
assign_by-leads s t x c (Some pl) lasting to = at_to lasting to
assign_by-leads s t x c None lasting to = at_to lasting to

pub assign_leads : (s : Spot) (t : Ty) (x : Aimed) (c : Coded) (lasting : Bool) (to : ℕ) → (assign_coded s t x c).leads lasting to ≡ Stored to 0
assign_leads s t x c = assign_by-leads s t x c x.single

steps_leads : (s : Spot) (t : Ty) (op : StepOp) (home : ℕ) (lasting : Bool) (to : ℕ) → (steps_variable s t op home).leads lasting to ≡ Stored to 0
steps_leads s t op home lasting to = of_either (λ (x : Coded). x.leads lasting to) (gives_old op) _ _ (Stored to 0) (at_to lasting to) (at_to lasting to)

stepped_by-leads : (s : Spot) (t : Ty) (op : StepOp) (home : Option ℕ) (other : Coded) (lasting : Bool) (to : ℕ) → other.leads lasting to ≡ Stored to 0 →
    (elim home as (λ (_ : Option ℕ). Coded) [ Some h ↦ steps_variable s t op h | None ↦ other ]).leads lasting to ≡ Stored to 0
stepped_by-leads s t op (Some h) other lasting to p = steps_leads s t op h lasting to
stepped_by-leads s t op None other lasting to p = p

pub stepped_leads : (s : Spot) (t : Ty) (op : StepOp) (pl : Placed) (lasting : Bool) (to : ℕ) → (stepped_coded s t op pl).leads lasting to ≡ Stored to 0
stepped_leads s t op pl lasting to = stepped_by-leads s t op (home_of (pl.at false 0)) _ lasting to (at_to lasting to)

clears_by-leads : (s : Spot) (t : Ty) (home : Option ℕ) (other : Coded) (lasting : Bool) (to : ℕ) → other.leads lasting to ≡ Stored to 0 →
    (elim home as (λ (_ : Option ℕ). Coded) [ Some h ↦ clears_variable s t h | None ↦ other ]).leads lasting to ≡ Stored to 0
clears_by-leads s t (Some h) other lasting to p = at_to lasting to
clears_by-leads s t None other lasting to p = p

pub zerox_leads : (s : Spot) (t : Ty) (pl : Placed) (lasting : Bool) (to : ℕ) → (zerox_coded s t pl).leads lasting to ≡ Stored to 0
zerox_leads s t pl lasting to = clears_by-leads s t (home_of (pl.at false 0)) _ lasting to (at_to lasting to)

pub ruleset complement_rules = (complement_known, complement_stands, complement_is_truth, complement_keeps, complement_leads, same_either)

-- ---- conversions

-- a value that is one of the other type as it is
pub converted_stays : (s : Spot) (from into : Ty) (c : Coded) → stays from into ≡ true → converted_coded s from into c ≡ c
converted_stays s (Integer k) (Integer j) c h = chosen (keeps_bits k j) c _ h
converted_stays s (Integer k) _ c h = refl
converted_stays s (Tuple' l ts) (Tuple' m us) c h = chosen (all_stay ts us) c _ h
converted_stays s (Tuple' l ts) _ c h = refl
converted_stays s _ _ c h = refl

pub converted_known : (s : Spot) (from into : Ty) (c : Coded) → stays from into ≡ false → (converted_coded s from into c).known ≡ None
converted_known s (Integer k) (Integer j) c h = other_of (λ (x : Coded). x.known) (keeps_bits k j) c _ None h refl
converted_known s (Integer k) _ c h = absurd (true≢false h)
converted_known s (Tuple' l ts) (Tuple' m us) c h = other_of (λ (x : Coded). x.known) (all_stay ts us) c _ None h refl
converted_known s (Tuple' l ts) _ c h = absurd (true≢false h)
converted_known s _ _ c h = absurd (true≢false h)

pub converted_stands : (s : Spot) (from into : Ty) (c : Coded) → stays from into ≡ false → (converted_coded s from into c).stands ≡ None
converted_stands s (Integer k) (Integer j) c h = other_of (λ (x : Coded). x.stands) (keeps_bits k j) c _ None h refl
converted_stands s (Integer k) _ c h = absurd (true≢false h)
converted_stands s (Tuple' l ts) (Tuple' m us) c h = other_of (λ (x : Coded). x.stands) (all_stay ts us) c _ None h refl
converted_stands s (Tuple' l ts) _ c h = absurd (true≢false h)
converted_stands s _ _ c h = absurd (true≢false h)

pub converted_is_truth : (s : Spot) (from into : Ty) (c : Coded) → stays from into ≡ false → (converted_coded s from into c).is_truth ≡ false
converted_is_truth s (Integer k) (Integer j) c h = other_of (λ (x : Coded). x.is_truth) (keeps_bits k j) c _ false h refl
converted_is_truth s (Integer k) _ c h = absurd (true≢false h)
converted_is_truth s (Tuple' l ts) (Tuple' m us) c h = other_of (λ (x : Coded). x.is_truth) (all_stay ts us) c _ false h refl
converted_is_truth s (Tuple' l ts) _ c h = absurd (true≢false h)
converted_is_truth s _ _ c h = absurd (true≢false h)

pub converted_leads : (s : Spot) (from into : Ty) (c : Coded) (lasting : Bool) (to : ℕ) → stays from into ≡ false → (converted_coded s from into c).leads lasting to ≡ Stored to 0
converted_leads s (Integer k) (Integer j) c lasting to h = other_of (λ (x : Coded). x.leads lasting to) (keeps_bits k j) c _ (Stored to 0) h (at_to lasting to)
converted_leads s (Integer k) _ c lasting to h = absurd (true≢false h)
converted_leads s (Tuple' l ts) (Tuple' m us) c lasting to h = other_of (λ (x : Coded). x.leads lasting to) (all_stay ts us) c _ (Stored to 0) h (at_to lasting to)
converted_leads s (Tuple' l ts) _ c lasting to h = absurd (true≢false h)
converted_leads s _ _ c lasting to h = absurd (true≢false h)

pub ruleset conversion_rules = (converted_leads, same_either, converted_stays, converted_known, converted_stands, converted_is_truth)
