-- Types that the rules leave, but for capacities: what a function returns may be taken with other capacities of channels than the
-- function is declared with.
use Rattle.std.proofs.Common.{◌≡◌, ℕ, ◌+◌, List, [], ◌∷◌, Option, Some, None, refl, sym, ◌∙◌, subst}
use Rattle.std.specs.Prelude.{Bool, true, false, ◌&&◌, ◌||◌, All, slice_get}
use Rattle.al_typed.specs.declared.program.Aggregate.{Aggregate}
use Rattle.al_typed.specs.declared.ty.Ty.{Ty, Pointer', Array', Chan', Function', end_of-Ty, more_of-Ty, items_hidden-the_row-Ty-1}
use Rattle.al_typed.specs.declared.ty.Ty.TheVariants as ty
use Rattle.al_typed.specs.declared.ty.Ty.TheViews.{out-Ty}
use Rattle.al_typed.specs.declared.ty.Ty.TheBlock.{hidden-the_row-Ty-0, hidden-the_row-Ty-1}
use denote.Hole.Carrier.{hidden, out}
use Rattle.al_typed.specs.Alike.{are_alike, all_alike}
use Rattle.al_typed.specs.Types.{is_void, is_array, is_whole}
use Rattle.al_typed.specs.Layout.{Member, member, row_of, members_of, member_offsets, further, beyond}
use Rattle.al_typed.specs.WellTyped.{LeadsTo, is_sound, are_sound, is_stored, is_word}
use Rattle.al_lower_pointers.proofs.Alike.{alike_void, alike_array, alike_self, each_alike}
use Rattle.al_lower_expressions.proofs.Types.{IsPart, AreParts, both_hold, whole_part, given_or_void, row_parts, member_sound, sound_pointer}

pub record IsLike (rows : List Aggregate) (t : Ty) : Type 0 where
  pub other : Ty
  pub alike : are_alike t other ≡ true
  pub sound : is_sound rows other ≡ true

pub sound_like : (rows : List Aggregate) (t : Ty) → is_sound rows t ≡ true → IsLike rows t
sound_like rows t e = record { other = t; alike = alike_self t; sound = e }

pub alike_part : (a b : Ty) → are_alike a b ≡ true → IsPart b → IsPart a
alike_part a b e h = record { not_void = alike_void a b e ∙ h.not_void; not_array = alike_array a b e ∙ h.not_array }

-- ---- pointers, elements and channels

pub pointer_like : (rows : List Aggregate) (t : Ty) → IsLike rows t → IsLike rows (ty.Pointer t)
unfolding hidden-the_row-Ty-0 hidden
pointer_like rows t h = record { other = ty.Pointer h.other; alike = both_are (are_alike t h.other) h.alike; sound = sound_pointer rows h.other ∙ h.sound }
  where
    both_are : (b : Bool) → b ≡ true → (b && true) ≡ true
    both_are true e = refl
    both_are false e = e

pub pointed_like : (rows : List Aggregate) (t : Ty) → IsLike rows (ty.Pointer t) → IsLike rows t
unfolding hidden-the_row-Ty-0 hidden
pointed_like rows t h = on h.other h.alike h.sound
  where
    on : (u : Ty) → are_alike (ty.Pointer t) u ≡ true → is_sound rows u ≡ true → IsLike rows t
    on (Pointer' _ (more_of-Ty to end_of-Ty)) e s = record { other = to; alike = (both_hold (are_alike t to) true e).0; sound = s }
    on _ e s = absurd (cc)

-- what is as a pointer is one word
pub alike_word : (t to : Ty) → are_alike t (ty.Pointer to) ≡ true → is_word t ≡ true
unfolding is_word out-Ty out hidden-the_row-Ty-0 hidden
alike_word (Pointer' _ a) to e = refl
alike_word _ to e = absurd (cc)

pub element_like : (rows : List Aggregate) (t : Ty) (n : ℕ) → IsLike rows (ty.Array t n) → IsLike rows t
unfolding hidden-the_row-Ty-0 hidden
element_like rows t n h = on h.other h.alike h.sound
  where
    on : (u : Ty) → are_alike (ty.Array t n) u ≡ true → is_sound rows u ≡ true → IsLike rows t
    on (Array' _ (more_of-Ty element end_of-Ty) m) e s = record {
      other = element;
      alike = (both_hold (are_alike t element) true (both_hold (are_alike t element && true) _ e).0).0;
      sound = (both_hold (is_sound rows element) _ (both_hold (is_sound rows element && _) _ (both_hold (is_sound rows element && _ && _) _ s).0).0).0;
    }
    on _ e s = absurd (cc)

-- what a channel carries
pub record IsCarried (rows : List Aggregate) (t : Ty) : Type 0 where
  pub like : IsLike rows t
  pub part : IsPart t

pub carried : (rows : List Aggregate) (t : Ty) (n : ℕ) → IsLike rows (ty.Chan t n) → IsCarried rows t
unfolding hidden-the_row-Ty-0 hidden
carried rows t n h = on h.other h.alike h.sound
  where
    on : (u : Ty) → are_alike (ty.Chan t n) u ≡ true → is_sound rows u ≡ true → IsCarried rows t
    on (Chan' _ (more_of-Ty element end_of-Ty) m) e s =
        let same = (both_hold (are_alike t element) true e).0 in
        let sound = both_hold (is_sound rows element) (is_whole rows element) (both_hold (is_sound rows element && is_whole rows element) _ s).0 in
        record {
          like = record { other = element; alike = same; sound = sound.0 };
          part = alike_part t element same (whole_part rows element sound.1);
        }
    on _ e s = absurd (cc)

-- ---- functions

-- what a function of a type returns and takes
pub record IsFunctionLike (rows : List Aggregate) (t : Ty) (ts : List Ty) : Type 0 where
  pub like : IsLike rows t
  pub returns : is_void t ≡ false → is_array t ≡ false
  pub parts : AreParts ts

pub function_like : (rows : List Aggregate) (t : Ty) (ts : List Ty) → IsLike rows (ty.Function t ts) → IsFunctionLike rows t ts
unfolding hidden-the_row-Ty-0 hidden
function_like rows t ts h = on h.other h.alike h.sound
  where
    on : (u : Ty) → are_alike (ty.Function t ts) u ≡ true → is_sound rows u ≡ true → IsFunctionLike rows t ts
    on (Function' _ (more_of-Ty r end_of-Ty) _ ps) e s =
        let q = both_hold (are_alike t r && true) (all_alike (hidden-the_row-Ty-1 ts) ps) e in
        let same = (both_hold (are_alike t r) true q.0).0 in
        let sound = both_hold (is_sound rows r && (is_void r || is_whole rows r)) (are_sound rows ps) s in
        let returned = both_hold (is_sound rows r) (is_void r || is_whole rows r) sound.0 in
        record {
          like = record { other = r; alike = same; sound = returned.0 };
          returns = λ nv. alike_array t r same ∙ given_or_void rows r returned.1 (sym (alike_void t r same) ∙ nv);
          parts = subst AreParts (items_hidden-the_row-Ty-1 ts) (each_alike IsPart alike_part (hidden-the_row-Ty-1 ts) ps q.1 (row_parts rows ps sound.1));
        }
    on _ e s = absurd (cc)

-- ---- members

path_like : (rows : List Aggregate) (next : Ty → Option Member) (m : Member) → ((u : Ty) (m : Member) → next u ≡ Some m → IsLike rows u → IsLike rows m.ty) → (mu : Option Ty) (mo : Option ℕ) → ((u : Ty) → mu ≡ Some u → is_sound rows u ≡ true) → beyond mu mo next ≡ Some m → IsLike rows m.ty
path_like rows next m rest None mo h e = absurd (cc)
path_like rows next m rest (Some u) None h e = absurd (cc)
path_like rows next m rest (Some u) (Some o) h e = on (next u) refl e
  where
    on : (r : Option Member) → next u ≡ r → further o r ≡ Some m → IsLike rows m.ty
    on None q e = absurd (cc)
    on (Some x) q e = let same : record { ty = x.ty; at = o + x.at } ≡ m = cc in subst (λ (m : Member). IsLike rows m.ty) same (rest u x q (sound_like rows u (h u refl)))

members_like : (rows : List Aggregate) → ((k : ℕ) (a : Aggregate) → slice_get rows k ≡ Some a → All (λ t. is_stored rows t ≡ true) (members_of (Some a))) → (path : List ℕ) (t : Ty) (m : Member) → member rows path t ≡ Some m → IsLike rows t → IsLike rows m.ty
unfolding member
members_like rows h [] t m e like = let same : record { ty = t; at = 0 } ≡ m = cc in subst (λ (m : Member). IsLike rows m.ty) same like
members_like rows h (i ∷ path) t m e like = path_like rows (member rows path) m (λ u x q. members_like rows h path u x q) (slice_get (members_of (row_of rows t)) i) (slice_get (member_offsets rows (row_of rows t)) i) (λ u q. member_sound rows h t u i q) e

pub leads_like : (rows : List Aggregate) → ((k : ℕ) (a : Aggregate) → slice_get rows k ≡ Some a → All (λ t. is_stored rows t ≡ true) (members_of (Some a))) → (path : List ℕ) (t u : Ty) → LeadsTo rows path t u → IsLike rows t → IsLike rows u
leads_like rows h path t u l like = subst (IsLike rows) l.1.1 (members_like rows h path t l.0 l.1.0 like)
