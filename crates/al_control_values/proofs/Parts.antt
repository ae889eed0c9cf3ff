-- The parts of values that paths lead to.
use Rattle.std.proofs.Common.{◌≡◌, ℕ, ◌+◌, ◌<◌, ◌≤◌, ◌^◌, List, [], ◌∷◌, map, take, drop, length, Option, Some, None, refl, sym, ap, ap₂, ◌∙◌, inl, inr, subst, arith}
use Rattle.std.specs.Prelude.{Bool, true, IsTrue, ◌↔◌, ◌⊎◌}
use Rattle.std.proofs.lemmas.Bool.{cases_lt}
use Rattle.std.proofs.lemmas.List.{drop_all}
use Rattle.al_event.specs.Store.{number_of}
use Rattle.al_typed.specs.Capped.{capped}
use Rattle.al_typed.specs.Layout.{Member, layout, layout_of, member, moved, unit_at, units_of}
use Rattle.al_typed.specs.declared.layout.Unit.{Unit}
use Rattle.al_typed.specs.declared.program.Aggregate.{Aggregate}
use Rattle.al_typed.specs.declared.ty.Ty.{Ty}
use Rattle.al_typed.specs.declared.program.Program.{Program}
use Rattle.al_meaning.specs.Here.{type_at}
use Rattle.al_meaning.specs.Words.{member_units, part_of, unit_in, value_bytes}
use Rattle.al_control_values.specs.declared.members.Reached.{Reached}
use Rattle.al_control_values.specs.Fits.{IsSmall}
use Rattle.al_control_values.specs.Reaches.{Finds}

-- past the end of the bytes it does not matter how far
further : (bytes : List ℕ) (at more size : ℕ) → length bytes < 2 ^ 64 → unit_in bytes (unit_at (capped at + more) size) ≡ unit_in bytes (unit_at (at + more) size)
further bytes at more size few = ap (λ l. number_of (take size l)) (past (cases_lt at (2 ^ 64)))
  where
    past : (at < 2 ^ 64) ⊎ (2 ^ 64 ≤ at) → drop (capped at + more) bytes ≡ drop (at + more) bytes
    past (inl small) = ap (λ n. drop (n + more) bytes) (omega arith)
    past (inr large) = drop_all (capped at + more) bytes (omega arith) ∙ sym (drop_all (at + more) bytes (omega arith))

all_further : (bytes : List ℕ) (at : ℕ) (us : List Unit) → length bytes < 2 ^ 64
    → map (λ (u : Unit). unit_in bytes (unit_at (capped at + u.at) u.size)) us ≡ map (unit_in bytes) (moved at us)
all_further bytes at [] few = refl
all_further bytes at (u ∷ us) few = ap₂ (λ w ws. w ∷ ws) (further bytes at u.at u.size few) (all_further bytes at us few)

pub part_is : (rows : List Aggregate) (t : Ty) (path ws : List ℕ) (r : Reached) (bytes : List ℕ) (us : List Unit) (words : List ℕ)
    → Finds (Some r) (member rows path t) → bytes ≡ value_bytes rows t ws → length bytes < 2 ^ 64 → us ≡ units_of rows r.ty.now
    → words ≡ map (λ (u : Unit). unit_in bytes (unit_at (r.at + u.at) u.size)) us → words ≡ part_of rows t path ws
part_is rows t path ws r bytes us words found spelled few is e = on (member rows path t) refl found
  where
    on : (o : Option Member) → member rows path t ≡ o → Finds (Some r) o → words ≡ part_of rows t path ws
    on (Some m) same found =
        e
        ∙ ap (λ n. map (λ (u : Unit). unit_in bytes (unit_at (n + u.at) u.size)) us) found.1
        ∙ all_further bytes m.at us few
        ∙ ap₂ (λ bs vs. map (unit_in bs) (moved m.at vs)) spelled (is ∙ ap (units_of rows) found.0)
        ∙ ap (λ o. map (unit_in (value_bytes rows t ws)) (member_units rows o)) (sym same)
    on None same found = absurd found

-- ---- sizes of parts

pub small_nothing : (p : Program) (o : Option Member) → Finds None o → IsTrue true ↔ IsSmall p (type_at o)
unfolding layout layout_of
small_nothing p None found = (λ _. omega arith, λ _. refl)
small_nothing p (Some m) found = absurd found

pub small_end : (p : Program) (o : Option Member) (r : Reached) (b : Bool) → Finds (Some r) o → IsTrue b ↔ IsSmall p r.ty.now → IsTrue b ↔ IsSmall p (type_at o)
small_end p (Some m) r b found h = subst (λ (t : Ty). IsTrue b ↔ IsSmall p t) found.0 h
small_end p None r b found h = absurd found
