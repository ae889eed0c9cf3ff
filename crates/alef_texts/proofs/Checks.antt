-- The mode `check`: from what its stages say to why it ends as it does, and to which end each cause has.
use Rattle.std.proofs.Common.{◌≡◌, ℕ, ◌+◌, ◌^◌, ◌<◌, ◌≤◌, List, length, take, Some, Ok, Err, Result, refl, sym, ap, ◌∙◌, subst, arith, inl, inr}
use Rattle.std.specs.Prelude.{◌⊎◌, IfOk}
use Rattle.std.proofs.lemmas.List.{length-take, take_all}
use Rattle.al_host.specs.Outside.{Faulted}
use Rattle.al_typed.specs.declared.program.Program.{Program}
use Rattle.al_typed.specs.Measures.{IsWithin}
use Rattle.al_front.specs.Accepted.{IsAccepted, IsRefused}
use Rattle.al_front.specs.declared.refused.Refused.{Refused as Reason}
use Rattle.al_front.specs.declared.refused.Refused.TheVariants.{Lex, Parse, Types, Typing, Limit}
use Rattle.al_front.specs.declared.refused.FrontStop.{FrontStop}
use Rattle.al_front.specs.declared.refused.FrontStop.TheVariants as stop
use Rattle.al_front.proofs.Laws.{never_both}
use Rattle.alef_texts.specs.Call.{Call, WasRead, DidNothing, LacksText, text_in}
use Rattle.alef_texts.specs.Load.{LacksBytes}
use Rattle.alef_texts.specs.CheckMode.{most_of_text, HasProgram, end_of, EndsText, EndsCheck}
use Rattle.alef_texts.specs.declared.report.End.{End}
use Rattle.alef_texts.specs.declared.report.End.TheVariants.{Ran, Made, Words, ReadFault, Refused, BadImage, BadSchedule, BadEntry, BadNumber, WriteFault, NoMemory}
use Rattle.alef_texts.proofs.Told.{neither, not_missing}

-- ---- a text as far as it was read

module _ (text front : List ℕ) (e : front ≡ take (2 ^ 20 + 1) text) where
  whole : length front ≤ 2 ^ 20 → front ≡ text
  whole short =
      let part = ap length e ∙ length-take (2 ^ 20 + 1) text in
      e ∙ take_all (2 ^ 20 + 1) text (omega (arith, part, short))

  no_longer : length front ≤ length text
  no_longer = let part = ap length e ∙ length-take (2 ^ 20 + 1) text in omega (arith, part)

  pub accepted_whole : (p : Program) → IsAccepted front p → IsAccepted text p
  accepted_whole p a = let P : List ℕ → Type 0 = λ t. IsAccepted t p in subst P (whole a.read.short) a

  program_whole : HasProgram front → HasProgram text
  program_whole (p, a, w) = (p, accepted_whole p a, w)

  same_refused : (r : Reason) → length front ≤ 2 ^ 20 → IsRefused front r → IsRefused text r
  same_refused r short is = let P : List ℕ → Type 0 = λ t. IsRefused t r in subst P (whole short) is

  pub refused_whole : (r : Reason) → IsRefused front r → IsRefused text r
  refused_whole (Lex f) is = same_refused (Lex f) is.0 is
  refused_whole (Parse f) is = same_refused (Parse f) is.short is
  refused_whole (Types l) is = same_refused (Types l) is.read.short is
  refused_whole (Typing f) is = same_refused (Typing f) is.read.short is
  refused_whole (Limit l) (inl is) = let more = is.0 in let longer = no_longer in inl (omega (arith, more, longer), is.1)
  refused_whole (Limit l) (inr is) = same_refused (Limit l) is.read.short (inr is)

-- ---- stages

pub ends_text : (text : List ℕ) (found : Result Program FrontStop) → IfOk found (λ p. IsAccepted text p × IsWithin p) → ((r : Reason) → found ≡ Err (stop.Refused r) → IsRefused text r) → EndsText text (end_of found)
ends_text text (Ok p) is refused = (p, is.0, is.1)
ends_text text (Err (stop.Refused r)) is refused = refused r refl
ends_text text (Err stop.NoMemory) is refused = tt

module _ (file : List ℕ) (call : Call) (nothing : DidNothing call) where
  pub unread : (end why : End) → end ≡ why → LacksBytes file why call.told call.host_before call.host_after → EndsCheck file call end
  unread end why e (inl lacks) = let P : End → Type 0 = EndsCheck file call in subst P (sym (e ∙ lacks.0)) (lacks.1, nothing)
  unread end why e (inr lacks) = let P : End → Type 0 = EndsCheck file call in subst P (sym (e ∙ lacks.0)) (lacks.1, nothing)

  module _ (read : WasRead file most_of_text call) (front : List ℕ) (f : (text : List ℕ) → text_in call.told file ≡ Some text → front ≡ take (2 ^ 20 + 1) text) where
    so_ended : (end : End) → EndsText front end → EndsCheck file call end
    so_ended Made is = (read, (λ text named. program_whole text front (f text named) is), nothing)
    so_ended (Refused r) is = (read, (λ text named. refused_whole text front (f text named) r is), nothing)
    so_ended NoMemory is = (read.calm, nothing)
    so_ended (Ran over) is = absurd is
    so_ended Words is = absurd is
    so_ended (BadSchedule bad) is = absurd is
    so_ended (BadEntry number) is = absurd is
    so_ended (BadNumber count) is = absurd is
    so_ended ReadFault is = absurd is
    so_ended (BadImage fault) is = absurd is
    so_ended WriteFault is = absurd is

    pub was_checked : (end why : End) → end ≡ why → EndsText front why → EndsCheck file call end
    was_checked end why e is = let P : End → Type 0 = EndsCheck file call in subst P (sym e) (so_ended why is)

-- ---- causes

module _ (file : List ℕ) (call : Call) where
  pub missing_check : (end : End) → EndsCheck file call end → LacksText call.told file → (end ≡ ReadFault) ⊎ (end ≡ NoMemory)
  missing_check Made e m = absurd (e.0.found m)
  missing_check (Refused r) e m = absurd (e.0.found m)
  missing_check ReadFault e m = inl refl
  missing_check NoMemory e m = inr refl
  missing_check (Ran over) e m = absurd e
  missing_check Words e m = absurd e
  missing_check (BadSchedule bad) e m = absurd e
  missing_check (BadEntry number) e m = absurd e
  missing_check (BadNumber count) e m = absurd e
  missing_check (BadImage fault) e m = absurd e
  missing_check WriteFault e m = absurd e

  pub host_check : (end : End) → EndsCheck file call end → call.host_before < call.host_after → end ≡ ReadFault
  host_check Made e rose = let calm = e.0.calm in absurd (omega (arith, calm, rose))
  host_check (Refused r) e rose = let calm = e.0.calm in absurd (omega (arith, calm, rose))
  host_check ReadFault e rose = refl
  host_check NoMemory e rose = let calm = e.0 in absurd (omega (arith, calm, rose))
  host_check (Ran over) e rose = absurd e
  host_check Words e rose = absurd e
  host_check (BadSchedule bad) e rose = absurd e
  host_check (BadEntry number) e rose = absurd e
  host_check (BadNumber count) e rose = absurd e
  host_check (BadImage fault) e rose = absurd e
  host_check WriteFault e rose = absurd e

  pub out_check : (end : End) → EndsCheck file call end → call.out_before < call.out_after → end ≡ WriteFault
  out_check Made e rose = let calm = e.2.calm in absurd (omega (arith, calm, rose))
  out_check (Refused r) e rose = let calm = e.2.calm in absurd (omega (arith, calm, rose))
  out_check ReadFault e rose = let calm = e.1.calm in absurd (omega (arith, calm, rose))
  out_check NoMemory e rose = let calm = e.1.calm in absurd (omega (arith, calm, rose))
  out_check (Ran over) e rose = absurd e
  out_check Words e rose = absurd e
  out_check (BadSchedule bad) e rose = absurd e
  out_check (BadEntry number) e rose = absurd e
  out_check (BadNumber count) e rose = absurd e
  out_check (BadImage fault) e rose = absurd e
  out_check WriteFault e rose = refl

  module _ (text : List ℕ) (is : text_in call.told file ≡ Some text) where
    pub complete_check : (end : End) → EndsCheck file call end → HasProgram text → (Faulted call.host_before call.host_after → ⊥) → (end ≡ Made) ⊎ (end ≡ NoMemory)
    complete_check Made e has calm = inl refl
    complete_check (Refused r) e has calm = absurd (never_both text has.0 r has.1 has.2 (e.1 text is))
    complete_check ReadFault e has calm = absurd (neither e.0 calm (λ m. not_missing call.told text file is m))
    complete_check NoMemory e has calm = inr refl
    complete_check (Ran over) e has calm = absurd e
    complete_check Words e has calm = absurd e
    complete_check (BadSchedule bad) e has calm = absurd e
    complete_check (BadEntry number) e has calm = absurd e
    complete_check (BadNumber count) e has calm = absurd e
    complete_check (BadImage fault) e has calm = absurd e
    complete_check WriteFault e has calm = absurd e

    pub refused_check : (end : End) → EndsCheck file call end → (HasProgram text → ⊥) → ((r : Reason) × (end ≡ Refused r) × IsRefused text r) ⊎ ((end ≡ ReadFault) ⊎ (end ≡ NoMemory))
    refused_check Made e none_has = absurd (none_has (e.1 text is))
    refused_check (Refused r) e none_has = inl (r, refl, e.1 text is)
    refused_check ReadFault e none_has = inr (inl refl)
    refused_check NoMemory e none_has = inr (inr refl)
    refused_check (Ran over) e none_has = absurd e
    refused_check Words e none_has = absurd e
    refused_check (BadSchedule bad) e none_has = absurd e
    refused_check (BadEntry number) e none_has = absurd e
    refused_check (BadNumber count) e none_has = absurd e
    refused_check (BadImage fault) e none_has = absurd e
    refused_check WriteFault e none_has = absurd e
