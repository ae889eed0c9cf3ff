-- What holds of each effect that an action can have holds of the one that comes.
use Rattle.std.proofs.Common.{◌≡◌, ℕ, zero, suc, Bool, true, false, cond, List, Option, Some, None, option_map, refl, subst}
use Rattle.std.proofs.lemmas.Option.{same_Some}
use Rattle.al_base.specs.declared.trap.Trap.TheVariants.{Chan}
use Rattle.al_event.specs.declared.act.Branch.{Branch}
use Rattle.al_event.specs.declared.act.Act.{Act}
use Rattle.al_event.specs.declared.act.Act.TheVariants.{Talk}
use Rattle.al_world.specs.Channels.{has_bad, ready, is_some_ready}
use Rattle.al_world.specs.Talks.{Fired, fires}
use Rattle.al_world.specs.World.{TaskName, TalkName, same_talker, Shared, Effect}
use Rattle.al_world.specs.Actions.{acts, performs, trapped, goes, waits_for, talk_of, goes_or_waits, talks, at_zero}

abbrev pub IfSome' : {X : Type 0} → (X → Type 0) → Option X → Type 0
IfSome' Q None = Unit {0}
IfSome' Q (Some e) = Q e

pub got_some : {X : Type 0} (Q : X → Type 0) (o : Option X) (x : X) → IfSome' Q o → o ≡ Some x → Q x
got_some Q None x q h = absurd (cc)
got_some Q (Some y) x q h = subst Q (same_Some y x h) q

pub map_some : {X Y : Type 0} (Q : Y → Type 0) (f : X → Y) (o : Option X) → ((x : X) → o ≡ Some x → Q (f x)) → IfSome' Q (option_map f o)
map_some Q f None h = tt
map_some Q f (Some x) h = h x refl

module _ (Q : Effect → Type 0) (s : Shared) (t : TaskName) where
  pub at_zero_cases : (pick : ℕ) (e : Effect) → Q e → IfSome' Q (at_zero pick e)
  at_zero_cases zero e h = h
  at_zero_cases (suc k) e h = tt

  module _ (branches : List Branch) (pick : ℕ) (trap : Q (trapped s t Chan)) (wait : has_bad s.book branches ≡ false → Q (waits_for s t branches)) (go : (f : Fired TalkName) → has_bad s.book branches ≡ false → fires same_talker s.book (talk_of s t) branches pick ≡ Some f → Q (goes s t f)) where
    goes_cases : has_bad s.book branches ≡ false → (b : Bool) → IfSome' Q (goes_or_waits s t branches pick b)
    goes_cases fine true = map_some Q (goes s t) _ (λ f. go f fine)
    goes_cases fine false = at_zero_cases pick _ (wait fine)

    pub talks_cases : IfSome' Q (talks s t branches pick)
    talks_cases = on (has_bad s.book branches) refl
      where
        on : (b : Bool) → has_bad s.book branches ≡ b → IfSome' Q (cond b (at_zero pick (trapped s t Chan)) (goes_or_waits s t branches pick (is_some_ready (ready s.book branches))))
        on true e = at_zero_cases pick _ trap
        on false e = goes_cases e _

  module _ (trap : Q (trapped s t Chan)) (go : (branches : List Branch) (pick : ℕ) (f : Fired TalkName) → has_bad s.book branches ≡ false → fires same_talker s.book (talk_of s t) branches pick ≡ Some f → Q (goes s t f)) where
    pub performs_cases : (act : Act) (pick : ℕ) → Q (acts s t act) → IfSome' Q (performs s t act pick)
    performs_cases (Talk branches) pick h = talks_cases branches pick trap (λ _. h) (go branches pick)
    performs_cases act pick h = at_zero_cases pick _ h
