-- What gives channels up, and what goes through them, leaves how many there are.
use Rattle.std.proofs.Common.{◌≡◌, ℕ, zero, suc, List, [], ◌∷◌, length, Option, Some, None, Ok, Err, option_and_then, refl, sym, ap, ◌∙◌, true, false, Bool, cond, ◌==◌}
use Rattle.std.specs.Prelude.{slice_get}
use Rattle.al_base.specs.declared.trap.Trap.TheVariants.{Chan, Busy}
use Rattle.al_event.specs.declared.act.Branch.{Branch}
use Rattle.al_world.specs.Channels.{Channel, Book, Offer, with_channel, channel, gives_up, gives_up_one, is_waited_for, without_values, opposites, Pair, ready}
use Rattle.al_world.specs.Talks.{Fired, fires, goes_with, by_buffer, sends, receives, meets}
use Rattle.al_world.specs.World.{TalkName, same_talker}
use Rattle.al_world.proofs.Cases.{IfSome', got_some}
use Rattle.al_world.proofs.Sound.{length-changed}
use Rattle.al_world.proofs.Lists.{same_ok}

channels_changed : (c : ℕ) (f : Channel → Channel) (channels : List Channel) → length (with_channel c f channels) ≡ length channels
channels_changed zero f channels = refl
channels_changed (suc k) f channels = length-changed k f channels

pub free_length : (book : Book TalkName) (c : ℕ) (after : Book TalkName) → gives_up book c ≡ Ok after → length after.channels ≡ length book.channels
free_length book c after e = one (channel book.channels c) e
  where
    waits : (b : Bool) → cond b (Err Busy) (Ok (record book { channels = with_channel c without_values book.channels })) ≡ Ok after → length after.channels ≡ length book.channels
    waits true e = absurd (cc)
    waits false e =
        ap (λ (b : Book TalkName). length b.channels) (sym (same_ok _ _ e)) ∙ channels_changed c without_values book.channels

    gone : (ch : Channel) (b : Bool) → cond b (Err Chan) (cond (is_waited_for book c) (Err Busy) (Ok (record book { channels = with_channel c without_values book.channels }))) ≡ Ok after → length after.channels ≡ length book.channels
    gone ch true e = absurd (cc)
    gone ch false e = waits (is_waited_for book c) e

    one : (o : Option Channel) → gives_up_one book c o ≡ Ok after → length after.channels ≡ length book.channels
    one None e = ap (λ (b : Book TalkName). length b.channels) (sym (same_ok _ _ e))
    one (Some ch) e = gone ch ch.given_up e

-- a talk that goes makes no channel
pub record KeepsChannels (book : Book TalkName) (f : Fired TalkName) : Type 0 where
  pub count : length f.book.channels ≡ length book.channels

module _ (book : Book TalkName) (t : TalkName) where
  sends_keep : (i c : ℕ) (words : List ℕ) (held : List (List ℕ)) (os : List (Offer TalkName)) → KeepsChannels book (sends same_talker book t i c words held os)
  sends_keep i c words [] (o ∷ _) = record { count = refl }
  sends_keep i c words [] [] = record { count = channels_changed c _ book.channels }
  sends_keep i c words (v ∷ vs) os = record { count = channels_changed c _ book.channels }

  receives_keep : (i c : ℕ) (full : Bool) (held : List (List ℕ)) (os : List (Offer TalkName)) → IfSome' (KeepsChannels book) (receives same_talker book t i c full held os)
  receives_keep i c full [] os = tt
  receives_keep i c true (words ∷ _) (o ∷ _) = record { count = channels_changed c _ book.channels }
  receives_keep i c true (words ∷ _) [] = record { count = channels_changed c _ book.channels }
  receives_keep i c false (words ∷ _) os = record { count = channels_changed c _ book.channels }

  buffer_keeps : (i : ℕ) (b : Branch) (send : Option (List ℕ)) (o : Option Channel) → IfSome' (KeepsChannels book) (by_buffer same_talker book t i b send o)
  buffer_keeps i b send None = tt
  buffer_keeps i b (Some words) (Some ch) = sends_keep i b.chan words ch.held (opposites book.waiting b)
  buffer_keeps i b None (Some ch) = receives_keep i b.chan (length ch.held == ch.capacity) ch.held (opposites book.waiting b)

  pair_keeps : (i : ℕ) (b : Branch) (o : Option (Offer TalkName)) → IfSome' (KeepsChannels book) (goes_with same_talker book t i b o)
  pair_keeps i b (Some o) = on b.send
    where
      on : (send : Option (List ℕ)) → KeepsChannels book (meets same_talker book t i b.chan send o)
      on None = record { count = refl }
      on (Some words) = record { count = refl }
  pair_keeps i b None = buffer_keeps i b b.send (channel book.channels b.chan)

  pub fires_keep : (branches : List Branch) (pick : ℕ) (f : Fired TalkName) → fires same_talker book t branches pick ≡ Some f → KeepsChannels book f
  fires_keep branches pick f e = on (slice_get (ready book branches) pick) e
    where
      on : (o : Option (Pair TalkName)) → option_and_then (λ (p : Pair TalkName). goes_with same_talker book t p.number p.branch p.partner) o ≡ Some f → KeepsChannels book f
      on None e = absurd (cc)
      on (Some p) e = got_some (KeepsChannels book) _ f (pair_keeps p.number p.branch p.partner) e
