-- The five ways in which a talk goes, with what is known in each.
use Rattle.std.proofs.Common.{◌≡◌, ℕ, ◌+◌, List, [], ◌∷◌, ◌++◌, Bool, true, false, ◌==◌, length, Option, Some, None, option_and_then, refl, sym, ◌∙◌, subst, append_assoc, length-append, arith}
use Rattle.std.specs.Prelude.{slice_get}
use Rattle.std.specs.List.{AllByRecursion}
use Rattle.std.proofs.lemmas.Option.{same_Some}
use Rattle.al_event.specs.declared.act.Branch.{Branch}
use Rattle.al_world.specs.Channels.{Channel, Offer, Book, Pair, pair, channel, is_open, is_opposite, opposites, pairs_at, pairs_from, ready}
use Rattle.al_world.specs.Talks.{Fired, meets, hands_over, puts_in, takes_out, lets_in, sends, receives, by_buffer, goes_with, fires}
use Rattle.al_world.specs.Transfers.{IsIn}
use Rattle.al_world.proofs.Lists.{get_seam, all_append, all_take, all_if, all_map, all_to, all_at, in_filter}

module _ {By : Type 0} where
  -- a waiting branch that is opposite to b
  pub record IsPartner (waiting : List (Offer By)) (b : Branch) (o : Offer By) : Type 0 where
    pub waits : IsIn waiting o
    pub opposite : is_opposite b o.branch ≡ true

  pub partners : (waiting : List (Offer By)) (b : Branch) → AllByRecursion (IsPartner waiting b) (opposites waiting b)
  partners waiting b =
      all_to _ _ (λ (o : Offer By) h. record { waits = h.0; opposite = h.1 }) (opposites waiting b) (in_filter (λ (o : Offer By). is_opposite b o.branch) waiting)

  module _ (book : Book By) (branches : List Branch) where
    -- branch number i is b, on this channel
    pub record IsBranch (i : ℕ) (b : Branch) (ch : Channel) : Type 0 where
      pub at : slice_get branches i ≡ Some b
      pub on : channel book.channels b.chan ≡ Some ch

    abbrev pub Goes : Channel → Branch → Option (Offer By) → Type 0
    Goes ch b None = ((ch.capacity == 0) ≡ false) × (is_open ch b.send ≡ true)
    Goes ch b (Some o) = ((ch.capacity == 0) ≡ true) × IsPartner book.waiting b o

    -- a pair that can go
    pub record IsPair (p : Pair By) : Type 0 where
      pub channel : Channel
      pub branch : IsBranch p.number p.branch channel
      pub goes : Goes channel p.branch p.partner

    pairs_are_at : (i : ℕ) (b : Branch) (o : Option Channel) → slice_get branches i ≡ Some b → channel book.channels b.chan ≡ o → AllByRecursion IsPair (pairs_at book.waiting i b o)
    pairs_are_at i b None at on = tt
    pairs_are_at i b (Some ch) at on =
        all_if IsPair (ch.capacity == 0) _ _
        (λ z. all_map IsPair (λ (o : Offer By). pair i b (Some o)) (opposites book.waiting b) (all_to _ _ (λ (o : Offer By) h. record { channel = ch; branch = record { at = at; on = on }; goes = (z, h) }) (opposites book.waiting b) (partners book.waiting b)))
        (λ z. all_if IsPair (is_open ch b.send) (pair i b None ∷ []) [] (λ y. (record { channel = ch; branch = record { at = at; on = on }; goes = (z, y) }, tt)) (λ _. tt))

    pairs_are_from : (bs pre : List Branch) → pre ++ bs ≡ branches → AllByRecursion IsPair (pairs_from book (length pre) bs)
    pairs_are_from [] pre e = tt
    pairs_are_from (b ∷ bs) pre e =
        let n : length (pre ++ b ∷ []) ≡ length pre + 1 = omega (arith, length-append pre (b ∷ [])) in
        let at : slice_get branches (length pre) ≡ Some b = subst (λ l. slice_get l (length pre) ≡ Some b) e (get_seam pre b bs) in
        let rest : AllByRecursion IsPair (pairs_from book (length pre + 1) bs) = subst (λ k. AllByRecursion IsPair (pairs_from book k bs)) n (pairs_are_from bs (pre ++ b ∷ []) (append_assoc pre (b ∷ []) bs ∙ e)) in
        all_append IsPair _ _ (pairs_are_at (length pre) b (channel book.channels b.chan) at refl) rest

    pub pairs_are : AllByRecursion IsPair (ready book branches)
    pairs_are = all_take IsPair 65536 _ (pairs_are_from branches [] refl)

    module _ (same : By → By → Bool) (t : By) (Q : Fired By → Type 0) where
      pub record Ways : Type 0 where
        pub q_meets : (i : ℕ) (b : Branch) (ch : Channel) (o : Offer By) → IsBranch i b ch → (ch.capacity == 0) ≡ true → IsPartner book.waiting b o → Q (meets same book t i b.chan b.send o)
        pub q_hands_over : (i : ℕ) (b : Branch) (ch : Channel) (words : List ℕ) (o : Offer By) → IsBranch i b ch → (ch.capacity == 0) ≡ false → b.send ≡ Some words → ch.held ≡ [] → IsPartner book.waiting b o → Q (hands_over same book t i b.chan words o)
        pub q_puts_in : (i : ℕ) (b : Branch) (ch : Channel) (words : List ℕ) → IsBranch i b ch → (ch.capacity == 0) ≡ false → b.send ≡ Some words → Q (puts_in same book t i b.chan words)
        pub q_takes_out : (i : ℕ) (b : Branch) (ch : Channel) (words : List ℕ) (rest : List (List ℕ)) → IsBranch i b ch → (ch.capacity == 0) ≡ false → b.send ≡ None → ch.held ≡ words ∷ rest → Q (takes_out same book t i b.chan words)
        pub q_lets_in : (i : ℕ) (b : Branch) (ch : Channel) (words : List ℕ) (rest : List (List ℕ)) (o : Offer By) → IsBranch i b ch → (ch.capacity == 0) ≡ false → b.send ≡ None → ch.held ≡ words ∷ rest → IsPartner book.waiting b o → Q (lets_in same book t i b.chan words o)

      module _ (ways : Ways) (f : Fired By) where
        sent : (i : ℕ) (b : Branch) (ch : Channel) (words : List ℕ) → IsBranch i b ch → (ch.capacity == 0) ≡ false → b.send ≡ Some words → (held : List (List ℕ)) → ch.held ≡ held → (os : List (Offer By)) → AllByRecursion (IsPartner book.waiting b) os → Q (sends same book t i b.chan words held os)
        sent i b ch words at z s [] h (o ∷ os) p = ways.q_hands_over i b ch words o at z s h p.0
        sent i b ch words at z s held h os p = ways.q_puts_in i b ch words at z s

        received : (i : ℕ) (b : Branch) (ch : Channel) → IsBranch i b ch → (ch.capacity == 0) ≡ false → b.send ≡ None → (full : Bool) (held : List (List ℕ)) → ch.held ≡ held → (os : List (Offer By)) → AllByRecursion (IsPartner book.waiting b) os → receives same book t i b.chan full held os ≡ Some f → Q f
        received i b ch at z s full [] h os p e = absurd (cc)
        received i b ch at z s true (words ∷ rest) h (o ∷ os) p e = subst Q (same_Some _ _ e) (ways.q_lets_in i b ch words rest o at z s h p.0)
        received i b ch at z s full (words ∷ rest) h os p e = subst Q (same_Some _ _ e) (ways.q_takes_out i b ch words rest at z s h)

        buffered : (i : ℕ) (b : Branch) (ch : Channel) → IsBranch i b ch → (ch.capacity == 0) ≡ false → (send : Option (List ℕ)) → b.send ≡ send → (o : Option Channel) → channel book.channels b.chan ≡ o → by_buffer same book t i b send o ≡ Some f → Q f
        buffered i b ch at z send s None on e = absurd (cc)
        buffered i b ch at z (Some words) s (Some c) on e =
            subst Q (same_Some _ _ e) (sent i b c words (record { at = at.at; on = on }) (subst (λ (c : Channel). (c.capacity == 0) ≡ false) (same_Some ch c (sym at.on ∙ on)) z) s c.held refl _ (partners book.waiting b))
        buffered i b ch at z None s (Some c) on e =
            received i b c (record { at = at.at; on = on }) (subst (λ (c : Channel). (c.capacity == 0) ≡ false) (same_Some ch c (sym at.on ∙ on)) z) s (length c.held == c.capacity) c.held refl _ (partners book.waiting b) e

        gone : (i : ℕ) (b : Branch) (ch : Channel) (o : Option (Offer By)) → IsBranch i b ch → Goes ch b o → goes_with same book t i b o ≡ Some f → Q f
        gone i b ch (Some o) at g e = subst Q (same_Some _ _ e) (ways.q_meets i b ch o at g.0 g.1)
        gone i b ch None at g e = buffered i b ch at g.0 b.send refl (channel book.channels b.chan) refl e

        -- what holds in each of the five ways holds of what fires
        pub fires_ways : (pick : ℕ) → fires same book t branches pick ≡ Some f → Q f
        fires_ways pick = on (slice_get (ready book branches) pick) refl
          where
            on : (o : Option (Pair By)) → slice_get (ready book branches) pick ≡ o → option_and_then (λ (p : Pair By). goes_with same book t p.number p.branch p.partner) o ≡ Some f → Q f
            on None g e = absurd (cc)
            on (Some p) g e =
                let is : IsPair p = all_at IsPair (ready book branches) p pairs_are (record { at = pick; is = g }) in
                gone p.number p.branch is.channel p.partner is.branch is.goes e
