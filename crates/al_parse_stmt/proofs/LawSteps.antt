-- Steps of `Law` by the kind of the next token, and by what is known of it.
use Rattle.std.proofs.Common.{◌≡◌, ℕ, ◌<◌, ◌≤◌, Bool, true, false, if◌then◌else◌, List, [], ◌∷◌, ◌++◌, length, refl, ap, ◌∙◌, arith, length-append}
use Rattle.al_base.specs.declared.place.Place.{Place}
use Rattle.al_lex.specs.declared.kind.TokenKind.{TokenKind}
use Rattle.al_lex.specs.declared.token.Token.{Token}
use Rattle.al_tree.specs.Words.{start}
use Rattle.al_tree.specs.Types.{Leaves, IsOtherName, AreStars, none as no_stars}
use Rattle.al_tree.specs.Reading.{Parser, ◌>>=◌, kind, same_kind, take_if}
use Rattle.al_tree.proofs.Law.{World, Family, Lang, Any, Has, Law, Grows, token, down, choose, weaken, look, kind_local, located, take_law, turn_law, all_turns, relang}
use Rattle.al_parse_type.specs.Parse.{other_name, stars_from}
use Rattle.al_parse_type.proofs.BoundLaw.{always, kind_is, first_kind, other_law, fresh_token, fresh_is, stars_law}

pub guard_law : {A R : Type 0} {w : World} {G G' : List Token → Type 0} {p : Family A} {Q : Lang A} → ((ts : List Token) → G' ts → G ts) → Law R w G p Q → Law R w G' p Q
guard_law f l = record { run = λ rt ts g s. l.run rt ts (f ts g) s; has = l.has }

-- what is known from the tokens alone
pub fact_law : {A C R : Type 0} {w : World} {G : List Token → Type 0} {p : Family A} {Q : Lang A} → ((ts : List Token) → G ts → C) → Has Q → (C → Law R w G p Q) → Law R w G p Q
fact_law f h k = record { run = λ rt ts g s. (k (f ts g)).run rt ts g s; has = h }

-- a token that is of that kind
pub taken_law : {A R : Type 0} {w : World} {G : List Token → Type 0} {Q : Lang A} (f : World → Token → Parser A) (b : ℕ → Bool) → Grows b → (K : TokenKind) → ((ts : List Token) → G ts → kind ts ≡ K)
    → ((t : Token) → t.kind ≡ K → Law (R × (b w.depth ≡ true)) w Any (λ w. f w t) (λ x a. Q (t ∷ x) a)) → Law R w G (λ w. take_if (b w.depth) >>= f w) Q
taken_law {Q = Q} f b grows K g k = take_law f b grows (λ t. t.kind ≡ K) (λ t ts q. first_kind t ts K (g (t ∷ ts) q)) some k
  where
    some : Has Q
    some = let h = (k (token K) refl).has in record { word = token K ∷ h.word; value = h.value; is = h.is }

pub next_law : {A R : Type 0} {w : World} {G : List Token → Type 0} {Q : Lang A} (f : World → Token → Parser A) (K : TokenKind) → ((ts : List Token) → G ts → kind ts ≡ K)
    → ((t : Token) → t.kind ≡ K → Law R w Any (λ w. f w t) (λ x a. Q (t ∷ x) a)) → Law R w G (λ w. take_if true >>= f w) Q
next_law f K g k = taken_law f always (λ m n l e. e) K g (λ t c. weaken (λ r. r.0) (k t c))

-- the same in a loop
pub next_turn_law : {A R : Type 0} {w : World} {G : List Token → Type 0} {Q : Lang A} (f : World → Token → Parser A) (K : TokenKind) → ((ts : List Token) → G ts → kind ts ≡ K)
    → ((t : Token) → t.kind ≡ K → Law R (down w) Any (λ w. f w t) (λ x a. Q (t ∷ x) a)) → Law R w G (λ w. take_if true >>= f (down w)) Q
next_turn_law {Q = Q} f K g k = turn_law f always (λ m n l e. e) (λ t. t.kind ≡ K) (λ t ts q. first_kind t ts K (g (t ∷ ts) q)) some (λ t c. weaken (λ r. r.0) (k t c))
  where
    some : Has Q
    some = let h = (k (token K) refl).has in record { word = token K ∷ h.word; value = h.value; is = h.is }

-- whether the next token is of that kind
pub ask_law : {A R : Type 0} {w : World} {G : List Token → Type 0} {Q : Lang A} (K : TokenKind) (p q : Family A)
    → Law R w (λ ts. G ts × (kind ts ≡ K)) p Q → Law R w (λ ts. G ts × (same_kind (kind ts) K ≡ false)) q Q → Law R w G (λ w ts. (if same_kind (kind ts) K then p w else q w) ts) Q
ask_law K p q first second = look (λ ts. same_kind (kind ts) K) (λ ts ts' h. ap (λ y. same_kind y K) (kind_local ts ts' h)) (λ w is. if is then p w else q w) second.has
    (λ is. choose is
    (λ e. guard_law (λ ts g. (g.0, kind_is (kind ts) K (g.1 ∙ e))) first)
    (λ e. guard_law (λ ts g. (g.0, g.1 ∙ e)) second))

module _ (leaves : Leaves) (types : List ℕ) where
  -- there is always a name that is no type's
  pub new_name_law : {A R : Type 0} {w : World} {G : List Token → Type 0} {Q : Lang A} (f : World → Token → Parser A)
      → ((t : Token) → IsOtherName leaves types t → Law R w Any (λ w. f w t) (λ x a. Q (t ∷ x) a)) → Law R w G (λ w. other_name types >>= f w) Q
  new_name_law {Q = Q} f next = other_law leaves types f some next
    where
      some : Has Q
      some = let t = fresh_token types (start []) in let h = (next t (fresh_is leaves types (start []))).has in record { word = t ∷ h.word; value = h.value; is = h.is }

  pub all_stars : {R : Type 0} {w : World} → (R → w.fuel ≤ w.turns) → Law R w Any (λ w. stars_from w.turns 0) (AreStars leaves types)
  all_stars {w = w} fits = all_turns fits (λ i w. stars_from i 0) (stars_law leaves types (w.fuel ≤ w.turns) w.turns (record w { fuel = w.turns }) refl [] 0 no_stars)

-- ---- places

-- what is in the language where it begins at that place
abbrev pub Placed : {A : Type 0} → Place → Lang A → Lang A
Placed at Q u a = (start u ≡ at → Q u a) × (0 < length u)

pub placed_law : {A R : Type 0} {w : World} {G : List Token → Type 0} {p : Family A} {Q : Lang A} (at : Place) (t : Token) → t.place ≡ at → Has (λ v a. Q (t ∷ v) a)
    → Law R w G p (Placed at Q) → Law R w (λ ts. G ts × (start ts ≡ at)) p Q
placed_law {Q = Q} at t e h l = relang (λ u a q. q.0.0 q.1) (located at (λ u a q. q.1) first l)
  where
    first : Has (λ u a. Placed at Q u a × (start u ≡ at))
    first = record { word = t ∷ h.word; value = h.value; is = (((λ _. h.is), omega arith), e) }

pub some_tokens : (v : List Token) (t : Token) (r : List Token) → 0 < length (v ++ t ∷ r)
some_tokens v t r = omega (arith, length-append v (t ∷ r))
