-- A list with one element changed, and channels with other values.
use Rattle.std.proofs.Common.{ℕ, zero, suc, ◌-◌, ◌<◌, ◌≤◌, ◌≡◌, refl, sym, ap, subst, ◌∙◌, arith, List, [], ◌∷◌, length, slice_get, slice_set, Option, Some, None, Ok, false}
use Rattle.al_world.specs.Channels.{Channel, Book, Offer, channel, with_channel, without_values, held_of, changed_at, is_waited_for, gives_up, gives_up_one}
use Rattle.al_world.specs.Talks.{with_held}

-- ---- one element of a list

-- a change of the element of a place is a write of what it becomes
pub changed_at_some : {X : Type 0} (k : ℕ) (f : X → X) (xs : List X) (x : X) → slice_get xs k ≡ Some x → changed_at k f xs ≡ slice_set xs k (f x)
changed_at_some k f [] x e = cc
changed_at_some zero f (y ∷ ys) x e = cc
changed_at_some (suc k) f (y ∷ ys) x e = ap (λ zs. y ∷ zs) (changed_at_some k f ys x e)

-- past the end there is nothing to change
pub changed_at_none : {X : Type 0} (k : ℕ) (f : X → X) (xs : List X) → slice_get xs k ≡ None → changed_at k f xs ≡ xs
changed_at_none k f [] e = refl
changed_at_none zero f (y ∷ ys) e = cc
changed_at_none (suc k) f (y ∷ ys) e = ap (λ zs. y ∷ zs) (changed_at_none k f ys e)

-- a write of what a change makes of the element there is the change
pub changes : {X : Type 0} (k : ℕ) (f : X → X) (xs ys : List X) (x y : X) → Some x ≡ slice_get xs k → y ≡ f x → ys ≡ slice_set xs k y → ys ≡ changed_at k f xs
changes k f xs ys x y h e w = w ∙ (ap (λ z. slice_set xs k z) e ∙ sym (changed_at_some k f xs x (sym h)))

pub changes_nothing : {X : Type 0} (k : ℕ) (f : X → X) (xs : List X) → None ≡ slice_get xs k → xs ≡ changed_at k f xs
changes_nothing k f xs h = sym (changed_at_none k f xs (sym h))

-- ---- channels, which are numbered from 1

before_one : (k : ℕ) → suc k - 1 ≡ k
before_one k = omega arith

-- a write of what a change makes of a channel that is there is the change
pub channel_changes : (c : ℕ) (f : Channel → Channel) (xs ys : List Channel) (x y : Channel) → 0 < c → Some x ≡ slice_get xs (c - 1) → y ≡ f x → ys ≡ slice_set xs (c - 1) y → ys ≡ with_channel c f xs
channel_changes zero f xs ys x y some h e w = absurd (omega arith)
channel_changes (suc k) f xs ys x y some h e w =
    changes k f xs ys x y (subst (λ (n : ℕ). Some x ≡ slice_get xs n) (before_one k) h) e (subst (λ (n : ℕ). ys ≡ slice_set xs n y) (before_one k) w)

-- and where there is none nothing changes
pub channel_changes_nothing : (c : ℕ) (f : Channel → Channel) (xs : List Channel) → 0 < c → None ≡ slice_get xs (c - 1) → xs ≡ with_channel c f xs
channel_changes_nothing zero f xs some h = absurd (omega arith)
channel_changes_nothing (suc k) f xs some h =
    changes_nothing k f xs (subst (λ (n : ℕ). ◌≡◌ {A = Option Channel} None (slice_get xs n)) (before_one k) h)

set_is_changed : {X : Type 0} (k : ℕ) (y : X) (xs : List X) → slice_set xs k y ≡ changed_at k (λ _. y) xs
set_is_changed k y [] = refl
set_is_changed zero y (x ∷ xs) = refl
set_is_changed (suc k) y (x ∷ xs) = ap (λ zs. x ∷ zs) (set_is_changed k y xs)

past_changed : {X : Type 0} (k : ℕ) (f : X → X) (xs : List X) → length xs ≤ k → xs ≡ changed_at k f xs
past_changed k f [] h = refl
past_changed zero f (x ∷ xs) h = absurd (omega arith)
past_changed (suc k) f (x ∷ xs) h = ap (λ zs. x ∷ zs) (past_changed k f xs (omega arith))

pub replaces : (c : ℕ) (y : Channel) (xs : List Channel) → 0 < c → slice_set xs (c - 1) y ≡ with_channel c (λ _. y) xs
replaces zero y xs h = absurd (omega arith)
replaces (suc k) y xs h = subst (λ (n : ℕ). slice_set xs n y ≡ changed_at k (λ _. y) xs) (sym (before_one k)) (set_is_changed k y xs)

pub replaces_nothing : (c : ℕ) (y : Channel) (xs : List Channel) → 0 < c → length xs ≤ c - 1 → xs ≡ with_channel c (λ _. y) xs
replaces_nothing zero y xs h past = absurd (omega arith)
replaces_nothing (suc k) y xs h past = past_changed k (λ _. y) xs (omega (arith, before_one k))

-- ---- the values of a channel

-- with the values that the element of this place has now
changed_known : (k : ℕ) (f : List (List ℕ) → List (List ℕ)) (xs : List Channel) → changed_at k (λ (ch : Channel). record ch { held = f ch.held }) xs ≡ changed_at k (λ (ch : Channel). record ch { held = f (held_of (slice_get xs k)) }) xs
changed_known k f [] = refl
changed_known zero f (x ∷ xs) = refl
changed_known (suc k) f (x ∷ xs) = ap (λ ys. x ∷ ys) (changed_known k f xs)

-- the values of a channel after a change are what the change makes of those that it has now
pub with_held_known : (c : ℕ) (f : List (List ℕ) → List (List ℕ)) (channels : List Channel) → with_held c f channels ≡ with_channel c (λ (ch : Channel). record ch { held = f (held_of (channel channels c)) }) channels
with_held_known zero f channels = refl
with_held_known (suc k) f channels = changed_known k f channels

-- a channel that is there becomes what it becomes now
pub with_channel_known : (c : ℕ) (f : Channel → Channel) (channels : List Channel) (ch : Channel) → Some ch ≡ channel channels c → with_channel c f channels ≡ with_channel c (λ (old : Channel). f ch) channels
with_channel_known zero f channels ch e = cc
with_channel_known (suc k) f channels ch e =
    changed_at_some k f channels ch (sym e) ∙ sym (changed_at_some k (λ (old : Channel). f ch) channels ch (sym e))

-- a channel that may be given up is
pub given_up : {By : Type 0} (book : Book By) (c : ℕ) (ch y : Channel) (channels after : List Channel) (waiting : List (Offer By)) → channels ≡ book.channels → waiting ≡ book.waiting → Some ch ≡ channel book.channels c → ch.given_up ≡ false → is_waited_for book c ≡ false → y ≡ without_values ch → after ≡ with_channel c (λ (old : Channel). y) channels → gives_up book c ≡ Ok (record { channels = after; waiting = waiting })
given_up {By} book c ch y channels after waiting v u e g w x h =
    let same : with_channel c without_values book.channels ≡ after = with_channel_known c without_values book.channels ch e ∙ (ap (λ (z : Channel). with_channel c (λ (old : Channel). z) book.channels) (sym x) ∙ sym (h ∙ ap (λ (k : List Channel). with_channel c (λ (old : Channel). y) k) v)) in
    subst (λ (o : Option Channel). gives_up_one book c o ≡ Ok (record { channels = after; waiting = waiting })) e
    (rw (g, w) (ap (λ (k : List Channel). Ok (record book { channels = k })) same ∙ ap (λ (q : List (Offer By)). Ok (record { channels = after; waiting = q })) (sym u)))

-- a book whose channel has what a change makes of its values
pub held_becomes : {By : Type 0} (book after : Book By) (c : ℕ) (f : List (List ℕ) → List (List ℕ)) (held : List (List ℕ)) → after ≡ record book { channels = with_channel c (λ (ch : Channel). record ch { held = held }) book.channels } → held ≡ f (held_of (channel book.channels c)) → after ≡ record book { channels = with_held c f book.channels }
held_becomes book after c f held w e =
    w ∙ (ap (λ (h : List (List ℕ)). record book { channels = with_channel c (λ (ch : Channel). record ch { held = h }) book.channels }) e ∙ ap (λ (k : List Channel). record book { channels = k }) (sym (with_held_known c f book.channels)))
