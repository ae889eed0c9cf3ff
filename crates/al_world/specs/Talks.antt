-- What a talk does that goes, and one that blocks.
use Rattle.std.specs.Prelude.{ℕ, ◌+◌, Bool, true, not, ◌==◌, List, [], ◌∷◌, ◌++◌, filter, length, drop, slice_get, Option, Some, None, unwrap_or, option_and_then}
use Rattle.al_event.specs.declared.act.Branch.{Branch}
use Rattle.al_world.specs.Channels.{Channel, Offer, Book, Pair, channel, with_channel, opposites, ready}

-- what went, in order: words that a send handed to a receive on an unbuffered channel; words put into a buffered channel
-- or got from it; and the values that were given up with their channel
pub data Went (By : Type 0) : Type 0 where
  Transfer : (chan : ℕ) (sender receiver : By) (words : List ℕ) → Went By
  Put : (chan : ℕ) (sender : By) (words : List ℕ) → Went By
  Get : (chan : ℕ) (receiver : By) (words : List ℕ) → Went By
  Lost : (chan : ℕ) (values : List (List ℕ)) → Went By

-- a blocked talk that goes with another's: which of its branches went, and the words that it received
pub record Woken (By : Type 0) : Type 0 where
  pub by : By
  pub branch : ℕ
  pub words : List ℕ

-- what a talk comes to that goes: the book after it, which of its branches went, the words that it received, the blocked
-- talk that it woke, and what went
pub record Fired (By : Type 0) : Type 0 where
  pub book : Book By
  pub branch : ℕ
  pub words : List ℕ
  pub woke : Option (Woken By)
  pub went : List (Went By)

-- the branches of a talk that blocks, numbered from i on
abbrev pub offers_from : {By : Type 0} → By → ℕ → List Branch → List (Offer By)
offers_from t i [] = []
offers_from t i (b ∷ bs) = record { by = t; number = i; branch = b } ∷ offers_from t (i + 1) bs

-- it blocks: its branches wait, in their order, behind all others
abbrev pub blocks : {By : Type 0} → Book By → By → List Branch → Book By
blocks book t branches = record book { waiting = book.waiting ++ offers_from t 0 branches }

abbrev pub with_held : ℕ → (List (List ℕ) → List (List ℕ)) → List Channel → List Channel
with_held c f channels = with_channel c (λ ch. record ch { held = f ch.held }) channels

-- the words that a waiting send has
abbrev pub words_of : {By : Type 0} → Offer By → List ℕ
words_of o = unwrap_or o.branch.send []

-- `same` says whether two names are of one task
module _ {By : Type 0} (same : By → By → Bool) where
  -- all branches of a task that goes leave the waiting list
  abbrev pub withdraws : By → Book By → Book By
  withdraws u book = record book { waiting = filter (λ (o : Offer By). not (same o.by u)) book.waiting }

  -- branch i of talk t goes with a waiting branch on an unbuffered channel: the words of the send are handed to the receive
  abbrev pub meets : Book By → By → ℕ → ℕ → Option (List ℕ) → Offer By → Fired By
  meets book t i c (Some words) o = record {
    book = withdraws o.by book;
    branch = i;
    words = [];
    woke = Some (record { by = o.by; branch = o.number; words = words });
    went = Transfer c t o.by words ∷ [];
  }
  meets book t i c None o = record {
    book = withdraws o.by book;
    branch = i;
    words = words_of o;
    woke = Some (record { by = o.by; branch = o.number; words = [] });
    went = Transfer c o.by t (words_of o) ∷ [];
  }

  -- a send to an empty buffer on which a receive waits: the words are handed to it
  abbrev pub hands_over : Book By → By → ℕ → ℕ → List ℕ → Offer By → Fired By
  hands_over book t i c words o = record {
    book = withdraws o.by book;
    branch = i;
    words = [];
    woke = Some (record { by = o.by; branch = o.number; words = words });
    went = Put c t words ∷ Get c o.by words ∷ [];
  }

  -- a send into the buffer, behind what it holds
  abbrev pub puts_in : Book By → By → ℕ → ℕ → List ℕ → Fired By
  puts_in book t i c words = record {
    book = record book { channels = with_held c (λ held. held ++ words ∷ []) book.channels };
    branch = i;
    words = [];
    woke = None;
    went = Put c t words ∷ [];
  }

  -- a receive of the oldest value of the buffer
  abbrev pub takes_out : Book By → By → ℕ → ℕ → List ℕ → Fired By
  takes_out book t i c words = record {
    book = record book { channels = with_held c (λ held. drop 1 held) book.channels };
    branch = i;
    words = words;
    woke = None;
    went = Get c t words ∷ [];
  }

  -- a receive of the oldest value of a full buffer on which a send waits: the words of that send come in
  abbrev pub lets_in : Book By → By → ℕ → ℕ → List ℕ → Offer By → Fired By
  lets_in book t i c words o = record {
    book = withdraws o.by (record book { channels = with_held c (λ held. drop 1 held ++ words_of o ∷ []) book.channels });
    branch = i;
    words = words;
    woke = Some (record { by = o.by; branch = o.number; words = [] });
    went = Get c t words ∷ Put c o.by (words_of o) ∷ [];
  }

  -- a send on a buffered channel, by what it holds and the receives that wait for it
  abbrev pub sends : Book By → By → ℕ → ℕ → List ℕ → List (List ℕ) → List (Offer By) → Fired By
  sends book t i c words [] (o ∷ _) = hands_over book t i c words o
  sends book t i c words held _ = puts_in book t i c words

  -- a receive on a buffered channel, by whether it is full, what it holds and the sends that wait for it; none where it
  -- holds nothing
  abbrev pub receives : Book By → By → ℕ → ℕ → Bool → List (List ℕ) → List (Offer By) → Option (Fired By)
  receives book t i c full [] _ = None
  receives book t i c true (words ∷ _) (o ∷ _) = Some (lets_in book t i c words o)
  receives book t i c full (words ∷ _) _ = Some (takes_out book t i c words)

  abbrev pub by_buffer : Book By → By → ℕ → Branch → Option (List ℕ) → Option Channel → Option (Fired By)
  by_buffer book t i b send None = None
  by_buffer book t i b (Some words) (Some ch) = Some (sends book t i b.chan words ch.held (opposites book.waiting b))
  by_buffer book t i b None (Some ch) =
      receives book t i b.chan (length ch.held == ch.capacity) ch.held (opposites book.waiting b)

  -- branch i of talk t goes with its partner, or with the buffer
  abbrev pub goes_with : Book By → By → ℕ → Branch → Option (Offer By) → Option (Fired By)
  goes_with book t i b (Some o) = Some (meets book t i b.chan b.send o)
  goes_with book t i b None = by_buffer book t i b b.send (channel book.channels b.chan)

  -- what a talk with these branches does where pair number pick goes; none where there is no such pair
  abbrev pub fires : Book By → By → List Branch → ℕ → Option (Fired By)
  fires book t branches pick =
      option_and_then (λ (p : Pair By). goes_with book t p.number p.branch p.partner) (slice_get (ready book branches) pick)
