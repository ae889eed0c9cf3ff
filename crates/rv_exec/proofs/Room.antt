-- Room in the stack for what the branches of a talk receive.
use Rattle.std.proofs.Common.{◌≡◌, ℕ, ◌+◌, ◌<◌, ◌≤◌, ◌⊎◌, inl, inr, List, length, slice_get, None, sym, ap, subst, arith}
use Rattle.std.proofs.lemmas.Bool.{cases_order}
use Rattle.std.proofs.lemmas.Option.{slice_get_past}
use Rattle.al_event.specs.declared.act.Branch.{Branch}
use Rattle.al_world.specs.Control.{received_by}
use Rattle.rv_exec.specs.Hart.{Hart}
use Rattle.rv_exec.specs.Machine.{place_of}

-- how many words a branch receives
abbrev pub received : List Branch → ℕ → ℕ
received branches b = received_by (slice_get branches b)

-- a stack of so many words has room for what a branch receives
abbrev pub RoomFor : Hart → List Branch → (long b : ℕ) → Type 0
RoomFor h branches long b = 0 < received branches b → place_of h b + received branches b ≤ long

-- and for what the first branches receive
abbrev pub RoomUpTo : Hart → List Branch → (long k : ℕ) → Type 0
RoomUpTo h branches long k = (b : ℕ) → b < k → RoomFor h branches long b

same_sum : (a b r n : ℕ) → a ≡ b → a + r ≤ n → b + r ≤ n
same_sum a b r n e h = omega arith

more_room : (a old new : ℕ) → a ≤ old → old ≤ new → a ≤ new
more_room a old new h grows = omega arith

pub same_room : (h h' : Hart) (branches : List Branch) (long b : ℕ) → h' ≡ h → RoomFor h' branches long b → RoomFor h branches long b
same_room h h' branches long b same room some =
    same_sum (place_of h' b) (place_of h b) (received branches b) long (ap (λ (x : Hart). place_of x b) same) (room some)

pub room_next : (h h' : Hart) (branches : List Branch) (k old new : ℕ) → h' ≡ h → RoomUpTo h branches old k → old ≤ new
    → RoomFor h' branches new k → RoomUpTo h branches new (k + 1)
room_next h h' branches k old new same room grows one b below = on (cases_order k b) where
  on : (k ≡ b) ⊎ ((k < b) ⊎ (b < k)) → RoomFor h branches new b
  on (inl is) = subst (λ b. RoomFor h branches new b) is (same_room h h' branches new k same one)
  on (inr (inl above)) = absurd (omega (arith, above, below))
  on (inr (inr less)) = λ some. more_room _ old new (room b less some) grows

pub room_all : (h h' : Hart) (branches : List Branch) (k long : ℕ) → h' ≡ h → RoomUpTo h branches long k → length branches ≤ k
    → (b : ℕ) → RoomFor h' branches long b
room_all h h' branches k long same room all b = on (cases_order k b) where
  past : k ≤ b → RoomFor h' branches long b
  past le some =
      let gone : slice_get branches b ≡ None = slice_get_past branches b (omega arith) in
      let none : 0 < 0 = subst (λ o. 0 < received_by o) gone some in
      absurd (omega (arith, none))

  on : (k ≡ b) ⊎ ((k < b) ⊎ (b < k)) → RoomFor h' branches long b
  on (inl is) = past (omega arith)
  on (inr (inl above)) = past (omega arith)
  on (inr (inr less)) = same_room h' h branches long b (sym same) (room b less)
