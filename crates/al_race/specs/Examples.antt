-- Worked examples: the races of short runs.
use Rattle.std.specs.Prelude.{ℕ, zero, suc, ◌+◌, ◌≡◌, List, [], ◌∷◌, reverse, Option, Some, option_map, refl}
use Rattle.al_event.specs.declared.act.Block.TheVariants.{Frame}
use Rattle.al_event.specs.declared.act.Act.TheVariants.{Load, Store, Alloc, Free, NewChan, Proc, Par}
use Rattle.al_world.specs.Scripts.{Script, Stops, scripts, does, gives_word, sends, receives, prints, function, by_procs}
use Rattle.al_seen.specs.Seeing.{seen_from}
use Rattle.al_race.specs.Races.{races}

-- the races along entries of these procs, from function 0 over a cell of four bytes
abbrev races_along : (ℕ → List ℕ → Script) → List ℕ → Option (List (ℕ × ℕ))
races_along functions ps = option_map (λ seens. races (reverse seens)) (seen_from (scripts functions) 24 ((0 ∷ 0 ∷ 0 ∷ 0 ∷ []) ∷ []) (function 0 []) (by_procs ps))

-- each of two branches adds 1 to the cell
abbrev adds : ℕ → List ℕ → Script
adds zero _ =
    does (Par (function 1 [] ∷ function 1 [] ∷ [])) (gives_word (Load 0x10000000 4) (λ v. prints v Stops))
adds (suc _) _ = gives_word (Load 0x10000000 4) (λ v. does (Store 0x10000000 4 (v + 1)) Stops)

pub one_after_the_other : races_along adds (0 ∷ 1 ∷ 1 ∷ 1 ∷ 2 ∷ 2 ∷ 2 ∷ 0 ∷ 0 ∷ 0 ∷ []) ≡ Some ((4, 2) ∷ (5, 2) ∷ [])
one_after_the_other = refl

pub interleaved : races_along adds (0 ∷ 1 ∷ 2 ∷ 1 ∷ 2 ∷ 1 ∷ 2 ∷ 0 ∷ 0 ∷ 0 ∷ []) ≡ Some ((3, 2) ∷ (4, 3) ∷ [])
interleaved = refl

-- two branches write the two words of a block, and the task that waits reads them
abbrev writes : ℕ → List ℕ → Script
writes zero _ =
    gives_word (Alloc 8 Frame) (λ a. does (Par (function 1 (a ∷ []) ∷ function 1 ((a + 4) ∷ []) ∷ [])) (gives_word (Load a 4) (λ v. gives_word (Load (a + 4) 4) (λ w. prints v (does (Free a Frame) Stops)))))
writes (suc _) [] = Stops
writes (suc _) (a ∷ _) = does (Store a 4 1) Stops

pub apart : races_along writes (0 ∷ 0 ∷ 1 ∷ 1 ∷ 2 ∷ 2 ∷ 0 ∷ 0 ∷ 0 ∷ 0 ∷ 0 ∷ []) ≡ Some []
apart = refl

-- a proc writes the cell and sends on a channel with so much room; main receives, and reads the cell
abbrev hands : ℕ → ℕ → List ℕ → Script
hands room zero _ =
    gives_word (NewChan room 1) (λ c. does (Proc (function 1 (c ∷ []))) (receives c (λ _. gives_word (Load 0x10000000 4) (λ v. prints v Stops))))
hands room (suc _) [] = Stops
hands room (suc _) (c ∷ _) = does (Store 0x10000000 4 1) (sends c 1 Stops)

-- the receive blocks, and the send goes
pub receive_first : races_along (hands 0) (0 ∷ 0 ∷ 0 ∷ 1 ∷ 1 ∷ 0 ∷ 0 ∷ 0 ∷ 1 ∷ []) ≡ Some []
receive_first = refl

-- the send blocks, and the receive goes
pub send_first : races_along (hands 0) (0 ∷ 0 ∷ 1 ∷ 1 ∷ 0 ∷ 0 ∷ 0 ∷ 0 ∷ 1 ∷ []) ≡ Some []
send_first = refl

-- by a buffer
pub by_buffer : races_along (hands 1) (0 ∷ 0 ∷ 1 ∷ 1 ∷ 0 ∷ 0 ∷ 0 ∷ 0 ∷ 1 ∷ []) ≡ Some []
by_buffer = refl

-- who sends does not wait for what the receiver does
abbrev asks : ℕ → List ℕ → Script
asks zero _ =
    gives_word (NewChan 1 1) (λ c. does (Proc (function 1 (c ∷ []))) (receives c (λ _. does (Store 0x10000000 4 2) Stops)))
asks (suc _) [] = Stops
asks (suc _) (c ∷ _) = sends c 1 (gives_word (Load 0x10000000 4) (λ v. prints v Stops))

pub after_a_send : races_along asks (0 ∷ 0 ∷ 1 ∷ 0 ∷ 0 ∷ 1 ∷ 1 ∷ 1 ∷ 0 ∷ []) ≡ Some ((5, 4) ∷ [])
after_a_send = refl
