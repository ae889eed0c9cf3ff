-- Worked examples of runs.
use Rattle.std.specs.Prelude.{ℕ, zero, suc, ◌+◌, List, [], ◌∷◌, Some, None, slice_index, replicate, refl, ◌≡◌, pos}
use Rattle.al_base.specs.declared.trap.Trap.TheVariants.{Fault, Align, Divide, Memory, Unalloc, Chan, Busy, Tasks, Illegal}
use Rattle.al_base.specs.declared.over.Over.TheVariants.{Done, Stopped, Trapped, Blocked}
use Rattle.al_event.specs.declared.act.Block.TheVariants.{Heap, Frame}
use Rattle.al_event.specs.declared.act.Act.TheVariants.{Load, Store, Alloc, Free, NewChan, FreeChan, CanSend, Proc, Task, Par, Terminate, Pause, CanRecv, Trap as Traps}
use Rattle.al_world.specs.Talks.{Transfer, Put, Get, Lost}
use Rattle.al_world.specs.World.{TalkName}
use Rattle.al_world.specs.Scripts.{Script, Stops, does, gives_word, receive_of, sends, receives, chooses, prints, function, by_procs, with_picks, after_entries, output_of, over_of, line_in, went_of}

-- ---- an unbuffered channel

-- function 0 starts function 1 as a proc and receives what that sends
abbrev exchange : ℕ → List ℕ → Script
exchange zero _ = gives_word (NewChan 0 1) (λ c. does (Proc (function 1 (c ∷ []))) (receives c (λ v. prints v Stops)))
exchange (suc _) words = sends (slice_index words 0) 42 Stops

-- the receive blocks, and the send goes
pub receive_first : output_of (after_entries exchange 24 [] (by_procs (0 ∷ 0 ∷ 0 ∷ 1 ∷ 1 ∷ 0 ∷ 0 ∷ []))) ≡ Some (42 ∷ [])
receive_first = refl

pub all_ended : over_of (after_entries exchange 24 [] (by_procs (0 ∷ 0 ∷ 0 ∷ 1 ∷ 1 ∷ 0 ∷ 0 ∷ []))) ≡ Some (Some Done)
all_ended = refl

-- the send blocks, and the receive goes
pub send_first : output_of (after_entries exchange 24 [] (by_procs (0 ∷ 0 ∷ 1 ∷ 0 ∷ 1 ∷ 0 ∷ 0 ∷ []))) ≡ Some (42 ∷ [])
send_first = refl

-- an entry after the end, and one of a proc without a ready task
pub after_the_end : output_of (after_entries exchange 24 [] (by_procs (0 ∷ 0 ∷ 0 ∷ 1 ∷ 1 ∷ 0 ∷ 0 ∷ 0 ∷ []))) ≡ None
after_the_end = refl

pub blocked_proc : output_of (after_entries exchange 24 [] (by_procs (0 ∷ 0 ∷ 0 ∷ 0 ∷ []))) ≡ None
blocked_proc = refl

-- ---- a buffered channel

abbrev fills : ℕ → List ℕ → Script
fills _ _ = gives_word (NewChan 2 1) (λ c. sends c 1 (sends c 2 (sends c 3 Stops)))

pub third_send_blocks : over_of (after_entries fills 24 [] (by_procs (0 ∷ 0 ∷ 0 ∷ 0 ∷ []))) ≡ Some (Some Blocked)
third_send_blocks = refl

abbrev queues : ℕ → List ℕ → Script
queues _ _ = gives_word (NewChan 2 1) (λ c. sends c 1 (sends c 2 (receives c (λ a. receives c (λ b. prints a (prints b (receives c (λ _. Stops))))))))

pub first_in_first_out : output_of (after_entries queues 24 [] (by_procs (replicate 7 0))) ≡ Some (1 ∷ 2 ∷ [])
first_in_first_out = refl

pub empty_blocks : over_of (after_entries queues 24 [] (by_procs (replicate 8 0))) ≡ Some (Some Blocked)
empty_blocks = refl

-- task 1 blocks on the full buffer; the receive of task 0 takes the oldest value and lets its value in
abbrev lets_in : ℕ → List ℕ → Script
lets_in zero _ =
    gives_word (NewChan 1 1) (λ c. sends c 1 (does (Task (function 1 (c ∷ []))) (sends c 2 (receives c (λ a. prints a Stops)))))
lets_in (suc _) words =
    receives (slice_index words 0) (λ a. prints a (receives (slice_index words 0) (λ b. prints b (sends (slice_index words 0) 3 Stops))))

pub value_let_in : output_of (after_entries lets_in 24 [] (by_procs (replicate 12 0))) ≡ Some (1 ∷ 2 ∷ 3 ∷ [])
value_let_in = refl

-- ---- one cell

-- each of two procs adds 1 to a cell, with a load and a store
abbrev race : ℕ → List ℕ → Script
race zero _ =
    does (Par (function 1 [] ∷ function 1 [] ∷ [])) (gives_word (Load 0x10000000 4) (λ v. prints v Stops))
race (suc _) _ = gives_word (Load 0x10000000 4) (λ v. does (Store 0x10000000 4 (v + 1)) Stops)

abbrev cell : List (List ℕ)
cell = (0 ∷ 0 ∷ 0 ∷ 0 ∷ []) ∷ []

pub one_after_the_other : output_of (after_entries race 24 cell (by_procs (0 ∷ 1 ∷ 1 ∷ 1 ∷ 2 ∷ 2 ∷ 2 ∷ 0 ∷ 0 ∷ 0 ∷ []))) ≡ Some (2 ∷ [])
one_after_the_other = refl

pub interleaved : output_of (after_entries race 24 cell (by_procs (0 ∷ 1 ∷ 2 ∷ 1 ∷ 2 ∷ 1 ∷ 2 ∷ 0 ∷ 0 ∷ 0 ∷ []))) ≡ Some (1 ∷ [])
interleaved = refl

-- the task that waits in a par is not ready until both branches have ended
pub par_waits : output_of (after_entries race 24 cell (by_procs (0 ∷ 1 ∷ 1 ∷ 1 ∷ 0 ∷ []))) ≡ None
par_waits = refl

-- ---- an alt

-- of two buffered channels that both hold a value
abbrev alternates : ℕ → List ℕ → Script
alternates _ _ =
    gives_word (NewChan 1 1) (λ c. gives_word (NewChan 1 1) (λ d. sends c 1 (sends d 2 (chooses (receive_of c ∷ receive_of d ∷ []) (λ _ v. prints v Stops)))))

pub first_branch : output_of (after_entries alternates 24 [] (with_picks (0 ∷ 0 ∷ 0 ∷ 0 ∷ 0 ∷ 0 ∷ []))) ≡ Some (1 ∷ [])
first_branch = refl

pub second_branch : output_of (after_entries alternates 24 [] (with_picks (0 ∷ 0 ∷ 0 ∷ 0 ∷ 1 ∷ 0 ∷ []))) ≡ Some (2 ∷ [])
second_branch = refl

pub no_third_branch : output_of (after_entries alternates 24 [] (with_picks (0 ∷ 0 ∷ 0 ∷ 0 ∷ 2 ∷ []))) ≡ None
no_third_branch = refl

-- an alt that waits on two channels goes by one branch, and its other branch is withdrawn: a second send finds no receive
abbrev withdraws : ℕ → List ℕ → Script
withdraws zero _ =
    gives_word (NewChan 0 1) (λ c. gives_word (NewChan 0 1) (λ d. does (Proc (function 1 (c ∷ d ∷ []))) (chooses (receive_of c ∷ receive_of d ∷ []) (λ i v. prints i (prints v Stops)))))
withdraws (suc _) words = sends (slice_index words 1) 7 (gives_word (CanSend (slice_index words 0)) (λ b. prints b Stops))

pub other_branch_left : output_of (after_entries withdraws 24 [] (by_procs (0 ∷ 0 ∷ 0 ∷ 0 ∷ 1 ∷ 0 ∷ 0 ∷ 1 ∷ 1 ∷ []))) ≡ Some (1 ∷ 7 ∷ 0 ∷ [])
other_branch_left = refl

-- ---- traps, each with the number of its entry

-- a function 0 that does one action and stops
abbrev once : (ℕ → Script) → ℕ → List ℕ → Script
once script _ _ = script 0

pub outside_blocks : over_of (after_entries (once (λ _. gives_word (Alloc 4 Heap) (λ p. does (Store (p + 4) 4 7) Stops))) 24 cell (by_procs (0 ∷ 0 ∷ []))) ≡ Some (Some (Trapped Fault 0 1))
outside_blocks = refl

pub align_before_fault : over_of (after_entries (once (λ _. gives_word (Load 1 4) (λ _. Stops))) 24 [] (by_procs (0 ∷ []))) ≡ Some (Some (Trapped Align 0 0))
align_before_fault = refl

-- an action that trapped has its line
pub trap_line : line_in (after_entries (once (λ _. gives_word (Load 1 4) (λ _. Stops))) 24 [] (by_procs (0 ∷ []))) ≡ Some 1
trap_line = refl

pub no_place : over_of (after_entries (once (λ _. gives_word (Alloc 9 Heap) (λ _. gives_word (Alloc 9 Heap) (λ _. Stops)))) 24 [] (by_procs (0 ∷ 0 ∷ []))) ≡ Some (Some (Trapped Memory 0 1))
no_place = refl

pub freed_twice : over_of (after_entries (once (λ _. gives_word (Alloc 4 Heap) (λ p. does (Free p Heap) (does (Free p Heap) Stops)))) 24 [] (by_procs (0 ∷ 0 ∷ 0 ∷ []))) ≡ Some (Some (Trapped Unalloc 0 2))
freed_twice = refl

pub nil_freed : over_of (after_entries (once (λ _. does (Free 0 Heap) Stops)) 24 [] (by_procs (0 ∷ 0 ∷ []))) ≡ Some (Some Done)
nil_freed = refl

pub no_frame : over_of (after_entries (once (λ _. does (Free 0 Frame) Stops)) 24 [] (by_procs (0 ∷ []))) ≡ Some (Some (Trapped Illegal 0 0))
no_frame = refl

pub send_on_nil : over_of (after_entries (once (λ _. sends 0 1 Stops)) 24 [] (by_procs (0 ∷ []))) ≡ Some (Some (Trapped Chan 0 0))
send_on_nil = refl

pub send_after_free : over_of (after_entries (once (λ _. gives_word (NewChan 0 1) (λ c. does (FreeChan c) (sends c 1 Stops)))) 24 [] (by_procs (0 ∷ 0 ∷ 0 ∷ []))) ≡ Some (Some (Trapped Chan 0 2))
send_after_free = refl

pub other_words : over_of (after_entries (once (λ _. gives_word (NewChan 0 2) (λ c. sends c 1 Stops))) 24 [] (by_procs (0 ∷ 0 ∷ []))) ≡ Some (Some (Trapped Chan 0 1))
other_words = refl

pub nil_given_up : over_of (after_entries (once (λ _. does (FreeChan 0) Stops)) 24 [] (by_procs (0 ∷ 0 ∷ []))) ≡ Some (Some Done)
nil_given_up = refl

-- a par puts the task that waits behind the one that sends
abbrev busy : ℕ → List ℕ → Script
busy zero _ = gives_word (NewChan 0 1) (λ c. does (Task (function 1 (c ∷ []))) (does (Par (function 2 [] ∷ [])) (does (FreeChan c) Stops)))
busy (suc zero) words = sends (slice_index words 0) 1 Stops
busy (suc (suc _)) _ = Stops

pub given_up_while_waited_for : over_of (after_entries busy 24 [] (by_procs (0 ∷ 0 ∷ 0 ∷ 0 ∷ 1 ∷ 0 ∷ []))) ≡ Some (Some (Trapped Busy 0 5))
given_up_while_waited_for = refl

-- the 1,024th task more than there may be
abbrev starts_many : ℕ → Script
starts_many zero = Stops
starts_many (suc n) = does (Task (function 1 [])) (starts_many n)

abbrev crowd : ℕ → List ℕ → Script
crowd zero _ = starts_many 1024
crowd (suc _) _ = Stops

pub too_many : over_of (after_entries crowd 24 [] (by_procs (replicate 1024 0))) ≡ Some (Some (Trapped Tasks 0 1023))
too_many = refl

pub terminated : over_of (after_entries (once (λ _. does (Terminate (pos 3)) Stops)) 24 [] (by_procs (0 ∷ []))) ≡ Some (Some (Stopped (pos 3)))
terminated = refl

-- ---- the first world

-- globals that do not fit the region: the world is over before its first entry
pub no_room_for_globals : over_of (after_entries (once (λ _. Stops)) 8 ((0 ∷ 0 ∷ []) ∷ (0 ∷ 0 ∷ []) ∷ []) []) ≡ Some (Some (Trapped Memory 0 0))
no_room_for_globals = refl

-- a pick is 0 where the action is no talk that goes
pub pick_out_of_range : over_of (after_entries (once (λ _. does Pause Stops)) 24 [] (with_picks (1 ∷ []))) ≡ None
pick_out_of_range = refl

-- a trap that a task asks for itself
pub own_trap : over_of (after_entries (once (λ _. does Pause (does (Traps Divide) Stops))) 24 [] (by_procs (0 ∷ 0 ∷ []))) ≡ Some (Some (Trapped Divide 0 1))
own_trap = refl

-- ---- what went

abbrev talk_by : ℕ → ℕ → TalkName
talk_by p entry = record { task = record { proc = p; number = 0 }; entry = entry }

-- the send is entry 0 of proc 1, and the receive entry 2 of proc 0
pub one_transfer : went_of (after_entries exchange 24 [] (by_procs (0 ∷ 0 ∷ 0 ∷ 1 ∷ 1 ∷ 0 ∷ 0 ∷ []))) ≡ Some (Transfer 1 (talk_by 1 0) (talk_by 0 2) (42 ∷ []) ∷ [])
one_transfer = refl

-- a receive waits on an empty buffer: the send hands its words over, and the buffer stays empty
abbrev hands_over : ℕ → List ℕ → Script
hands_over zero _ = gives_word (NewChan 1 1) (λ c. does (Proc (function 1 (c ∷ []))) (sends c 5 (gives_word (CanSend c) (λ b. prints b Stops))))
hands_over (suc _) words = receives (slice_index words 0) (λ v. prints v Stops)

pub handed_over : output_of (after_entries hands_over 24 [] (by_procs (0 ∷ 0 ∷ 1 ∷ 0 ∷ 0 ∷ 0 ∷ 0 ∷ 1 ∷ 1 ∷ []))) ≡ Some (1 ∷ 5 ∷ [])
handed_over = refl

pub put_and_got : went_of (after_entries hands_over 24 [] (by_procs (0 ∷ 0 ∷ 1 ∷ 0 ∷ []))) ≡ Some (Put 1 (talk_by 0 2) (5 ∷ []) ∷ Get 1 (talk_by 1 0) (5 ∷ []) ∷ [])
put_and_got = refl

-- a channel is given up with the value that it holds
abbrev gives_up : ℕ → Script
gives_up _ = gives_word (NewChan 2 1) (λ c. sends c 7 (does (FreeChan c) (gives_word (CanRecv c) (λ _. Stops))))

pub value_lost : went_of (after_entries (once gives_up) 24 [] (by_procs (0 ∷ 0 ∷ 0 ∷ []))) ≡ Some (Put 1 (talk_by 0 1) (7 ∷ []) ∷ Lost 1 ((7 ∷ []) ∷ []) ∷ [])
value_lost = refl

pub asked_after_free : over_of (after_entries (once gives_up) 24 [] (by_procs (0 ∷ 0 ∷ 0 ∷ 0 ∷ []))) ≡ Some (Some (Trapped Chan 0 3))
asked_after_free = refl

-- ---- ready lists

-- task 0 blocks in a send; the receive of task 1 makes it ready behind task 2
abbrev in_turn : ℕ → List ℕ → Script
in_turn zero _ =
    gives_word (NewChan 0 1) (λ c. does (Task (function 1 (c ∷ []))) (does (Task (function 2 [])) (sends c 0 (prints 3 Stops))))
in_turn (suc zero) words = receives (slice_index words 0) (λ _. prints 1 Stops)
in_turn (suc (suc _)) _ = prints 2 Stops

pub woken_goes_last : output_of (after_entries in_turn 24 [] (by_procs (replicate 11 0))) ≡ Some (1 ∷ 2 ∷ 3 ∷ [])
woken_goes_last = refl

-- the branches of a par are procs 1 and 2 in their order, and their procs may go in any order
abbrev branches : ℕ → List ℕ → Script
branches zero _ = does (Par (function 1 (4 ∷ []) ∷ function 1 (5 ∷ []) ∷ [])) Stops
branches (suc _) words = prints (slice_index words 0) Stops

pub second_branch_first : output_of (after_entries branches 24 [] (by_procs (0 ∷ 2 ∷ 2 ∷ 1 ∷ 1 ∷ 0 ∷ []))) ≡ Some (5 ∷ 4 ∷ [])
second_branch_first = refl

-- globals lie at the least places in their order
pub two_globals : output_of (after_entries (once (λ _. gives_word (Load 0x10000000 1) (λ a. gives_word (Load 0x10000008 1) (λ b. prints a (prints b Stops))))) 24 ((6 ∷ []) ∷ (7 ∷ []) ∷ []) (by_procs (0 ∷ 0 ∷ 0 ∷ 0 ∷ []))) ≡ Some (6 ∷ 7 ∷ [])
two_globals = refl
