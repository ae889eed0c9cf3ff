-- Actions, values of several units, large frames and private globals.
use Rattle.std.proofs.Common.{◌≡◌, ℕ, ◌+◌, ◌^◌, true, List, [], ◌∷◌, Some, None, pos, refl}
use Rattle.std.specs.Prelude.{replicate}
use Rattle.std.specs.Fmt.{digits}
use Rattle.al_base.specs.declared.arith.Op.TheVariants as arith
use Rattle.al_base.specs.declared.trap.Trap.TheVariants as trap
use Rattle.al_event.specs.declared.act.Act.TheVariants as act
use Rattle.al_event.specs.declared.act.Block.TheVariants as block
use Rattle.al_ir.specs.declared.ir.Ir.{Ir}
use Rattle.al_ir.specs.declared.op.Op.TheVariants as op
use Rattle.rv_exec.specs.Step.{performed}
use Rattle.rv_form_examples.specs.Runs.{Said, by_operations, by_code, plain}
use Rattle.rv_form_examples.proofs.Programs.{on, function, program, says}

-- ---- blocks, loads and stores

abbrev blocks : Ir
blocks = program (function 1 0 24 12 (
    on 2 (op.Alloc 0 5000 block.Heap)
    ∷ on 3 (op.Constant 1 0x12345678)
    ∷ on 3 (op.Store 0 4 2 1)
    ∷ on 4 (op.Load 2 0 4 2)
    ∷ on 5 (op.Store 0 4996 4 1)
    ∷ on 5 (op.Store 0 2047 1 1)
    ∷ on 6 (op.Load 3 0 4999 1)
    ∷ on 7 (op.PutHex 2)
    ∷ on 7 (op.PutHex 3)
    ∷ on 7 op.Print
    ∷ on 8 (op.Free 0 block.Heap)
    ∷ on 9 (op.Terminate 3)
    ∷ []) ∷ [])

abbrev blocks_answers : List (List ℕ)
blocks_answers = (2 ^ 28 ∷ []) ∷ [] ∷ (0x5678 ∷ []) ∷ [] ∷ [] ∷ (18 ∷ []) ∷ [] ∷ [] ∷ []

abbrev blocks_say : List Said
blocks_say =
    says 2 (act.Alloc 5000 block.Heap)
    ∷ says 3 (act.Store (2 ^ 28 + 4) 2 0x5678)
    ∷ says 4 (act.Load (2 ^ 28 + 4) 2)
    ∷ says 5 (act.Store (2 ^ 28 + 4996) 4 0x12345678)
    ∷ says 5 (act.Store (2 ^ 28 + 2047) 1 0x78)
    ∷ says 6 (act.Load (2 ^ 28 + 4999) 1)
    ∷ says 7 (act.Print (53 ∷ 54 ∷ 55 ∷ 56 ∷ 49 ∷ 50 ∷ []))
    ∷ says 8 (act.Free (2 ^ 28) block.Heap)
    ∷ says 9 (act.Terminate (pos 18))
    ∷ []

pub blocks_meant : by_operations blocks blocks_answers ≡ blocks_say
unfolding digits
blocks_meant = refl

pub blocks_run : by_code plain blocks blocks_answers ≡ blocks_say
unfolding performed digits
blocks_run = refl

-- ---- channels

abbrev channels : Ir
channels = program (function 1 0 40 32 (
    on 2 (op.NewChan 0 3 2)
    ∷ on 3 (op.Constant 1 5)
    ∷ on 3 (op.Constant 2 6)
    ∷ on 4 (op.CanSend 3 0)
    ∷ on 4 (op.CanRecv 4 0)
    ∷ on 5 (op.Talk (record { chan = 0; words = 2; send = Some 1 } ∷ record { chan = 0; words = 2; send = None } ∷ record { chan = 0; words = 0; send = None } ∷ []) 8 5 6)
    ∷ on 6 (op.PutDecimal true 3)
    ∷ on 6 (op.PutDecimal true 4)
    ∷ on 6 (op.PutDecimal true 5)
    ∷ on 6 (op.PutDecimal true 6)
    ∷ on 6 (op.PutDecimal true 7)
    ∷ on 6 op.Print
    ∷ on 7 (op.Talk (record { chan = 0; words = 2; send = Some 6 } ∷ []) 8 5 6)
    ∷ on 8 (op.FreeChan 0)
    ∷ on 9 (op.Trap trap.Check)
    ∷ []) ∷ [])

abbrev channels_answers : List (List ℕ)
channels_answers = (9 ∷ []) ∷ (1 ∷ []) ∷ (0 ∷ []) ∷ (1 ∷ 41 ∷ 42 ∷ []) ∷ [] ∷ (0 ∷ []) ∷ [] ∷ []

abbrev channels_say : List Said
channels_say =
    says 2 (act.NewChan 3 2)
    ∷ says 4 (act.CanSend 9)
    ∷ says 4 (act.CanRecv 9)
    ∷ says 5 (act.Talk (record { chan = 9; words = 2; send = Some (5 ∷ 6 ∷ []) } ∷ record { chan = 9; words = 2; send = None } ∷ record { chan = 9; words = 0; send = None } ∷ []))
    ∷ says 6 (act.Print (49 ∷ 48 ∷ 49 ∷ 52 ∷ 49 ∷ 52 ∷ 50 ∷ []))
    ∷ says 7 (act.Talk (record { chan = 9; words = 2; send = Some (41 ∷ 42 ∷ []) } ∷ []))
    ∷ says 8 (act.FreeChan 9)
    ∷ says 9 (act.Trap trap.Check)
    ∷ []

pub channels_meant : by_operations channels channels_answers ≡ channels_say
unfolding digits
channels_meant = refl

pub channels_run : by_code plain channels channels_answers ≡ channels_say
unfolding performed digits
channels_run = refl

-- ---- starts

abbrev starts : Ir
starts = program (
    function 1 0 32 16 (
    on 2 (op.Constant 3 7)
    ∷ on 2 (op.Constant 4 8)
    ∷ on 3 (op.Proc 1 3 2)
    ∷ on 4 (op.Task 1 3 2)
    ∷ on 5 (op.Par (1 ∷ 2 ∷ 1 ∷ []) 3 2 5)
    ∷ on 6 (op.Leave 0)
    ∷ [])
    ∷ function 7 2 16 4 (on 7 (op.Leave 0) ∷ [])
    ∷ function 8 2 16 4 (on 8 (op.Leave 0) ∷ [])
    ∷ [])

abbrev starts_say : List Said
starts_say =
    says 3 (act.Proc (record { code = 1; words = 7 ∷ 8 ∷ [] }))
    ∷ says 4 (act.Task (record { code = 1; words = 7 ∷ 8 ∷ [] }))
    ∷ says 5 (act.Par (record { code = 1; words = 7 ∷ 8 ∷ [] } ∷ record { code = 2; words = 7 ∷ 8 ∷ [] } ∷ record { code = 1; words = 7 ∷ 8 ∷ [] } ∷ []))
    ∷ says 0 act.End
    ∷ []

pub starts_meant : by_operations starts ([] ∷ [] ∷ [] ∷ []) ≡ starts_say
starts_meant = refl

pub starts_run : by_code plain starts ([] ∷ [] ∷ [] ∷ []) ≡ starts_say
unfolding performed
starts_run = refl

-- ---- a text of which each byte is loaded

abbrev texts : Ir
texts = program (function 1 0 16 8 (
    on 2 (op.Constant 0 (2 ^ 28 + 16))
    ∷ on 2 (op.PutByte 45)
    ∷ on 2 (op.PutText 0)
    ∷ on 2 (op.Constant 1 0x141)
    ∷ on 2 (op.PutCharacter 1)
    ∷ on 2 op.Print
    ∷ on 3 (op.Leave 0)
    ∷ []) ∷ [])

abbrev texts_say : List Said
texts_say =
    says 2 (act.Load (2 ^ 28 + 16) 1)
    ∷ says 2 (act.Load (2 ^ 28 + 17) 1)
    ∷ says 2 (act.Load (2 ^ 28 + 18) 1)
    ∷ says 2 (act.Print (45 ∷ 97 ∷ 98 ∷ 65 ∷ []))
    ∷ says 0 act.End
    ∷ []

pub texts_meant : by_operations texts ((97 ∷ []) ∷ (98 ∷ []) ∷ (0 ∷ []) ∷ [] ∷ []) ≡ texts_say
texts_meant = refl

pub texts_run : by_code plain texts ((97 ∷ []) ∷ (98 ∷ []) ∷ (0 ∷ []) ∷ [] ∷ []) ≡ texts_say
unfolding performed
texts_run = refl

-- ---- a value of several units, loaded, stored and cleared

abbrev values : Ir
values = record {
  functions = function 1 0 40 24 (
      on 2 (op.Constant 0 (2 ^ 28))
      ∷ on 3 (op.LoadUnits 1 0 16 0)
      ∷ on 4 (op.StoreUnits 0 4096 0 1)
      ∷ on 5 (op.ClearUnits 0 0 0)
      ∷ on 6 (op.Leave 0)
      ∷ []) ∷ [];
  classes = [];
  layouts = (record { at = 0; size = 4; count = 2 } ∷ record { at = 8; size = 1; count = 6 } ∷ record { at = 14; size = 2; count = 1 } ∷ []) ∷ [];
  globals = [];
  privates = 0;
  main = 0;
}

abbrev values_answers : List (List ℕ)
values_answers =
    (0x01020304 ∷ []) ∷ (2 ∷ []) ∷ (3 ∷ []) ∷ (4 ∷ []) ∷ (5 ∷ []) ∷ (6 ∷ []) ∷ (7 ∷ []) ∷ (8 ∷ []) ∷ (9 ∷ []) ∷ replicate 18 []

pub values_run : by_code plain values values_answers ≡ by_operations values values_answers
unfolding performed
values_run = refl

-- ---- words beyond the reach of an immediate, and words zeroed in a loop

abbrev far : Ir
far = record {
  functions =
      function 1 0 720 700 (
      on 2 (op.Constant 600 7)
      ∷ on 2 (op.Constant 601 8)
      ∷ on 2 (op.Word arith.Sub true 602 600 601)
      ∷ on 3 (op.Invoke 1 600)
      ∷ on 3 (op.Result 603 0)
      ∷ on 3 (op.PutDecimal true 603)
      ∷ on 4 (op.PutPrivate 599 602)
      ∷ on 4 (op.PutPrivate 3 603)
      ∷ on 4 (op.GetPrivate 604 599)
      ∷ on 4 (op.GetPrivate 605 3)
      ∷ on 4 (op.PutDecimal true 604)
      ∷ on 4 (op.PutDecimal true 605)
      ∷ on 5 (op.Constant 499 1)
      ∷ on 5 (op.Constant 521 2)
      ∷ on 5 (op.Zero 500 21)
      ∷ on 5 (op.PutDecimal true 499)
      ∷ on 5 (op.PutDecimal true 500)
      ∷ on 5 (op.PutDecimal true 520)
      ∷ on 5 (op.PutDecimal true 521)
      ∷ on 5 (op.Zero 520 2)
      ∷ on 5 (op.PutDecimal true 521)
      ∷ on 5 op.Print
      ∷ on 6 (op.Constant 606 (2 ^ 28))
      ∷ on 6 (op.PutText 606)
      ∷ on 6 (op.Leave 0)
      ∷ [])
      ∷ function 7 2 10 2 (on 8 (op.Word arith.Add true 0 0 1) ∷ on 8 (op.Leave 1) ∷ [])
      ∷ [];
  classes = [];
  layouts = [];
  globals = [];
  privates = 600;
  main = 0;
}

abbrev far_answers : List (List ℕ)
far_answers = [] ∷ (65 ∷ []) ∷ (0 ∷ []) ∷ []

abbrev far_says : List Said
far_says =
    says 5 (act.Print (49 ∷ 53 ∷ 45 ∷ 49 ∷ 49 ∷ 53 ∷ 49 ∷ 48 ∷ 48 ∷ 50 ∷ 48 ∷ []))
    ∷ says 6 (act.Load (2 ^ 28) 1)
    ∷ says 6 (act.Load (2 ^ 28 + 1) 1)
    ∷ says 0 act.End
    ∷ []

pub far_meant : by_operations far far_answers ≡ far_says
unfolding digits
far_meant = refl

pub far_runs : by_code plain far far_answers ≡ far_says
unfolding performed digits
far_runs = refl
