-- A program that passes all tests keeps all bounds.
use Rattle.std.proofs.Common.{◌≡◌, ℕ, suc, ◌+◌, ◌-◌, ◌*◌, ◌%◌, ◌^◌, ◌≤◌, ◌⊎◌, true, nat_eq, nat_lt, nat_le, List, [], ◌∷◌, length, Option, Some, None, slice_get, refl, sym, subst, arith}
use Rattle.std.specs.List.{list_all}
use Rattle.al_ir.specs.declared.ir.Function.{Function}
use Rattle.al_ir.specs.declared.ir.Operation.{Operation}
use Rattle.al_ir.specs.declared.ir.Run.{Run}
use Rattle.al_ir.specs.declared.ir.Global.{Global}
use Rattle.al_ir.specs.declared.ir.StartItem.{StartItem}
use Rattle.al_ir.specs.declared.ir.Ir.{Ir}
use Rattle.al_ir.specs.Bounds.{OperationsFit, IsLine, IsFunction, IsLayout, IsSize, ItemsFit, IsGlobal, IsBounded, stops, most_words, most_jumps, set_aside}
use Rattle.al_ir.specs.Control.{arguments_of, function_at}
use Rattle.al_ir_bounds.specs.Checks as checks
use Rattle.al_ir_bounds.proofs.Trues.{and_true, is_le, is_lt, is_eq, both, one_of, all_are, get_below}
use Rattle.al_ir_bounds.proofs.Kept.{fits_kept, length_in}

line_kept : (n : ℕ) → checks.is_line n ≡ true → IsLine n
line_kept n h = both (nat_le 1 n) (nat_le n 1048577) (is_le 1 n) (is_le n 1048577) h

operations_kept : (ir : Ir) (f : Function) (pc : ℕ) (os : List Operation) → checks.operations_fit ir f pc os ≡ true → OperationsFit ir f pc os
operations_kept ir f pc [] h = tt
operations_kept ir f pc (o ∷ os) h = both (checks.fits ir f pc o.op) _ (fits_kept ir f pc o.op) (operations_kept ir f (pc + 1) os) h

record Ends (code : List Operation) : Type 0 where
  before_last : ℕ
  ends : length code ≡ suc before_last
  last : Operation
  is_last : slice_get code before_last ≡ Some last
  goes_nowhere : stops last.op ≡ true

ends_kept : (code : List Operation) → checks.ends_well code ≡ true → Ends code
ends_kept code h = on (slice_get code (length code - 1)) refl h
  where
    on : (o : Option Operation) → slice_get code (length code - 1) ≡ o → checks.stops_at o ≡ true → Ends code
    on (Some o) is k = record {
      before_last = length code - 1;
      ends = let below = get_below code (length code - 1) o is in omega (arith, below);
      last = o;
      is_last = is;
      goes_nowhere = k;
    }
    on None is k = absurd (cc)

function_kept : (ir : Ir) (f : Function) → checks.is_function ir f ≡ true → IsFunction ir f
function_kept ir f h =
    let a = and_true (checks.is_line f.line) _ h in
    let b = and_true (list_all (λ (o : Operation). checks.is_line o.line) f.code) _ a.1 in
    let c = and_true (checks.has_room f) _ b.1 in
    let d = and_true (checks.operations_fit ir f 0 f.code) _ c.1 in
    let e = and_true (checks.ends_well f.code) (nat_le (checks.jumps_in f.code) most_jumps) d.1 in
    let room = both (nat_le f.stack 16384) _ (is_le f.stack 16384) (both (nat_le (f.slots + set_aside) f.stack) (nat_le f.arguments f.slots) (is_le (f.slots + set_aside) f.stack) (is_le f.arguments f.slots)) c.0 in
    let end = ends_kept f.code e.0 in
    record {
      line = line_kept f.line a.0;
      lines = all_are (λ (o : Operation). IsLine o.line) (λ (o : Operation). checks.is_line o.line) (λ (o : Operation). line_kept o.line) f.code b.0;
      stack = room.0;
      slots = room.1.0;
      arguments = room.1.1;
      operations = operations_kept ir f 0 f.code d.0;
      before_last = end.before_last;
      ends = end.ends;
      last = end.last;
      is_last = end.is_last;
      goes_nowhere = end.goes_nowhere;
      jumps = is_le (checks.jumps_in f.code) most_jumps e.1;
    }

size_kept : (r : Run) → checks.run_fits r ≡ true → IsSize r.size
size_kept r h = (and_true (checks.is_size r.size) (nat_le (r.at + r.count * r.size) most_words) h).0

within_kept : (r : Run) → checks.run_fits r ≡ true → r.at + r.count * r.size ≤ most_words
within_kept r h = is_le (r.at + r.count * r.size) most_words (and_true (checks.is_size r.size) (nat_le (r.at + r.count * r.size) most_words) h).1

layout_kept : (runs : List Run) → checks.is_layout runs ≡ true → IsLayout runs
layout_kept runs h =
    let a = and_true (list_all checks.run_fits runs) (nat_le (checks.count_of runs) most_words) h in
    record {
      sizes = all_are (λ (r : Run). IsSize r.size) checks.run_fits size_kept runs a.0;
      within = all_are (λ (r : Run). r.at + r.count * r.size ≤ most_words) checks.run_fits within_kept runs a.0;
      count = subst (λ n. n ≤ most_words) (sym (length_in runs)) (is_le (checks.count_of runs) most_words a.1);
    }

items_kept : (behind bytes : ℕ) (is : List StartItem) → checks.items_fit behind bytes is ≡ true → ItemsFit behind bytes is
items_kept behind bytes [] h = tt
items_kept behind bytes (i ∷ is) h =
    let a = and_true (checks.item_fits behind bytes i) _ h in
    let b = both (nat_le behind i.at) _ (is_le behind i.at) (both (checks.is_size i.size) _ (λ k. k) (both (nat_eq (i.at % i.size) 0) _ (is_eq (i.at % i.size) 0)
    (both (nat_le (i.at + i.size) bytes) (nat_lt i.word (256 ^ i.size)) (is_le (i.at + i.size) bytes) (is_lt i.word (256 ^ i.size))))) a.0 in
    (b.0, (b.1.0, (b.1.1.0, (b.1.1.1.0, (b.1.1.1.1, items_kept (i.at + i.size) bytes is a.1)))))

global_kept : (g : Global) → checks.is_global g ≡ true → IsGlobal g
global_kept g h =
    let a = and_true (nat_le 1 g.bytes) _ h in
    let b = and_true (nat_le g.bytes (2 ^ 28)) (checks.items_fit 0 g.bytes g.start) a.1 in
    record { some = is_le 1 g.bytes a.0; most = is_le g.bytes (2 ^ 28) b.0; start = items_kept 0 g.bytes g.start b.1 }

main_kept : (n : ℕ) → checks.main_words_fit n ≡ true → (n ≡ 0) ⊎ (n ≡ 2)
main_kept n h = one_of (nat_eq n 0) (nat_eq n 2) (is_eq n 0) (is_eq n 2) h

pub bounded : (ir : Ir) → checks.is_bounded ir ≡ true → IsBounded ir
bounded ir h =
    let a = and_true (list_all (checks.is_function ir) ir.functions) _ h in
    let b = and_true (nat_le (length ir.functions) 65536) _ a.1 in
    let c = and_true (list_all (λ (fs : List ℕ). nat_le (length fs) 65536) ir.classes) _ b.1 in
    let d = and_true (list_all checks.is_layout ir.layouts) _ c.1 in
    let e = and_true (list_all checks.is_global ir.globals) _ d.1 in
    let s = and_true (nat_le (checks.start_count ir.globals) (2 ^ 21)) _ e.1 in
    let p = and_true (nat_le ir.privates 16384) (checks.main_fits ir) s.1 in
    let m = and_true (nat_lt ir.main (length ir.functions)) (checks.main_words_fit (arguments_of (function_at ir ir.main))) p.1 in
    record {
      functions = all_are (IsFunction ir) (checks.is_function ir) (function_kept ir) ir.functions a.0;
      count = is_le (length ir.functions) 65536 b.0;
      classes = all_are (λ (fs : List ℕ). length fs ≤ 65536) (λ (fs : List ℕ). nat_le (length fs) 65536) (λ (fs : List ℕ). is_le (length fs) 65536) ir.classes c.0;
      layouts = all_are IsLayout checks.is_layout layout_kept ir.layouts d.0;
      globals = all_are IsGlobal checks.is_global global_kept ir.globals e.0;
      starts = is_le (checks.start_count ir.globals) (2 ^ 21) s.0;
      privates = is_le ir.privates 16384 p.0;
      main = is_lt ir.main (length ir.functions) m.0;
      main_words = main_kept (arguments_of (function_at ir ir.main)) m.1;
    }
