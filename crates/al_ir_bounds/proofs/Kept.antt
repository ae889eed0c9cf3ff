-- An operation that passes its test keeps its bound.
use Rattle.std.proofs.Common.{◌≡◌, ◌≢◌, ℕ, zero, suc, ◌+◌, ◌*◌, ◌^◌, ◌<◌, inl, inr, Bool, true, false, not, ◌&&◌, if◌then◌else◌, nat_eq, nat_lt, nat_le, List, [], ◌∷◌, length, Option, Some, None, slice_get, refl, sym, ap, ◌∙◌, subst, arith}
use Rattle.std.specs.List.{list_all}
use Rattle.std.proofs.lemmas.List.{length-append}
use Rattle.std.proofs.lemmas.List.Sums.{sum_by-cons}
use Rattle.al_base.specs.Arith.{divides}
use Rattle.al_base.specs.declared.arith.Op.{Op as Arith}
use Rattle.al_base.specs.declared.arith.Op.TheVariants as arith_op
use Rattle.al_event.specs.declared.act.Block.{Block}
use Rattle.al_event.specs.declared.act.Block.TheVariants as block
use Rattle.al_ir.specs.declared.ir.Function.{Function}
use Rattle.al_ir.specs.declared.ir.Run.{Run}
use Rattle.al_ir.specs.declared.ir.Ir.{Ir}
use Rattle.al_ir.specs.declared.op.TalkBranch.{TalkBranch}
use Rattle.al_ir.specs.declared.op.Op.{Op}
use Rattle.al_ir.specs.declared.op.Op.TheVariants.{Constant, Copy, Zero, Result, Word, WordBy, Long, Complement, IsZero, IsLongSet, Convert, Extract, Offset, Advance, Between, GetPrivate, PutPrivate, Skip, SkipIfZero, SkipIfSet, SkipUnless, GoTo, Back, Turn, Invoke, InvokePointer, Become, Leave, Load, Store, LoadUnits, StoreUnits, ClearUnits, Alloc, Free, NewChan, FreeChan, CanRecv, CanSend, Talk, Proc, Task, Par, PutByte, PutCharacter, PutDecimal, PutLongDecimal, PutHex, PutLongHex, PutText, Print, Terminate, Trap}
use Rattle.al_ir.specs.Bounds.{Has, IsShort, IsApart, AreApart, Compares, Fits, TakesFrom, ClassTakesFrom, Starts, BranchFits, IsMade, Skips, most_words}
use Rattle.al_ir.specs.Control.{arguments_of, function_at}
use Rattle.al_ir.specs.Step.{kind_words, long_words}
use Rattle.al_ir.specs.Units.{units_from, units_in, units_or_none, units_at}
use Rattle.al_ir_bounds.specs.Checks.{has, is_short, is_word, is_apart, are_apart, compares, takes_from, class_takes_from, starts, sent_fits, branch_fits, is_made, skips, count_of, few_of, few_if_there, units_count, loads_fit, stores_fit, fits}
use Rattle.al_ir_bounds.proofs.Trues.{is_le, is_lt, is_eq, both, one_of, all_are, get_below}

has_kept : (f : Function) (t n : ℕ) → has f t n ≡ true → Has f t n
has_kept f t n h = is_le (t + n) f.slots h

short_kept : (n : ℕ) → is_short n ≡ true → IsShort n
short_kept n h =
    one_of (nat_lt n 2048) (nat_le 4294965248 n && is_word n) (is_lt n 2048)
    (both (nat_le 4294965248 n) (is_word n) (is_le 4294965248 n) (is_lt n (2 ^ 32))) h

apart_kept : (t words from n : ℕ) → are_apart t words from n ≡ true → AreApart t words from n
apart_kept t words from n h = one_of (nat_le (t + words) from) (nat_le (from + n) t) (is_le (t + words) from) (is_le (from + n) t) h

one_apart : (t from n : ℕ) → is_apart t from n ≡ true → IsApart t from n
one_apart t from n h = on (apart_kept t 1 from n h)
  where
    on : AreApart t 1 from n → IsApart t from n
    on (inl below) = inl (omega (arith, below))
    on (inr above) = inr above

compares_kept : (op : Arith) → compares op ≡ true → Compares op
compares_kept arith_op.Add h = absurd (cc)
compares_kept arith_op.Sub h = absurd (cc)
compares_kept arith_op.Mul h = absurd (cc)
compares_kept arith_op.Div h = absurd (cc)
compares_kept arith_op.Rem h = absurd (cc)
compares_kept arith_op.And h = absurd (cc)
compares_kept arith_op.Or h = absurd (cc)
compares_kept arith_op.Xor h = absurd (cc)
compares_kept arith_op.Shl h = absurd (cc)
compares_kept arith_op.Shr h = absurd (cc)
compares_kept arith_op.Lt h = tt
compares_kept arith_op.Le h = tt
compares_kept arith_op.Eq h = tt
compares_kept arith_op.Ne h = tt

divisor_kept : (b : Bool) (n : ℕ) → not (b && nat_eq n 0) ≡ true → b ≡ true → n ≢ 0
divisor_kept true zero h is = absurd (cc)
divisor_kept true (suc n) h is = λ e. cc
divisor_kept false n h is = absurd (cc)

takes_kept : (ir : Ir) (f : Function) (function arguments : ℕ) → takes_from ir f function arguments ≡ true → TakesFrom ir f function arguments
takes_kept ir f function arguments h =
    both (nat_lt function (length ir.functions)) (has f arguments (arguments_of (function_at ir function)))
    (is_lt function (length ir.functions)) (has_kept f arguments _) h

class_kept : (ir : Ir) (f : Function) (class arguments : ℕ) → class_takes_from ir f class arguments ≡ true → ClassTakesFrom ir f class arguments
class_kept ir f class arguments h = on (slice_get ir.classes class) refl h
  where
    on : (o : Option (List ℕ)) → slice_get ir.classes class ≡ o
        → (elim o [ Some fs ↦ list_all (λ g. takes_from ir f g arguments) fs | None ↦ false ]) ≡ true → ClassTakesFrom ir f class arguments
    on (Some fs) is k = (fs, (is, all_are (λ g. TakesFrom ir f g arguments) (λ g. takes_from ir f g arguments) (λ g. takes_kept ir f g arguments) fs k))
    on None is k = absurd (cc)

starts_kept : (ir : Ir) (function words : ℕ) → starts ir function words ≡ true → Starts ir function words
starts_kept ir function words h =
    both (nat_lt function (length ir.functions)) (nat_eq (arguments_of (function_at ir function)) words)
    (is_lt function (length ir.functions)) (is_eq (arguments_of (function_at ir function)) words) h

abbrev SentFits : Function → (records count to got words : ℕ) → Option ℕ → Type 0
SentFits f records count to got words o = elim o [ None ↦ Has f got words × IsApart to got words | Some t ↦ Has f t words × AreApart t words records count ]

sent_kept : (f : Function) (records count to got words : ℕ) (o : Option ℕ) → sent_fits f records count to got words o ≡ true → SentFits f records count to got words o
sent_kept f records count to got words None h = both (has f got words) (is_apart to got words) (has_kept f got words) (one_apart to got words) h
sent_kept f records count to got words (Some t) h =
    both (has f t words) (are_apart t words records count) (has_kept f t words) (apart_kept t words records count) h

branch_kept : (f : Function) (records count to got : ℕ) (b : TalkBranch) → branch_fits f records count to got b ≡ true → BranchFits f records count to got b
branch_kept f records count to got b h =
    both (has f b.chan 1) _ (has_kept f b.chan 1)
    (both (is_apart b.chan records count) _ (one_apart b.chan records count)
    (both (nat_le b.words most_words) _ (is_le b.words most_words) (sent_kept f records count to got b.words b.send))) h

made_kept : (kind : Block) → is_made kind ≡ true → IsMade kind
made_kept block.Heap h = tt
made_kept block.Frame h = tt
made_kept block.Global h = absurd (cc)

skips_kept : (f : Function) (pc count : ℕ) → skips f pc count ≡ true → Skips f pc count
skips_kept f pc count h = is_lt (pc + 1 + count) (length f.code) h

-- ---- layouts

length_from : (at size count : ℕ) → length (units_from at size count) ≡ count
length_from at size zero = refl
length_from at size (suc n) = ap suc (length_from (at + size) size n)

pub length_in : (runs : List Run) → length (units_in runs) ≡ count_of runs
length_in [] = refl
length_in (r ∷ runs) =
    length-append (units_from r.at r.size r.count) (units_in runs)
    ∙ (ap (λ n. n + length (units_in runs)) (length_from r.at r.size r.count)
    ∙ (ap (λ n. r.count + n) (length_in runs) ∙ sym (sum_by-cons (λ (r : Run). r.count) r runs)))

few_is : (runs : List Run) (n : ℕ) → few_of runs ≡ Some n → count_of runs ≡ n
few_is runs n h = on (nat_le (count_of runs) most_words) h
  where
    on : (b : Bool) → (if b then Some (count_of runs) else None) ≡ Some n → count_of runs ≡ n
    on true k = cc
    on false k = absurd (cc)

-- a layout that is there has as many units as were counted
record Counted (ir : Ir) (layout n : ℕ) : Type 0 where
  there : layout < length ir.layouts
  units : length (units_at ir layout) ≡ n

counted : (ir : Ir) (layout n : ℕ) → units_count ir layout ≡ Some n → Counted ir layout n
counted ir layout n h = on (slice_get ir.layouts layout) refl h
  where
    on : (o : Option (List Run)) → slice_get ir.layouts layout ≡ o → few_if_there o ≡ Some n → Counted ir layout n
    on (Some runs) is k = record {
      there = get_below ir.layouts layout runs is;
      units = ap (λ o. length (units_or_none o)) is ∙ (length_in runs ∙ few_is runs n k);
    }
    on None is k = absurd (cc)

loads_kept : (ir : Ir) (f : Function) (pc to at offset layout : ℕ) (o : Option ℕ) → units_count ir layout ≡ o → loads_fit f to at offset o ≡ true
    → Fits ir f pc (LoadUnits to at offset layout)
loads_kept ir f pc to at offset layout (Some n) is h =
    let c = counted ir layout n is in
    let k = both (has f to n) _ (has_kept f to n) (both (has f at 1) _ (has_kept f at 1) (both (is_apart at to n) (is_word offset) (one_apart at to n) (is_lt offset (2 ^ 32)))) h in
    (subst (Has f to) (sym c.units) k.0, (k.1.0, (subst (IsApart at to) (sym c.units) k.1.1.0, (k.1.1.1, c.there))))
loads_kept ir f pc to at offset layout None is h = absurd (cc)

stores_kept : (ir : Ir) (f : Function) (pc at offset layout from : ℕ) (o : Option ℕ) → units_count ir layout ≡ o → stores_fit f at offset from o ≡ true
    → Fits ir f pc (StoreUnits at offset layout from)
stores_kept ir f pc at offset layout from (Some n) is h =
    let c = counted ir layout n is in
    let k = both (has f at 1) _ (has_kept f at 1) (both (has f from n) (is_word offset) (has_kept f from n) (is_lt offset (2 ^ 32))) h in
    (k.0, (subst (Has f from) (sym c.units) k.1.0, (k.1.1, c.there)))
stores_kept ir f pc at offset layout from None is h = absurd (cc)

-- ---- operations

two : (f : Function) (a b : ℕ) → (has f a 1 && has f b 1) ≡ true → Has f a 1 × Has f b 1
two f a b h = both (has f a 1) (has f b 1) (has_kept f a 1) (has_kept f b 1) h

three : (f : Function) (a b c : ℕ) → (has f a 1 && (has f b 1 && has f c 1)) ≡ true → Has f a 1 × (Has f b 1 × Has f c 1)
three f a b c h = both (has f a 1) _ (has_kept f a 1) (two f b c) h

pub fits_kept : (ir : Ir) (f : Function) (pc : ℕ) (op : Op) → fits ir f pc op ≡ true → Fits ir f pc op
fits_kept ir f pc (Constant to word) h = both (has f to 1) (is_word word) (has_kept f to 1) (is_lt word (2 ^ 32)) h
fits_kept ir f pc (Copy to from) h = two f to from h
fits_kept ir f pc (Zero to count) h = has_kept f to count h
fits_kept ir f pc (Result to word) h = both (has f to 1) _ (has_kept f to 1) (is_lt word most_words) h
fits_kept ir f pc (Word op signed to left right) h = three f to left right h
fits_kept ir f pc (WordBy op signed to left word) h =
    both (has f to 1) _ (has_kept f to 1) (both (has f left 1) _ (has_kept f left 1) (both (is_short word) _ (short_kept word) (divisor_kept (divides op) word))) h
fits_kept ir f pc (Long op signed to left right) h =
    both (has f to (length (long_words op 0))) _ (has_kept f to (length (long_words op 0))) (both (has f left 2) (has f right 2) (has_kept f left 2) (has_kept f right 2)) h
fits_kept ir f pc (Complement to from) h = two f to from h
fits_kept ir f pc (IsZero to from) h = two f to from h
fits_kept ir f pc (IsLongSet to from) h = both (has f to 1) (has f from 2) (has_kept f to 1) (has_kept f from 2) h
fits_kept ir f pc (Convert from into to of) h =
    both (has f to (kind_words into)) (has f of (kind_words from)) (has_kept f to (kind_words into)) (has_kept f of (kind_words from)) h
fits_kept ir f pc (Extract to from skip size) h =
    both (has f to 1) _ (has_kept f to 1) (both (has f from 1) _ (has_kept f from 1) (both (nat_lt skip 4) _ (is_lt skip 4) (λ k. k))) h
fits_kept ir f pc (Offset to from bytes) h = both (has f to 1) _ (has_kept f to 1) (both (has f from 1) _ (has_kept f from 1) (is_lt bytes (2 ^ 32))) h
fits_kept ir f pc (Advance back size to pointer count) h =
    both (has f to 1) _ (has_kept f to 1) (both (has f pointer 1) _ (has_kept f pointer 1) (both (has f count 1) _ (has_kept f count 1) (is_lt size (2 ^ 32)))) h
fits_kept ir f pc (Between size to left right) h =
    both (has f to 1) _ (has_kept f to 1) (both (has f left 1) _ (has_kept f left 1) (both (has f right 1) _ (has_kept f right 1)
    (both (nat_le 1 size) (nat_le size (2 ^ 28)) (is_le 1 size) (is_le size (2 ^ 28))))) h
fits_kept ir f pc (GetPrivate to place) h = both (has f to 1) _ (has_kept f to 1) (is_lt place ir.privates) h
fits_kept ir f pc (PutPrivate place from) h = both (has f from 1) _ (has_kept f from 1) (is_lt place ir.privates) h
fits_kept ir f pc (Skip count) h = skips_kept f pc count h
fits_kept ir f pc (SkipIfZero slot count) h = both (has f slot 1) _ (has_kept f slot 1) (skips_kept f pc count) h
fits_kept ir f pc (SkipIfSet slot count) h = both (has f slot 1) _ (has_kept f slot 1) (skips_kept f pc count) h
fits_kept ir f pc (SkipUnless op signed left right count) h =
    both (compares op) _ (compares_kept op) (both (has f left 1) _ (has_kept f left 1) (both (has f right 1) _ (has_kept f right 1) (skips_kept f pc count))) h
fits_kept ir f pc (GoTo to) h = both (nat_lt pc to) _ (is_lt pc to) (is_lt to (length f.code)) h
fits_kept ir f pc (Back count) h = tt
fits_kept ir f pc (Turn to) h = is_lt to (length f.code) h
fits_kept ir f pc (Invoke function arguments) h = takes_kept ir f function arguments h
fits_kept ir f pc (InvokePointer class pointer arguments) h = both (has f pointer 1) _ (has_kept f pointer 1) (class_kept ir f class arguments) h
fits_kept ir f pc (Become function arguments) h = takes_kept ir f function arguments h
fits_kept ir f pc (Leave words) h = both (has f 0 words) _ (has_kept f 0 words) (is_le words most_words) h
fits_kept ir f pc (Load to at offset size) h =
    both (has f to 1) _ (has_kept f to 1) (both (has f at 1) _ (has_kept f at 1) (both (is_word offset) _ (is_lt offset (2 ^ 32)) (λ k. k))) h
fits_kept ir f pc (Store at offset size from) h =
    both (has f at 1) _ (has_kept f at 1) (both (has f from 1) _ (has_kept f from 1) (both (is_word offset) _ (is_lt offset (2 ^ 32)) (λ k. k))) h
fits_kept ir f pc (LoadUnits to at offset layout) h = loads_kept ir f pc to at offset layout (units_count ir layout) refl h
fits_kept ir f pc (StoreUnits at offset layout from) h = stores_kept ir f pc at offset layout from (units_count ir layout) refl h
fits_kept ir f pc (ClearUnits at offset layout) h =
    both (has f at 1) _ (has_kept f at 1) (both (is_word offset) _ (is_lt offset (2 ^ 32)) (is_lt layout (length ir.layouts))) h
fits_kept ir f pc (Alloc to bytes kind) h =
    both (has f to 1) _ (has_kept f to 1) (both (is_made kind) _ (made_kept kind) (both (nat_le 1 bytes) (nat_le bytes (2 ^ 28)) (is_le 1 bytes) (is_le bytes (2 ^ 28)))) h
fits_kept ir f pc (Free at kind) h = both (has f at 1) _ (has_kept f at 1) (made_kept kind) h
fits_kept ir f pc (NewChan to capacity words) h =
    both (has f to 1) _ (has_kept f to 1) (both (nat_le capacity 4096) (nat_le words most_words) (is_le capacity 4096) (is_le words most_words)) h
fits_kept ir f pc (FreeChan chan) h = has_kept f chan 1 h
fits_kept ir f pc (CanRecv to chan) h = two f to chan h
fits_kept ir f pc (CanSend to chan) h = two f to chan h
fits_kept ir f pc (Talk branches records to got) h =
    both (nat_le 1 (length branches)) _ (is_le 1 (length branches)) (both (nat_le (length branches) 64) _ (is_le (length branches) 64)
    (both (has f records (4 * length branches)) _ (has_kept f records (4 * length branches)) (both (has f to 1) _ (has_kept f to 1)
    (all_are (BranchFits f records (4 * length branches) to got) (branch_fits f records (4 * length branches) to got)
    (branch_kept f records (4 * length branches) to got) branches)))) h
fits_kept ir f pc (Proc function arguments words) h = both (starts ir function words) _ (starts_kept ir function words) (has_kept f arguments words) h
fits_kept ir f pc (Task function arguments words) h = both (starts ir function words) _ (starts_kept ir function words) (has_kept f arguments words) h
fits_kept ir f pc (Par functions arguments words records) h =
    both (nat_le 1 (length functions)) _ (is_le 1 (length functions)) (both (nat_le (length functions) 64) _ (is_le (length functions) 64)
    (both (has f records (3 * length functions)) _ (has_kept f records (3 * length functions)) (both (has f arguments words) _ (has_kept f arguments words)
    (both (are_apart arguments words records (3 * length functions)) _ (apart_kept arguments words records (3 * length functions))
    (all_are (λ g. Starts ir g words) (λ g. starts ir g words) (λ g. starts_kept ir g words) functions))))) h
fits_kept ir f pc (PutByte byte) h = is_lt byte 256 h
fits_kept ir f pc (PutCharacter from) h = has_kept f from 1 h
fits_kept ir f pc (PutDecimal signed from) h = has_kept f from 1 h
fits_kept ir f pc (PutLongDecimal signed from) h = has_kept f from 2 h
fits_kept ir f pc (PutHex from) h = has_kept f from 1 h
fits_kept ir f pc (PutLongHex from) h = has_kept f from 2 h
fits_kept ir f pc (PutText at) h = has_kept f at 1 h
fits_kept ir f pc Print h = tt
fits_kept ir f pc (Terminate status) h = has_kept f status 1 h
fits_kept ir f pc (Trap t) h = tt
