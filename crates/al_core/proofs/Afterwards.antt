-- A world after an entry.
use Rattle.std.proofs.Common.{◌≡◌, ◌≢◌, ℕ, zero, suc, ◌+◌, ◌*◌, ◌^◌, ◌<◌, ◌≤◌, List, [], ◌∷◌, ◌++◌, drop, length, Option, Some, None, refl, sym, ap, ap₂, ◌∙◌, if◌then◌else◌, ◌==◌, ◌||◌, arith, length-append}
use Rattle.std.specs.Prelude.{nat_lt}
use Rattle.std.specs.List.{list_any}
use Rattle.al_base.specs.declared.over.Over.{Over}
use Rattle.al_base.specs.declared.over.Over.TheVariants.{Done, Blocked}
use Rattle.al_event.specs.declared.entry.Entry.{Entry}
use Rattle.al_event.specs.declared.entry.Loan.{Loan}
use Rattle.al_world.specs.Procs.{ProcState, has_ready}
use Rattle.al_world.specs.Control.{Asked, Kind}
use Rattle.al_world.specs.World.{TaskName, Shared, World}
use Rattle.al_world.specs.Step.{end_by_lists, over_or, line_of}
use Rattle.al_world.specs.Renamed.{renamed_procs}
use Rattle.rv_exec.specs.declared.run.Asked.{Asked as AskedFields}
use Rattle.rv_exec.specs.Hart.{Hart}
use Rattle.rv_exec.specs.Calls.{Privates}
use Rattle.rv_exec.specs.Machine.{machine, line_of as line_at}
use Rattle.rv_exec.specs.Shown.{hart_of as machine_of}
use Rattle.al_core.specs.Opening.{main_of}
use Rattle.al_core.specs.History.{History, with_entry, settled, loan_of}
use Rattle.al_core.specs.Lends.{IsAsked}
use Rattle.al_core.specs.Asks.{IsStart}
use Rattle.al_core.specs.Acting.{Machinery, IsDone, end_of}
use Rattle.al_core.specs.Stands.{Parts, Stands, AreParts, AreLoans, task_at}
use Rattle.al_core.proofs.Naming.{procs_named}
use Rattle.al_core.proofs.Beginning.{length-map}
use Rattle.al_core.proofs.Loans.{length_loans, still_none}
use Rattle.al_core.proofs.Loaning.{settled_lent, settled_one, settled_other, settled_away}
use Rattle.al_core.proofs.Waiting.{slot, machinery, posed}
use Rattle.al_core.proofs.Entry.{entry, world_after, runs_after, tasks_stand, asks as asks_too}

-- ---- how it is over

any_map : (f : ℕ → TaskName) (procs : List (ProcState ℕ)) → list_any has_ready (renamed_procs f procs) ≡ list_any has_ready procs
any_map f [] = refl
any_map f (q ∷ qs) = ap₂ (λ n b. nat_lt 0 n || b) (length-map f q.ready) (any_map f qs)

drop_front : {X : Type 0} (n : ℕ) (xs ys : List X) → n ≤ length xs → drop n (xs ++ ys) ≡ drop n xs ++ ys
drop_front zero xs ys le = refl
drop_front (suc n) [] ys le = absurd (omega (arith, le))
drop_front (suc n) (x ∷ xs) ys le = drop_front n xs ys (omega (arith, le))

module _ (h : History) (x : Parts) (s : Stands h x) (worker : ℕ) (asked : AskedFields) (a : IsAsked h worker asked) (live : s.world.shared.over ≡ None) (start : IsStart h.image (main_of h.image)) (maker pick : ℕ) (small : asked.work < 2 ^ 64) (over : Option Over) (left : Machinery) (D : IsDone h.image (slot h x s worker asked a live start) asked.act (machinery h x s worker asked a live start) (posed h x s worker asked a live start) pick over left) where
  abbrev K : Kind
  K = machine h.image

  abbrev w : World K
  w = s.world

  abbrev p : ℕ
  p = asked.held.proc

  abbrev v : World K
  v = world_after h x s worker asked a live start maker pick over left D

  abbrev e : Entry
  e = entry h x s worker asked a live start maker pick over left D

  -- the history and the parts after the entry
  abbrev pub done_history : History
  done_history = settled worker (with_entry e h)

  abbrev pub done_parts : Parts
  done_parts = record {
    store = left.store;
    book = left.book;
    table = left.table;
    output = left.output;
    over = over_or over (end_of left.table.procs);
    line = line_of over (line_at h.image (machine_of asked.held.hart).pc);
    work = x.work + asked.work;
  }

  one_longer : length (h.entries ++ e ∷ []) ≡ length h.entries + 1
  one_longer = length-append h.entries (e ∷ [])

  little : x.work + asked.work ≤ length (h.entries ++ e ∷ []) * 2 ^ 64
  little = let k = s.parts.little_work in let n = one_longer in omega (arith, k, n, small)

  posed_shared : (posed h x s worker asked a live start).shared ≡ w.shared
  unfolding posed
  posed_shared = refl

  over_is : over_or over (end_of left.table.procs) ≡ v.shared.over
  over_is = ap₂ over_or D.over_is (ends_so ∙ ap end_by_lists D.named.procs_is)
    where
      ends_so : end_of left.table.procs ≡ end_by_lists (renamed_procs (task_at D.name) left.table.procs)
      ends_so =
          ap₂ (λ b n. if b then None else (if n == 0 then Some Done else Some Blocked)) (sym (any_map (task_at D.name) left.table.procs)) (sym (procs_named D.named).live_same)

  parts_after : AreParts done_history v done_parts
  parts_after = record {
    store = D.store_is;
    output = D.output ∙ ap (λ o. o ++ D.shown) s.parts.output ∙ sym (drop_front h.dropped w.shared.output D.shown s.parts.dropped) ∙ ap (drop h.dropped) (sym output_is);
    dropped = let d = s.parts.dropped in let l = ap length output_is in let k = length-append w.shared.output D.shown in omega (arith, d, l, k);
    over = over_is;
    line = ap₂ line_of D.over_is (sym (ap (λ (b : Asked Hart Privates). b.line) (asks_too h x s worker asked a live start maker pick over left D)));
    work = ap₂ (λ n k. n + k) s.parts.work (sym (ap (λ (b : Asked Hart Privates). b.work) (asks_too h x s worker asked a live start maker pick over left D)));
    little_work = little;
    book_room = D.book_room;
    tasks_room = D.tasks_room;
    procs_room = D.procs_room;
  }
    where
      output_is : D.effect.shared.output ≡ w.shared.output ++ D.shown
      output_is = D.output_is ∙ ap (λ (u : Shared). u.output ++ D.shown) posed_shared

  mine : Loan
  mine = record { proc = p; since = a.since }

  loans_after : AreLoans done_history left.table
  loans_after = record {
    lent = λ q. D.away q ∙ settled_lent h x s worker asked.held a.since a.loan q;
    one = settled_one h x s worker asked.held a.since a.loan;
    since = λ k l f. let c = s.loans.since k l (other k l f).1 in omega (arith, c, one_longer);
    still = λ k l f. still_none l.proc l.since h.entries e (s.loans.since k l (other k l f).1) (other k l f).0 (s.loans.still k l (other k l f).1);
  }
    where
      other : (k : ℕ) (l : Loan) → loan_of (settled worker h) k ≡ Some l → (l.proc ≢ p) × (loan_of h k ≡ Some l)
      other k l f = settled_other h x s worker asked.held a.since a.loan k l f

  pub stands_after : Stands done_history done_parts
  stands_after = record {
    limited = record {
      image = s.limited.image;
      some_region = s.limited.some_region;
      region = s.limited.region;
      limit = s.limited.limit;
      quota = s.limited.quota;
      entries = let c = settled_away h x s worker asked.held a.since a.loan in let n = s.limited.entries in omega (arith, c, n, one_longer);
      workers = length_loans worker None h.loans ∙ s.limited.workers;
    };
    world = v;
    runs = runs_after h x s worker asked a live start maker pick over left D;
    parts = parts_after;
    loans = loans_after;
    tasks = λ still. tasks_stand h x s worker asked a live start maker pick over left D still;
  }
