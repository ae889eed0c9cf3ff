-- A text is read in one way.
use Rattle.std.proofs.Common.{◌≡◌, ℕ, zero, suc, ◌≤◌, List, [], ◌∷◌, ◌++◌, length, All, Option, Result, Ok, Err, refl, sym, ap, ◌∙◌, append_assoc, arith}
use Rattle.std.specs.Prelude.{decimal}
use Rattle.std.specs.List.{flat_map}
use Rattle.std.specs.Global.{Vec}
use Rattle.std.proofs.lemmas.List.{append-nil}
use Rattle.std.proofs.lemmas.List.Elements.{All-head, All-tail}
use Rattle.std.proofs.lemmas.Fmt.{decimal_injective}
use Rattle.al_event.specs.declared.entry.Entry.{Entry}
use Rattle.al_host.specs.Outside.{Content, WhereTold}
use Rattle.al_trace.specs.declared.stop.TraceStop.{TraceStop}
use Rattle.al_trace.specs.declared.stop.TraceStop.TheVariants.{ReadFault, BadLine, TooLong, NoMemory}
use Rattle.al_trace.specs.Schedule.{first_line, entry_line, schedule_text, IsEntry, IsSchedule, Begins, HasNoEntry, IsBadLine, IsTooLong, IsReading, Gives, Answers}
use Rattle.al_trace.proofs.Digits.{cut_once, proc_has_no, pick_has_no}
use Rattle.al_trace.proofs.BadLines.{body, body_line, body_has_no}
use Rattle.al_trace.proofs.Told.{told_as}

-- ---- one entry

equal_entries : (e f : Entry) → e.proc ≡ f.proc → e.pick ≡ f.pick → e.worker ≡ f.worker → e ≡ f
equal_entries e f a b c = made e.proc e.pick e.worker f a b c
  where
    made : (p q w : ℕ) (f : Entry) → p ≡ f.proc → q ≡ f.pick → w ≡ f.worker → (let m : Entry = record { proc = p; pick = q; worker = w } in m) ≡ f
    made p q w f a b c = rw (a, b, c) refl

bodies_once : (e f : Entry) → IsEntry e → IsEntry f → body e ≡ body f → e ≡ f
bodies_once e f is js same =
    let ep = is.proc in let eq = is.pick in let ew = is.worker in let fp = js.proc in let fq = js.pick in let fw = js.worker in
    let first = cut_once 32 (decimal e.proc) (decimal f.proc) (decimal e.pick ++ 32 ∷ decimal e.worker) (decimal f.pick ++ 32 ∷ decimal f.worker) (proc_has_no e is) (proc_has_no f js) same in
    let second = cut_once 32 (decimal e.pick) (decimal f.pick) (decimal e.worker) (decimal f.worker) (pick_has_no e is) (pick_has_no f js) first.1 in
    equal_entries e f
    (decimal_injective e.proc f.proc (omega arith) (omega arith) first.0)
    (decimal_injective e.pick f.pick (omega arith) (omega arith) second.0)
    (decimal_injective e.worker f.worker (omega arith) (omega arith) second.1)

entry_once : (e f : Entry) (x y : List ℕ) → IsEntry e → IsEntry f → entry_line e ++ x ≡ entry_line f ++ y → (e ≡ f) × (x ≡ y)
entry_once e f x y is js same =
    let both = cut_once 10 (body e) (body f) x y (body_has_no e is) (body_has_no f js) (sym (body_line e x) ∙ same ∙ body_line f y) in
    (bodies_once e f is js both.0, both.1)

-- ---- entries

abbrev lines : List Entry → List ℕ
lines h = flat_map entry_line h

-- where no entry follows the one list, the other is no longer, and the same where it is as long
peeled : (h k : List Entry) (x y : List ℕ) → All IsEntry h → All IsEntry k → lines h ++ x ≡ lines k ++ y → HasNoEntry y
    → (length h ≤ length k) × (length h ≡ length k → (h ≡ k) × (x ≡ y))
peeled [] [] x y p q same none = (omega arith, λ e. (refl, same))
peeled [] (f ∷ k) x y p q same none = (omega arith, λ e. absurd (omega arith))
peeled (e ∷ h) [] x y p q same none = absurd (none e (lines h ++ x) (All-head IsEntry e h p) (sym same ∙ append_assoc (entry_line e) (lines h) x))
peeled (e ∷ h) (f ∷ k) x y p q same none =
    let one = entry_once e f (lines h ++ x) (lines k ++ y) (All-head IsEntry e h p) (All-head IsEntry f k q)
    (sym (append_assoc (entry_line e) (lines h) x) ∙ same ∙ append_assoc (entry_line f) (lines k) y) in
    let rest = peeled h k x y (All-tail IsEntry e h p) (All-tail IsEntry f k q) one.1 none in
    let fewer = rest.0 in
    let head : e ≡ f = one.0 in
    (omega arith, λ size. let r = rest.1 (omega arith) in let tail : h ≡ k = r.0 in (cc, r.1))

no_entry_at_end : HasNoEntry []
no_entry_at_end e more is same = absurd (empty_is_not (body e) more (same ∙ body_line e more))
  where
    empty_is_not : (a b : List ℕ) → (let v : List ℕ = [] in v) ≡ a ++ 10 ∷ b → ⊥
    empty_is_not [] b e = absurd cc
    empty_is_not (x ∷ a) b e = absurd cc

without_first : (x y : List ℕ) → first_line ++ x ≡ first_line ++ y → x ≡ y
without_first x y e = cc

after_first : (h k : List Entry) (x y : List ℕ) → schedule_text h ++ x ≡ schedule_text k ++ y → lines h ++ x ≡ lines k ++ y
after_first h k x y e = without_first (lines h ++ x) (lines k ++ y) (sym (append_assoc first_line (lines h) x) ∙ e ∙ append_assoc first_line (lines k) y)

-- ---- texts

-- two beginnings of one text
begun : (text : List ℕ) (h k : List Entry) (x y : List ℕ) → Begins text h x → Begins text k y → HasNoEntry y → (length h ≤ length k) × (length h ≡ length k → (h ≡ k) × (x ≡ y))
begun text h k x y p q none = peeled h k x y p.entries q.entries (after_first h k x y (sym p.parts ∙ q.parts)) none

whole : (text : List ℕ) (h : List Entry) → IsSchedule text h → Begins text h []
whole text h is = record { parts = is.whole ∙ sym (append-nil (schedule_text h)); entries = is.entries }

not_first : (text rest : List ℕ) (h : List Entry) → Begins text h rest → ((more : List ℕ) → text ≡ first_line ++ more → ⊥) → ⊥
not_first text rest h b no_first = no_first (lines h ++ rest) (b.parts ∙ append_assoc first_line (lines h) rest)

same_schedule : (text : List ℕ) (h k : List Entry) → IsSchedule text h → IsSchedule text k → h ≡ k
same_schedule text h k p q =
    let a = begun text h k [] [] (whole text h p) (whole text k q) no_entry_at_end in
    let b = begun text k h [] [] (whole text k q) (whole text h p) no_entry_at_end in
    let x = a.0 in let y = b.0 in
    (a.1 (omega arith)).0

schedule_or_bad : (text : List ℕ) (h : List Entry) (k : ℕ) → IsSchedule text h → IsBadLine k text → ⊥
schedule_or_bad text h zero p q = q
schedule_or_bad text h (suc zero) p q = not_first text [] h (whole text h p) q
schedule_or_bad text h (suc (suc n)) p q =
    let a = begun text h q.0 [] q.1 (whole text h p) q.2 q.6 in
    let b = begun text q.0 h q.1 [] q.2 (whole text h p) no_entry_at_end in
    let x = a.0 in let y = b.0 in
    q.5 (b.1 (omega arith)).1

schedule_or_long : (text : List ℕ) (h : List Entry) → IsSchedule text h → IsTooLong text → ⊥
schedule_or_long text h p q =
    let b = begun text q.0 h q.1 [] q.2 (whole text h p) no_entry_at_end in
    let x = b.0 in let few = p.few in let size = q.3 in
    q.4 (b.1 (omega arith)).1

same_bad : (text : List ℕ) (j k : ℕ) → IsBadLine j text → IsBadLine k text → j ≡ k
same_bad text zero k p q = absurd p
same_bad text (suc j) zero p q = absurd q
same_bad text (suc zero) (suc zero) p q = refl
same_bad text (suc zero) (suc (suc k)) p q = absurd (not_first text q.1 q.0 q.2 p)
same_bad text (suc (suc j)) (suc zero) p q = absurd (not_first text p.1 p.0 p.2 q)
same_bad text (suc (suc j)) (suc (suc k)) p q =
    let a = begun text p.0 q.0 p.1 q.1 p.2 q.2 q.6 in
    let b = begun text q.0 p.0 q.1 p.1 q.2 p.2 p.6 in
    let x = a.0 in let y = b.0 in let m = p.3 in let n = q.3 in
    omega arith

bad_or_long : (text : List ℕ) (k : ℕ) → IsBadLine k text → IsTooLong text → ⊥
bad_or_long text zero p q = p
bad_or_long text (suc zero) p q = not_first text q.1 q.0 q.2 p
bad_or_long text (suc (suc n)) p q =
    let a = begun text q.0 p.0 q.1 p.1 q.2 p.2 p.6 in
    let x = a.0 in let size = q.3 in let m = p.3 in let few = p.4 in
    absurd (omega arith)

-- what was answered is the one thing that is so of the text
pub answered : (text : List ℕ) (result : Result (Vec Entry) TraceStop) (reading : Result (List Entry) TraceStop) → Gives result text → IsReading text reading → Answers result reading
answered text (Ok v) (Ok h) p q = ap (λ (k : List Entry). let r : Result (List Entry) TraceStop = Ok k in r) (same_schedule text h v.items q p)
answered text (Ok v) (Err (BadLine k)) p q = absurd (schedule_or_bad text v.items k p q)
answered text (Ok v) (Err TooLong) p q = absurd (schedule_or_long text v.items p q)
answered text (Ok v) (Err ReadFault) p q = absurd q
answered text (Ok v) (Err NoMemory) p q = absurd q
answered text (Err (BadLine k)) (Ok h) p q = absurd (schedule_or_bad text h k q p)
answered text (Err (BadLine k)) (Err (BadLine j)) p q = ap (λ (n : ℕ). let r : Result (List Entry) TraceStop = Err (BadLine n) in r) (same_bad text j k q p)
answered text (Err (BadLine k)) (Err TooLong) p q = absurd (bad_or_long text k p q)
answered text (Err (BadLine k)) (Err ReadFault) p q = absurd q
answered text (Err (BadLine k)) (Err NoMemory) p q = absurd q
answered text (Err TooLong) (Ok h) p q = absurd (schedule_or_long text h q p)
answered text (Err TooLong) (Err (BadLine k)) p q = absurd (bad_or_long text k q p)
answered text (Err TooLong) (Err TooLong) p q = refl
answered text (Err TooLong) (Err ReadFault) p q = absurd q
answered text (Err TooLong) (Err NoMemory) p q = absurd q
answered text (Err ReadFault) reading p q = tt
answered text (Err NoMemory) reading p q = tt

pub told_only : (result : Result (Vec Entry) TraceStop) (o o' : Option Content) → WhereTold (λ before after. Gives result before.left) o o'
    → WhereTold (λ before after. (reading : Result (List Entry) TraceStop) → IsReading before.left reading → Answers result reading) o o'
told_only result o o' =
    told_as (λ before after. Gives result before.left) (λ before after. (reading : Result (List Entry) TraceStop) → IsReading before.left reading → Answers result reading) o o'
    (λ a b p reading is. answered a.left result reading p is)
