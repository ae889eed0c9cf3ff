-- What a reader has read of a host's text, call after call.
use Rattle.std.proofs.Common.{◌≡◌, ℕ, ◌+◌, ◌-◌, ◌*◌, ◌<◌, ◌≤◌, true, false, Bool, List, [], ◌∷◌, ◌++◌, length, take, drop, All, Option, Result, Ok, Err, sym, ap, subst, ◌∙◌, append_assoc, length-append, arith}
use Rattle.std.specs.Prelude.{IfErr, IfOk}
use Rattle.std.specs.List.{flat_map}
use Rattle.std.specs.Global.{Vec}
use Rattle.std.proofs.lemmas.List.{append-nil, take-append-drop, length-take}
use Rattle.std.proofs.lemmas.List.Elements.{All-head, All-tail}
use Rattle.al_event.specs.declared.entry.Entry.{Entry}
use Rattle.al_host.specs.Outside.{Content, WhereTold, Reads}
use Rattle.al_trace.specs.declared.stop.TraceStop.{TraceStop}
use Rattle.al_trace.specs.declared.stop.TraceStop.TheVariants.{ReadFault, BadLine, TooLong, NoMemory}
use Rattle.al_trace.specs.declared.lines.Lines.{Lines}
use Rattle.al_trace.specs.Schedule.{entry_line, Gives, IsEntry, most, Stops, StopsAt}
use Rattle.al_trace.specs.Lines.{IsPart, text_of, whole_lines}
use Rattle.al_trace.specs.Reading.{StopsIn, FaultCounts}
use Rattle.al_trace.proofs.BadLines.{body, body_line, body_short}
use Rattle.al_trace.proofs.Told.{told_then}

-- ---- how long a text can be that has no fault so far

entry_short : (e : Entry) → IsEntry e → length (entry_line e) ≤ 20
entry_short e is =
    let size : length (entry_line e) ≡ length (body e ++ 10 ∷ []) = ap (λ (v : List ℕ). length v) (sym (append-nil (entry_line e)) ∙ body_line e []) in
    omega (arith, size, length-append (body e) (10 ∷ []), body_short e is)

entries_short : (h : List Entry) → All IsEntry h → length (flat_map entry_line h) ≤ 20 * length h
entries_short [] all = omega arith
entries_short (e ∷ h) all =
    omega (arith, length-append (entry_line e) (flat_map entry_line h), entry_short e (All-head IsEntry e h all), entries_short h (All-tail IsEntry e h all))

abbrev pub most_bytes : ℕ
most_bytes = 36 + 20 * most

whole_short : (started : Bool) (h : List Entry) → All IsEntry h → length h ≤ most → length (whole_lines started h) ≤ 16 + 20 * most
whole_short true h all few = omega (arith, entries_short h all)
whole_short false h all few = omega arith

pub text_short : (l : Lines) → IsPart l → length (text_of l) < most_bytes
text_short l is =
    let short = is.short in
    omega (arith, length-append (whole_lines l.started l.entries) (take l.len l.line), whole_short l.started l.entries is.lines.entries is.lines.few, length-take l.len l.line)

-- one piece more brings a reader nearer to the end
pub nearer : (l : Lines) (text piece : List ℕ) → IsPart l → text_of l ≡ text ++ piece → 0 < length piece → most_bytes - length (text_of l) < most_bytes - length text
nearer l text piece is e some =
    let short = text_short l is in
    let size : length (text_of l) ≡ length text + length piece = ap (λ (v : List ℕ). length v) e ∙ length-append text piece in
    omega (arith, short, size, some)

-- ---- what was read and what is left

-- what was read with what is left is what was there at first
pub record ReadsFront (old new : List ℕ) (before after : Content) : Type 0 where
  pub text : old ++ before.left ≡ new ++ after.left
  pub same : after.texts ≡ before.texts

on : (old text buf : List ℕ) (n : ℕ) (a b c : Content) → ReadsFront old text a b → Reads n buf b c → ReadsFront old (text ++ take n buf) a c
on old text buf n a b c p q =
    let left : b.left ≡ take n buf ++ c.left = sym (take-append-drop n b.left) ∙ ap (λ (v : List ℕ). v ++ drop n b.left) (sym q.bytes) ∙ ap (λ (v : List ℕ). take n buf ++ v) (sym q.rest) in
    record { text = p.text ∙ ap (λ (v : List ℕ). text ++ v) left ∙ sym (append_assoc text (take n buf) c.left); same = q.same ∙ p.same }

stops_at : (stop : TraceStop) (text : List ℕ) → Stops stop text → StopsAt stop text
stops_at (BadLine k) text h = h
stops_at TooLong text h = h
stops_at ReadFault text h = tt
stops_at NoMemory text h = tt

-- a stop at a piece, with what is left behind it
pub told_stop : (old text buf : List ℕ) (n : ℕ) (stop : TraceStop) (o o' o'' : Option Content) → ((more : List ℕ) → Stops stop (text ++ (take n buf ++ more)))
    → WhereTold (ReadsFront old text) o o' → WhereTold (Reads n buf) o' o'' → WhereTold (StopsIn stop old) o o''
told_stop old text buf n stop o o' o'' h =
    told_then (ReadsFront old text) (Reads n buf) (StopsIn stop old) o o' o''
    (λ a b c p q. let r = on old text buf n a b c p q in
    record {
      stops = stops_at stop (old ++ a.left) (subst (λ (t : List ℕ). Stops stop t) (sym (r.text ∙ append_assoc text (take n buf) c.left)) (h c.left));
      same = r.same;
    })

-- a stop at a line is no fault of the host
pub no_fault : (stop : TraceStop) (text : List ℕ) (before after : ℕ) → Stops stop text → after ≡ before → FaultCounts (let r : Result (Unit {0}) TraceStop = Err stop in r) before after
no_fault (BadLine k) text before after h e = e
no_fault TooLong text before after h e = e
no_fault ReadFault text before after h e = absurd h
no_fault NoMemory text before after h e = e

-- an answer that is no fault of the host
pub kept_count : (r : Result (Vec Entry) TraceStop) (k before after : ℕ) → IfErr r (λ stop. stop ≡ BadLine k) → after ≡ before → FaultCounts r before after
kept_count (Ok v) k before after h e = e
kept_count (Err stop) k before after h e = subst (λ (s : TraceStop). FaultCounts (let r : Result (Vec Entry) TraceStop = Err s in r) before after) (sym h) e

-- ---- what entries there are

pub few_given : (r : Result (Vec Entry) TraceStop) (text : List ℕ) → Gives r text → IfOk r (λ v. length v.items ≤ most)
few_given (Ok v) text g = g.few
few_given (Err stop) text g = tt

pub entries_given : (r : Result (Vec Entry) TraceStop) (text : List ℕ) → Gives r text → IfOk r (λ v. All IsEntry v.items)
entries_given (Ok v) text g = g.entries
entries_given (Err stop) text g = tt
