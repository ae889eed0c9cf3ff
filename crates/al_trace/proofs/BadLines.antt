-- Which lines are not right, and what a text is that stops at one.
use Rattle.std.proofs.Common.{◌≡◌, ◌≢◌, ◌⊎◌, inl, inr, ℕ, zero, suc, ◌+◌, ◌<◌, ◌≤◌, Bool, true, false, List, [], ◌∷◌, ◌++◌, length, get_or, take, drop, All, Result, Ok, Err, refl, sym, ap, subst, ◌∙◌, append_assoc, length-append, drop-cons, arith}
use Rattle.std.specs.Prelude.{◌==◌, not, codes, decimal, slice_set, IfErr}
use Rattle.std.specs.List.{flat_map, list_all}
use Rattle.std.proofs.lemmas.Bool.{and_parts, eqb-false, not-true}
use Rattle.std.proofs.lemmas.List.{append-nil, take_more_set, length-take, length-set, take-append-drop}
use Rattle.std.proofs.lemmas.List.Elements.{All-append, All-cons, All-nil, All-push}
use Rattle.std.proofs.lemmas.List.Concat.{flat_map-append}
use Rattle.std.proofs.lemmas.Fmt.{length-decimal-le}
use Rattle.al_event.specs.declared.entry.Entry.{Entry}
use Rattle.al_trace.specs.declared.stop.TraceStop.{TraceStop}
use Rattle.al_trace.specs.declared.stop.TraceStop.TheVariants.{BadLine}
use Rattle.al_trace.specs.declared.lines.Lines.{Lines}
use Rattle.al_trace.specs.Schedule.{first_line, entry_line, schedule_text, IsEntry, most, HasNoEntry, IsBadLine, IsTooLong, Stops, Gives}
use Rattle.al_trace.specs.Lines.{whole_lines, line_number, number_of, text_of, HasNo, IsPart, IsWhole}
use Rattle.al_trace.proofs.Digits.{head_is_not, tail_has_no, cut_once, digits_have_no}

-- ---- lists up to a line feed

-- what has no line feed at the front of a line is no longer than it
pub shorter : (l more b m : List ℕ) → HasNo 10 l → l ++ more ≡ b ++ 10 ∷ m → length l ≤ length b
shorter [] more b m nofeed e = omega arith
shorter (x ∷ l) more [] m nofeed e = absurd (head_is_not x 10 l nofeed (let same : x ≡ 10 = cc in same))
shorter (x ∷ l) more (y ∷ b) m nofeed e =
    let rest : l ++ more ≡ b ++ 10 ∷ m = cc in
    omega (arith, shorter l more b m (tail_has_no x 10 l nofeed) rest)

pub not_nil : (a b : List ℕ) (x : ℕ) → a ++ x ∷ b ≢ []
not_nil [] b x e = absurd cc
not_nil (y ∷ a) b x e = absurd cc

has_no_by_test : (c : ℕ) (xs : List ℕ) → list_all (λ x. not (x == c)) xs ≡ true → HasNo c xs
has_no_by_test c [] h = All-nil (λ x. x ≢ c)
has_no_by_test c (x ∷ xs) h =
    let parts = and_parts (not (x == c)) (list_all (λ x. not (x == c)) xs) h in
    All-cons (λ x. x ≢ c) x xs (eqb-false x c (not-true (x == c) parts.0)) (has_no_by_test c xs parts.1)

-- ---- right lines without their line feed

abbrev pub first_body : List ℕ
first_body = codes "alef-schedule 1"

first_has_no : HasNo 10 first_body
first_has_no = has_no_by_test 10 first_body refl

abbrev pub body : Entry → List ℕ
body e = decimal e.proc ++ 32 ∷ (decimal e.pick ++ 32 ∷ decimal e.worker)

pub body_line : (e : Entry) (more : List ℕ) → entry_line e ++ more ≡ body e ++ 10 ∷ more
body_line e more = regroup (decimal e.proc) (decimal e.pick) (decimal e.worker) more
  where
    regroup : (a b c d : List ℕ) → (a ++ codes " " ++ b ++ codes " " ++ c ++ codes "\n") ++ d ≡ (a ++ 32 ∷ (b ++ 32 ∷ c)) ++ 10 ∷ d
    regroup a b c d = simp append_assoc

pub body_has_no : (e : Entry) → IsEntry e → HasNo 10 (body e)
body_has_no e is =
    let proc = is.proc in let pick = is.pick in let worker = is.worker in
    All-append (λ x. x ≢ 10) (decimal e.proc) (32 ∷ (decimal e.pick ++ 32 ∷ decimal e.worker)) (digits_have_no e.proc 10 (omega arith) (omega arith))
    (All-cons (λ x. x ≢ 10) 32 (decimal e.pick ++ 32 ∷ decimal e.worker) (λ same. absurd (omega arith))
    (All-append (λ x. x ≢ 10) (decimal e.pick) (32 ∷ decimal e.worker) (digits_have_no e.pick 10 (omega arith) (omega arith))
    (All-cons (λ x. x ≢ 10) 32 (decimal e.worker) (λ same. absurd (omega arith)) (digits_have_no e.worker 10 (omega arith) (omega arith)))))

pub body_short : (e : Entry) → IsEntry e → length (body e) ≤ 19
body_short e is =
    let proc = is.proc in let pick = is.pick in let worker = is.worker in
    let a : length (decimal e.proc) ≤ 10 = length-decimal-le 10 e.proc (omega arith) (omega arith) (omega arith) in
    let b : length (decimal e.pick) ≤ 5 = length-decimal-le 5 e.pick (omega arith) (omega arith) (omega arith) in
    let c : length (decimal e.worker) ≤ 2 = length-decimal-le 2 e.worker (omega arith) (omega arith) (omega arith) in
    let l1 = length-append (decimal e.proc) (32 ∷ (decimal e.pick ++ 32 ∷ decimal e.worker)) in
    let l2 = length-append (decimal e.pick) (32 ∷ decimal e.worker) in
    omega arith

-- ---- lines that are not right

-- no right line is at the front
abbrev pub NoRight : (started : Bool) → List ℕ → Type 0
NoRight true rest = HasNoEntry rest
NoRight false rest = (more : List ℕ) → rest ≡ first_line ++ more → ⊥

-- a line that is not right
abbrev pub Wrong : (started : Bool) → List ℕ → Type 0
Wrong true line = (e : Entry) → IsEntry e → line ≡ entry_line e → ⊥
Wrong false line = line ≡ first_line → ⊥

whole_no : (started : Bool) (l more : List ℕ) → HasNo 10 l → Wrong started (l ++ 10 ∷ []) → NoRight started (l ++ 10 ∷ more)
whole_no true l more nofeed wrong = λ e m is eq.
    let same = cut_once 10 l (body e) more m nofeed (body_has_no e is) (eq ∙ body_line e m) in
    wrong e is (ap (λ (v : List ℕ). v ++ 10 ∷ []) same.0 ∙ sym (body_line e []) ∙ append-nil (entry_line e))
whole_no false l more nofeed wrong = λ m eq.
    let same = cut_once 10 l first_body more m nofeed first_has_no eq in
    wrong (ap (λ (v : List ℕ). v ++ 10 ∷ []) same.0)

long_no : (started : Bool) (l more : List ℕ) → HasNo 10 l → 20 ≤ length l → NoRight started (l ++ more)
long_no true l more nofeed long = λ e m is eq.
    let short = shorter l more (body e) m nofeed (eq ∙ body_line e m) in
    absurd (omega (arith, short, body_short e is, long))
long_no false l more nofeed long = λ m eq.
    let short = shorter l more first_body m nofeed eq in
    absurd (omega (arith, short, long))

end_no : (started : Bool) (l : List ℕ) → HasNo 10 l → NoRight started l
end_no true l nofeed = λ e m is eq.
    let same = eq ∙ body_line e m in
    let short = shorter l [] (body e) m nofeed (append-nil l ∙ same) in
    absurd (omega (arith, short, ap length same, length-append (body e) (10 ∷ m)))
end_no false l nofeed = λ m eq.
    let short = shorter l [] first_body m nofeed (append-nil l ∙ eq) in
    absurd (omega (arith, short, ap length eq, length-append first_body (10 ∷ m)))

-- the line at which the text stops
bad_line : (started : Bool) (h : List Entry) (rest : List ℕ) → All IsEntry h → length h < most → (started ≡ true → rest ≢ []) → NoRight started rest
    → IsBadLine (line_number started (length h)) (whole_lines started h ++ rest)
bad_line false h rest entries few some nofeed = nofeed
bad_line true h rest entries few some nofeed =
    let e : length h + 2 ≡ suc (suc (length h)) = omega arith in
    subst (λ (k : ℕ). IsBadLine k (schedule_text h ++ rest)) (sym e) (h, rest, record { parts = refl; entries = entries }, refl, few, some refl, nofeed)

stop_at : (l : Lines) (stop : TraceStop) (text rest : List ℕ) → All IsEntry l.entries → length l.entries < most → (l.started ≡ true → rest ≢ []) → NoRight l.started rest
    → text ≡ whole_lines l.started l.entries ++ rest → stop ≡ BadLine (number_of l) → Stops stop text
stop_at l stop text rest entries few some nofeed e is =
    subst (λ (s : TraceStop). Stops s text) (sym is)
    (subst (λ (t : List ℕ). IsBadLine (number_of l) t) (sym e) (bad_line l.started l.entries rest entries few some nofeed))

-- a whole line that is not right
pub wrong_line : (l : Lines) (stop : TraceStop) → IsWhole l → Wrong l.started (take l.len l.line) → stop ≡ BadLine (number_of l) → (more : List ℕ) → Stops stop (text_of l ++ more)
wrong_line l stop is wrong e more =
    let line = is.ended.0 in
    let nofeed = is.ended.1 in
    let same = is.ended.2 in
    let wrong' : Wrong l.started (line ++ 10 ∷ []) = subst (λ (v : List ℕ). Wrong l.started v) same wrong in
    let text : text_of l ++ more ≡ whole_lines l.started l.entries ++ (line ++ 10 ∷ more) =
    append_assoc (whole_lines l.started l.entries) (take l.len l.line) more
    ∙ ap (λ (v : List ℕ). whole_lines l.started l.entries ++ v) (ap (λ (v : List ℕ). v ++ more) same ∙ append_assoc line (10 ∷ []) more) in
    stop_at l stop (text_of l ++ more) (line ++ 10 ∷ more) is.lines.entries is.room (λ started. not_nil line more 10) (whole_no l.started line more nofeed wrong') text e

-- a line with no line feed among as many bytes as a line can have
pub long_line : (l : Lines) (byte : ℕ) (stop : TraceStop) → IsPart l → length l.entries < most → byte ≢ 10 → l.len + 1 ≡ 20 → stop ≡ BadLine (number_of l)
    → (more : List ℕ) → Stops stop (text_of l ++ byte ∷ more)
long_line l byte stop is few feed size e more =
    let wide = is.lines.size in
    let line = take l.len l.line ++ byte ∷ [] in
    let nofeed : HasNo 10 line = All-push (λ x. x ≢ 10) (take l.len l.line) byte is.no_feed feed in
    let long : 20 ≤ length line = omega (arith, length-append (take l.len l.line) (byte ∷ []), length-take l.len l.line) in
    let regrouped : take l.len l.line ++ byte ∷ more ≡ line ++ more = sym (append_assoc (take l.len l.line) (byte ∷ []) more) in
    let text : text_of l ++ byte ∷ more ≡ whole_lines l.started l.entries ++ (line ++ more) =
    append_assoc (whole_lines l.started l.entries) (take l.len l.line) (byte ∷ more) ∙ ap (λ (v : List ℕ). whole_lines l.started l.entries ++ v) regrouped in
    let some : line ++ more ≢ [] = λ none. not_nil (take l.len l.line) more byte (regrouped ∙ none) in
    stop_at l stop (text_of l ++ byte ∷ more) (line ++ more) is.lines.entries few (λ started. some) (long_no l.started line more nofeed long) text e

some_bytes : (len : ℕ) (line : List ℕ) → 0 < len → len ≤ length line → take len line ≢ []
some_bytes len line lt within none = absurd (omega (arith, ap length none, length-take len line))

few_entries : (l : Lines) → IsPart l → (l.started ≡ false) ⊎ (0 < l.len) → length l.entries < most
few_entries l is (inl none) = omega (arith, ap (λ (h : List Entry). length h) (is.lines.none none))
few_entries l is (inr lt) = is.room lt

some_left : (l : Lines) → (l.started ≡ false) ⊎ (0 < l.len) → l.len ≤ length l.line → l.started ≡ true → take l.len l.line ≢ []
some_left l (inl none) within started = λ e. absurd cc
some_left l (inr lt) within started = some_bytes l.len l.line lt within

-- a text that ends in a line without a line feed, or before its first line
pub unfinished : (l : Lines) (stop : TraceStop) → IsPart l → (l.started ≡ false) ⊎ (0 < l.len) → stop ≡ BadLine (number_of l) → Gives (Err stop) (text_of l)
unfinished l stop is why e =
    let size = is.lines.size in
    let short = is.short in
    let within : l.len ≤ length l.line = omega arith in
    subst (λ (s : TraceStop). Gives (Err s) (text_of l)) (sym e)
    (bad_line l.started l.entries (take l.len l.line) is.lines.entries (few_entries l is why) (some_left l why within) (end_no l.started (take l.len l.line) is.no_feed))

-- more bytes after as many lines as there can be
full : (started : Bool) (h : List Entry) → (started ≡ false → h ≡ []) → length h ≡ most → whole_lines started h ≡ schedule_text h
full true h none size = refl
full false h none size = absurd (omega (arith, ap (λ (h : List Entry). length h) (none refl)))

empty : (len n : ℕ) → (0 < len → n < most) → n ≡ most → len ≡ 0
empty zero n room size = refl
empty (suc len) n room size = absurd (omega (arith, room (omega arith)))

pub too_long : (l : Lines) (byte : ℕ) → IsPart l → length l.entries ≡ most → (more : List ℕ) → IsTooLong (text_of l ++ byte ∷ more)
too_long l byte is size more =
    let none : l.len ≡ 0 = empty l.len (length l.entries) is.room size in
    let nothing : take l.len l.line ≡ [] = ap (λ (k : ℕ). take k l.line) none in
    let text : text_of l ++ byte ∷ more ≡ schedule_text l.entries ++ byte ∷ more =
    ap (λ (v : List ℕ). (whole_lines l.started l.entries ++ v) ++ byte ∷ more) nothing
    ∙ ap (λ (v : List ℕ). v ++ byte ∷ more) (append-nil (whole_lines l.started l.entries) ∙ full l.started l.entries is.lines.none size) in
    (l.entries, byte ∷ more, record { parts = text; entries = is.lines.entries }, size, not_nil [] more byte)

-- ---- lines that are right

-- with one byte more
pub text_byte : (l : Lines) (byte : ℕ) → l.len < length l.line → text_of (record l { line = slice_set l.line l.len byte; len = l.len + 1 }) ≡ text_of l ++ byte ∷ []
text_byte l byte within =
    ap (λ (v : List ℕ). whole_lines l.started l.entries ++ v) (take_more_set l.line l.len byte within) ∙ sym (append_assoc (whole_lines l.started l.entries) (take l.len l.line) (byte ∷ []))

pub part_byte : (l : Lines) (byte : ℕ) → IsPart l → length l.entries < most → byte ≢ 10 → l.len + 1 < 20 → l.len < length l.line → IsPart (record l { line = slice_set l.line l.len byte; len = l.len + 1 })
part_byte l byte is few feed short within =
    record {
      lines = record { entries = is.lines.entries; few = is.lines.few; none = is.lines.none; size = length-set l.line l.len byte ∙ is.lines.size };
      short = short;
      no_feed = subst (λ (v : List ℕ). HasNo 10 v) (sym (take_more_set l.line l.len byte within)) (All-push (λ x. x ≢ 10) (take l.len l.line) byte is.no_feed feed);
      room = λ lt. few;
    }

pub whole_byte : (l : Lines) (byte : ℕ) → IsPart l → length l.entries < most → byte ≡ 10 → l.len < length l.line → IsWhole (record l { line = slice_set l.line l.len byte; len = l.len + 1 })
whole_byte l byte is few feed within =
    let short = is.short in
    record {
      lines = record { entries = is.lines.entries; few = is.lines.few; none = is.lines.none; size = length-set l.line l.len byte ∙ is.lines.size };
      short = omega arith;
      ended = (take l.len l.line, is.no_feed, take_more_set l.line l.len byte within ∙ ap (λ (b : ℕ). take l.len l.line ++ b ∷ []) feed);
      room = few;
    }

-- one more entry was read
ended_with : (l : Lines) (e : Entry) → IsWhole l → l.started ≡ true → IsEntry e → IsPart (record l { entries = l.entries ++ e ∷ []; len = 0 })
ended_with l e is started right =
    let few = is.room in
    record {
      lines = record {
        entries = All-push IsEntry l.entries e is.lines.entries right;
        few = omega (arith, length-append l.entries (e ∷ []));
        none = λ f. absurd cc;
        size = is.lines.size;
      };
      short = omega arith;
      no_feed = All-nil (λ x. x ≢ 10);
      room = λ lt. absurd (omega arith);
    }

pub entry_ended : (l : Lines) (h : List Entry) (e : Entry) → IsWhole l → l.started ≡ true → IsEntry e → h ≡ l.entries ++ e ∷ [] → IsPart (record l { entries = h; len = 0 })
entry_ended l h e is started right more = subst (λ (k : List Entry). IsPart (record l { entries = k; len = 0 })) (sym more) (ended_with l e is started right)

at_entry : (started : Bool) (h : List Entry) (e : Entry) (line : List ℕ) → started ≡ true → line ≡ entry_line e → whole_lines started (h ++ e ∷ []) ++ [] ≡ whole_lines started h ++ line
at_entry true h e line is same =
    append-nil (schedule_text (h ++ e ∷ []))
    ∙ ap (λ (v : List ℕ). first_line ++ v) (flat_map-append entry_line h (e ∷ []) ∙ ap (λ (v : List ℕ). flat_map entry_line h ++ v) (append-nil (entry_line e) ∙ sym same))
    ∙ sym (append_assoc first_line (flat_map entry_line h) line)
at_entry false h e line is same = absurd cc

pub entry_text : (l : Lines) (h : List Entry) (e : Entry) → l.started ≡ true → take l.len l.line ≡ entry_line e → h ≡ l.entries ++ e ∷ [] → text_of (record l { entries = h; len = 0 }) ≡ text_of l
entry_text l h e started same more =
    ap (λ (k : List Entry). whole_lines l.started k ++ []) more ∙ at_entry l.started l.entries e (take l.len l.line) started same

-- ---- what is said of a text with any bytes behind it

pub stop_later : {A : Type 0} (r : Result A TraceStop) (a b : List ℕ) (byte : ℕ) → a ≡ b ++ byte ∷ [] → IfErr r (λ stop. (more : List ℕ) → Stops stop (a ++ more))
    → IfErr r (λ stop. (more : List ℕ) → Stops stop (b ++ byte ∷ more))
stop_later (Ok x) a b byte e h = tt
stop_later (Err stop) a b byte e h = λ more. subst (λ (t : List ℕ). Stops stop t) (ap (λ (v : List ℕ). v ++ more) e ∙ append_assoc b (byte ∷ []) more) (h more)

pub wrong_entry : (l : Lines) (stop : TraceStop) → IsWhole l → l.started ≡ true → ((e : Entry) → IsEntry e → take l.len l.line ≡ entry_line e → ⊥) → stop ≡ BadLine (number_of l)
    → (more : List ℕ) → Stops stop (text_of l ++ more)
wrong_entry l stop is started wrong e = wrong_line l stop is (subst (λ (b : Bool). Wrong b (take l.len l.line)) (sym started) wrong) e

pub wrong_first : (l : Lines) (stop : TraceStop) → IsWhole l → l.started ≡ false → (take l.len l.line ≡ first_line → ⊥) → stop ≡ BadLine (number_of l)
    → (more : List ℕ) → Stops stop (text_of l ++ more)
wrong_first l stop is started wrong e = wrong_line l stop is (subst (λ (b : Bool). Wrong b (take l.len l.line)) (sym started) wrong) e

-- a stop at one byte of a piece is one of the whole piece
pub stop_in_piece : (stop : TraceStop) (before old piece more : List ℕ) (i byte : ℕ) → i < length piece → byte ≡ get_or piece i 0 → before ≡ old ++ take i piece
    → ((rest : List ℕ) → Stops stop (before ++ byte ∷ rest)) → Stops stop (old ++ (piece ++ more))
stop_in_piece stop before old piece more i byte lt is e h =
    let parts : piece ≡ take i piece ++ byte ∷ drop (suc i) piece =
    sym (take-append-drop i piece) ∙ ap (λ (v : List ℕ). take i piece ++ v) (drop-cons piece i 0 lt ∙ ap (λ (b : ℕ). b ∷ drop (suc i) piece) (sym is)) in
    let text : before ++ byte ∷ (drop (suc i) piece ++ more) ≡ old ++ (piece ++ more) =
    ap (λ (v : List ℕ). v ++ byte ∷ (drop (suc i) piece ++ more)) e
    ∙ append_assoc old (take i piece) (byte ∷ (drop (suc i) piece ++ more))
    ∙ ap (λ (v : List ℕ). old ++ v) (sym (append_assoc (take i piece) (byte ∷ drop (suc i) piece) more) ∙ ap (λ (v : List ℕ). v ++ more) (sym parts)) in
    subst (λ (t : List ℕ). Stops stop t) text (h (drop (suc i) piece ++ more))
