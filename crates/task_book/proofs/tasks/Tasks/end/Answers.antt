use Rattle.std.proofs.Common.{◌∙◌, sym, ap, subst, arith, refl}
use Rattle.task_book.specs.Table.{Table}
use Rattle.task_book.proofs.Ends.{ends_one, ends_last, none_from, lives_after, home_after, out_after}
use Rattle.std.proofs.Common.{rules, ◌≡◌, ◌<◌, IfSome, Some, None, true, false, nat_eq, slice_set}
use Rattle.al_world.specs.Procs.{has_branches, loses_first, without_parent}
use Rattle.task_book.specs.Table.{home_of, live_of, parent_of, IsBlocked}
use Rattle.task_book.proofs.tasks.Tasks.end.Goals as goal

-- src/ending.rt:115:13
pub returns-then-company-gt1-clause-ended : goal.returns-then-company-gt1-clause-ended
returns-then-company-gt1-clause-ended c =
    ends_one (home_of c.args.self.now) c.args.self.now.procs (home_of c.args.self.now c.args.task) (subst (λ n. 1 < n) c.company.ensures.live c.if-company-gt1.true) ∙ ap (λ (s : Table). record { procs = s.procs; proc_ended = false; woke = None }) (sym c.end_one.ensures)

-- src/ending.rt:121:31
pub end_last-requires-clause-last : goal.end_last-requires-clause-last
end_last-requires-clause-last c = sym c.company.ensures.live ∙ omega (arith, c.company.ensures.some)

-- src/ending.rt:122:17
pub waits-requires : goal.waits-requires
waits-requires c =
    let live : live_of c.args.self.now (home_of c.args.self.now c.args.task) ≡ 1 = sym c.company.ensures.live ∙ omega (arith, c.company.ensures.some) in
    let blocked : IsBlocked c.args.self.now c.in-Some.parent = subst (λ o. IfSome o (IsBlocked c.args.self.now)) (sym c.in-Some.ensures.parent) (c.requires.parent live) in
    let p = home_of c.args.self.now c.args.task in
    let privates = slice_set c.args.self.now.privates p None in
    rw c.end_last.ensures.table (lives_after c.args.self.now p c.args.task privates c.requires.first refl c.in-Some.parent blocked)

-- src/ending.rt:123:17
pub wake-requires-clause-lives : goal.wake-requires-clause-lives
wake-requires-clause-lives c =
    let live : live_of c.args.self.now (home_of c.args.self.now c.args.task) ≡ 1 = sym c.company.ensures.live ∙ omega (arith, c.company.ensures.some) in
    let blocked : IsBlocked c.args.self.now c.in-Some.parent = subst (λ o. IfSome o (IsBlocked c.args.self.now)) (sym c.in-Some.ensures.parent) (c.requires.parent live) in
    let p = home_of c.args.self.now c.args.task in
    let privates = slice_set c.args.self.now.privates p None in
    rw c.end_last.ensures.table (lives_after c.args.self.now p c.args.task privates c.requires.first refl c.in-Some.parent blocked)

-- src/ending.rt:123:17
pub wake-requires-clause-blocked : goal.wake-requires-clause-blocked
wake-requires-clause-blocked c =
    let live : live_of c.args.self.now (home_of c.args.self.now c.args.task) ≡ 1 = sym c.company.ensures.live ∙ omega (arith, c.company.ensures.some) in
    let blocked : IsBlocked c.args.self.now c.in-Some.parent = subst (λ o. IfSome o (IsBlocked c.args.self.now)) (sym c.in-Some.ensures.parent) (c.requires.parent live) in
    let p = home_of c.args.self.now c.args.task in
    let privates = slice_set c.args.self.now.privates p None in
    rw c.end_last.ensures.table (out_after c.args.self.now p c.args.task privates c.requires.first refl c.in-Some.parent blocked)

-- src/ending.rt:103:5
pub returns-then-not-waits-clause-ended : goal.returns-then-not-waits-clause-ended
returns-then-not-waits-clause-ended c =
    let live : live_of c.args.self.now (home_of c.args.self.now c.args.task) ≡ 1 = sym c.company.ensures.live ∙ omega (arith, c.company.ensures.some) in
    let blocked : IsBlocked c.args.self.now c.in-Some.parent = subst (λ o. IfSome o (IsBlocked c.args.self.now)) (sym c.in-Some.ensures.parent) (c.requires.parent live) in
    let p = home_of c.args.self.now c.args.task in
    let privates = slice_set c.args.self.now.privates p None in
    let alone : has_branches nat_eq (λ t. 0) c.in-Some.parent (without_parent (home_of c.args.self.now c.args.task) (loses_first (home_of c.args.self.now c.args.task) c.args.self.now.procs)) ≡ false = ap (λ (s : Table). has_branches nat_eq (λ t. 0) c.in-Some.parent s.procs) (sym c.end_last.ensures.table) ∙ sym c.waits.ensures ∙ (search rules) in
    let home = home_after c.args.self.now p c.args.task privates c.requires.first refl c.in-Some.parent blocked in
    ends_last (home_of c.args.self.now) c.args.self.now.procs (home_of c.args.self.now c.args.task) (Some c.in-Some.parent) live (sym c.in-Some.ensures.parent) ∙ (rw (alone, c.wake.ensures, c.end_last.ensures.table, home) refl)

-- src/ending.rt:103:5
pub returns-else-not-waits-clause-ended : goal.returns-else-not-waits-clause-ended
returns-else-not-waits-clause-ended c =
    let live : live_of c.args.self.now (home_of c.args.self.now c.args.task) ≡ 1 = sym c.company.ensures.live ∙ omega (arith, c.company.ensures.some) in
    let parent = sym c.in-Some.ensures.parent in
    let waits : has_branches nat_eq (λ t. 0) c.in-Some.parent (without_parent (home_of c.args.self.now c.args.task) (loses_first (home_of c.args.self.now c.args.task) c.args.self.now.procs)) ≡ true = ap (λ (s : Table). has_branches nat_eq (λ t. 0) c.in-Some.parent s.procs) (sym c.end_last.ensures.table) ∙ sym c.waits.ensures ∙ (search rules) in
    ends_last (home_of c.args.self.now) c.args.self.now.procs (home_of c.args.self.now c.args.task) (Some c.in-Some.parent) live parent ∙ (rw (waits, c.end_last.ensures.table) refl)

-- src/ending.rt:103:5
pub returns-in_default-clause-ended : goal.returns-in_default-clause-ended
returns-in_default-clause-ended c =
    let live : live_of c.args.self.now (home_of c.args.self.now c.args.task) ≡ 1 = sym c.company.ensures.live ∙ omega (arith, c.company.ensures.some) in
    let none : parent_of c.args.self.now (home_of c.args.self.now c.args.task) ≡ None = sym c.end_last.ensures.parent ∙ (search (rules, none_from)) in
    ends_last (home_of c.args.self.now) c.args.self.now.procs (home_of c.args.self.now c.args.task) None live none ∙ ap (λ (s : Table). record { procs = s.procs; proc_ended = true; woke = None }) (sym c.end_last.ensures.table)
