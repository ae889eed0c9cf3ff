use Rattle.std.proofs.Common.{◌≡◌, ℕ, Some, true, refl, slice_get, option_map, unwrap_or, eqb, subst, sym, ap, ◌∙◌}
use Rattle.al_world.specs.Channels.{Offer, channel, held_of}
use Rattle.al_world.specs.Talks.{lets_in, words_of}
use Rattle.al_world.specs.Transfers.{IsIn}
use Rattle.chan_book.specs.declared.book.Waiter.{Waiter}
use Rattle.chan_book.specs.Book.{Bounded, is_blocked, IsOpen}
use Rattle.alt_select.specs.declared.answer.Fired.{Fired}
use Rattle.alt_select.specs.Answer.{woken_of}
use Rattle.alt_select.proofs.Goes.{blocked_of, number_within, open_after, let_in_book, oldest_is}
use Rattle.alt_select.proofs.going.let_in.Goals as goal

pub withdraw-talk-requires : goal.withdraw-talk-requires
withdraw-talk-requires c = subst (λ (v : Bounded). is_blocked v.book c.args.waiter.task ≡ true) (sym c.take-got.ensures.taken) (let h = c.requires.waits in blocked_of c.args.book.now.book c.args.waiter h.offer h.of)

pub words_sent-words-requires : goal.words_sent-words-requires
words_sent-words-requires c =
    let talk : (o : Offer ℕ) → IsIn c.args.book.now.book.waiting o → o.by ≡ c.args.waiter.task → slice_get c.withdraw-talk.result o.number ≡ Some o.branch = subst (λ (v : Bounded). (o : Offer ℕ) → IsIn v.book.waiting o → o.by ≡ c.args.waiter.task → slice_get c.withdraw-talk.result o.number ≡ Some o.branch) c.take-got.ensures.taken c.withdraw-talk.ensures.talk in
    number_within c.args.book.now.book c.args.waiter c.withdraw-talk.result c.requires.waits talk

pub put-requires : goal.put-requires
put-requires c =
    let taken : IsOpen c.take-got.new.self.book.channels c.args.chan = subst (λ (v : Bounded). IsOpen v.book.channels c.args.chan) (sym c.take-got.ensures.taken) (open_after c.args.book.now.book.channels c.args.chan c.requires.filled c.requires.full) in
    subst (λ (v : Bounded). IsOpen v.book.channels c.args.chan) (sym c.withdraw-talk.ensures.withdrawn) taken

pub returns-clause-let_in : goal.returns-clause-let_in
returns-clause-let_in c = λ offer of t oldest later e.
    let book = c.args.book.now.book in
    let talk : (o : Offer ℕ) → IsIn book.waiting o → o.by ≡ c.args.waiter.task → slice_get c.withdraw-talk.result o.number ≡ Some o.branch = subst (λ (v : Bounded). (o : Offer ℕ) → IsIn v.book.waiting o → o.by ≡ c.args.waiter.task → slice_get c.withdraw-talk.result o.number ≡ Some o.branch) c.take-got.ensures.taken c.withdraw-talk.ensures.talk in
    let by : offer.by ≡ c.args.waiter.task = ap (λ (w : Waiter). w.task) of.is in
    let number : offer.number ≡ c.args.waiter.number = ap (λ (w : Waiter). w.number) of.is in
    let there : slice_get c.withdraw-talk.result c.args.waiter.number ≡ Some offer.branch = subst (λ n. slice_get c.withdraw-talk.result n ≡ Some offer.branch) number (talk offer of.within by) in
    let said : c.words_sent-words.result ≡ words_of offer = subst (λ l. c.words_sent-words.result ≡ unwrap_or offer.branch.send l) c.no_words-none.ensures (c.words_sent-words.ensures offer.branch there) in
    let answer = c.woken_by.ensures in
    record {
      outcome = lets_in eqb book t c.args.number c.args.chan oldest offer;
      is = refl;
      book = let_in_book c.args.book.now c.take-got.new.self c.withdraw-talk.new.self c.put.new.self c.args.chan c.args.waiter.task c.words_sent-words.result offer c.take-got.ensures.taken c.withdraw-talk.ensures.withdrawn c.put.ensures (sym by) said;
      branch = sym (ap (λ (f : Fired). f.branch) answer);
      words = oldest_is (held_of (channel book.channels c.args.chan)) later c.take-got.result oldest c.take-got.ensures.oldest e ∙ sym (ap (λ (f : Fired). f.got) answer);
      woke = (λ i. Some (record { by = by i; branch = number i; words = sym c.no_words-given.ensures i })) ∙ sym (ap (λ (f : Fired). option_map woken_of f.woke) answer);
    }
