-- A waiting branch by its task and number, and what is told of a channel.
use Rattle.std.specs.Prelude.{ℕ, if◌then◌else◌, length, Option, Some, None}
use Rattle.chan_book.specs.declared.book.Waiter.{Waiter}
use Rattle.chan_book.specs.declared.book.Shape.{Shape}
use Rattle.al_world.specs.Channels.{Channel, Book, Offer, channel}
use Rattle.chan_book.specs.Book.{tasks_on}

abbrev pub waiter_of : Offer ℕ → Waiter
waiter_of o = record { task = o.by; number = o.number }

abbrev pub shape_at : Book ℕ → ℕ → Option Channel → Option Shape
shape_at book c None = None
shape_at book c (Some ch) =
    if ch.given_up then None
    else Some (record { capacity = ch.capacity; held = length ch.held; waiting = length (tasks_on c book.waiting) })

-- capacity, number of values held, and number of tasks that wait; none for nil and a channel that was given up
abbrev pub shape_of : Book ℕ → ℕ → Option Shape
shape_of book c = shape_at book c (channel book.channels c)
