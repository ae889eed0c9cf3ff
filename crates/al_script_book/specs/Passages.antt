-- What went, as the world says it.
use Rattle.al_world.specs.Talks.{Went, Transfer as Transferred, Put as PutIn, Get as GotOut, Lost as GivenUp}
use Rattle.al_world.specs.World.{TalkName}
use Rattle.al_script_book.specs.declared.went.Passage.{Passage}
use Rattle.al_script_book.specs.declared.went.Passage.TheVariants.{Transfer, Put, Get, Lost}

abbrev pub went_of : Passage → Went TalkName
went_of (Transfer chan sender receiver words) = Transferred chan sender receiver words
went_of (Put chan sender words) = PutIn chan sender words
went_of (Get chan receiver words) = GotOut chan receiver words
went_of (Lost chan values) = GivenUp chan values
