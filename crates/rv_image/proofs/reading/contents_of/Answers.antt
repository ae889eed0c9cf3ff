use Rattle.std.proofs.Common.{rules}
use Rattle.rv_image.specs.Reading.{number_at}
use Rattle.rv_image.proofs.Found.{within_made}
use Rattle.rv_image.proofs.reading.contents_of.Goals as goal

pub new-requires : goal.new-requires
new-requires c = within_made _ (number_at c.args.bytes.now) c.args.header.now c.in_ok-contents.ensures c.requires (search rules)
