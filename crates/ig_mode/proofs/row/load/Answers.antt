use Rattle.std.proofs.lemmas.Simd.{length-chunk, get_or-chunk}
use Rattle.ig_mode.proofs.row.load.Goals as goal

pub returns : goal.returns
returns c = record { long = length-chunk c.args.at 4 c.args.row.now c.requires; each = λ k l. get_or-chunk c.args.at 4 c.args.row.now k 0 l }
