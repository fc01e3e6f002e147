use Rattle.ig_space.specs.ChunkNames.{length-chunk_name, is_segment-chunk_name, begins_with_digit-chunk_name, is_path-chunk_name}
use Rattle.ig_space.proofs.chunk.chunk_name.Goals as goal

pub of_string-requires : goal.of_string-requires
of_string-requires c = rw c.in_ok-chunk_text.ensures (is_path-chunk_name c.args.area c.requires)

pub returns-clause-segment : goal.returns-clause-segment
returns-clause-segment c = rw (c.of_string.ensures, c.in_ok-chunk_text.ensures) (is_segment-chunk_name c.args.area c.requires)

pub returns-clause-digit : goal.returns-clause-digit
returns-clause-digit c = rw (c.of_string.ensures, c.in_ok-chunk_text.ensures) (begins_with_digit-chunk_name c.args.area c.requires)

pub returns-clause-short : goal.returns-clause-short
returns-clause-short c = rw (c.of_string.ensures, c.in_ok-chunk_text.ensures) (length-chunk_name c.args.area c.requires)
