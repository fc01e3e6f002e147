use Rattle.std.proofs.Common.{◌∙◌, sym, ap}
use Rattle.ig_space.specs.Path.{is_segment}
use Rattle.igneous.proofs.Segments.{tells_name, tells_no_name}
use Rattle.igneous.proofs.posix_files.is_name_in.Goals as goal

pub returns-then-is_segment_text : goal.returns-then-is_segment_text
returns-then-is_segment_text c =
    tells_name c.args.dir.now c.args.name.now c.requires (ap is_segment (sym c.as_bytes.ensures.value) ∙ sym c.is_segment_text.ensures ∙ c.if-is_segment_text.true)

pub returns-else-is_segment_text : goal.returns-else-is_segment_text
returns-else-is_segment_text c =
    tells_no_name c.args.dir.now c.args.name.now c.is_segment_text.result (c.is_segment_text.ensures ∙ ap is_segment c.as_bytes.ensures.value) c.if-is_segment_text.false
