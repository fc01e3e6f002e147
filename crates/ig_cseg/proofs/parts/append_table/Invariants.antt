-- So far the first labels are appended.
use Rattle.std.proofs.Common.{◌≡◌, ◌++◌, flat_map, take}
use Rattle.ig_space.specs.declared.geometry.Width.TheVariants.{W32}
use Rattle.ig_space.specs.Raw.{raw_text}
use Rattle.ig_cseg.specs.CsegText.{label_words}
use Rattle.ig_cseg.proofs.parts.append_table.Given as goal

abbrev pub invariant-loop-label : goal.invariant-loop-label
invariant-loop-label g l = l.text.items ≡ l.fn.text.items ++ raw_text W32 (flat_map (label_words g.row.N) (take l.label-index l.table))
