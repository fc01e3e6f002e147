-- What is to stand at paths.
use Rattle.std.specs.Prelude.{Some}
use Rattle.ig_defs.specs.Own.{File}
use Rattle.ig_cutout.specs.declared.types.Output.{Output}

-- the output that puts this file
abbrev pub output_of : File → Output
output_of file = record { path = file.path; text = Some file.bytes }
