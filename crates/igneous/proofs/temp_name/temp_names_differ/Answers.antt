use Rattle.igneous.proofs.Temps.{temp_text-same}
use Rattle.igneous.proofs.temp_name.temp_names_differ.Goals as goal

pub returns : goal.returns
returns c = temp_text-same
