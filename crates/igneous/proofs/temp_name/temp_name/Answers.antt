use Rattle.std.proofs.Common.{rules}
use Rattle.igneous.proofs.Temps.{temp_text-is_path}
use Rattle.igneous.proofs.temp_name.temp_name.Goals as goal

pub returns-clause-apart : goal.returns-clause-apart
returns-clause-apart c = temp_text-is_path c.from_string.result c.args.id.now (search rules)
