use Rattle.ig_stage.proofs.OutputPuts.{puts_output}
use Rattle.ig_stage.proofs.running.put_output.Goals as goal

pub returns-in-Some-clause-did : goal.returns-in-Some-clause-did
returns-in-Some-clause-did g c = λ tells.
    puts_output c.args.output.now c.in-Some.text _ _ c.put_file.result c.in-Some.is (c.put_file.ensures.did tells)
