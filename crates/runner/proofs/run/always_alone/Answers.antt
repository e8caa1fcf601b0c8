use Rattle.runner.proofs.Whole.{alone}
use Rattle.runner.proofs.run.always_alone.Goals as goal

pub returns : goal.returns
returns c = λ allows initial seats past now few reached. alone allows initial seats few reached
