use Rattle.runner.proofs.Holders.{sound_state}
use Rattle.runner.proofs.run.always_sound.Goals as goal

pub returns : goal.returns
returns c = λ allows initial seats past now readable writable reached. sound_state allows initial seats readable.entries_most writable reached
