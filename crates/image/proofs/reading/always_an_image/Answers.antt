use Rattle.image.proofs.ReadBack.{writes_images}
use Rattle.image.proofs.reading.always_an_image.Goals as goal

pub returns : goal.returns
returns c = writes_images
