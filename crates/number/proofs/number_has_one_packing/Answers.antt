use Rattle.number.proofs.NumberLaws.{number_one_packing}
use Rattle.number.proofs.number_has_one_packing.Goals as goal

pub returns : goal.returns
returns c = number_one_packing
