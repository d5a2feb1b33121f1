use Rattle.number.proofs.NumberLaws.{odd_some, groups_at}
use Rattle.number.proofs.packed_len.Goals as goal

pub ilog2-requires : goal.ilog2-requires
ilog2-requires c = odd_some _

pub returns-clause-bound : goal.returns-clause-bound
returns-clause-bound c =
    let log = c.ilog2.ensures in
    (groups_at _ _ log.bound log.power_le log.next_power_gt).1
