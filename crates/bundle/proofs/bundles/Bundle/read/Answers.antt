use Rattle.std.proofs.Common.{arith}
use Rattle.bundle.specs.Bundles.{contents, bundle_of, header_of}
use Rattle.bundle.proofs.OneList.{accepted_has_one_list}
use Rattle.bundle.proofs.bundles.Bundle.read.Goals as goal

pub returns-clause-one_list : goal.returns-clause-one_list
unfolding bundle_of header_of
returns-clause-one_list c = accepted_has_one_list c.args.bytes.now (contents c.in_ok-bundle.bundle) (λ i. omega (arith, c.type_inv.bytes i)) (grind arith)
