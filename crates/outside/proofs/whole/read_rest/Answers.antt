use Rattle.std.proofs.Common.{rules, refl}
use Rattle.outside.proofs.Reading.{reading-init, reading-beyond}
use Rattle.outside.proofs.whole.read_rest.Goals as goal

pub pieces-init : goal.pieces-init
pieces-init g c = record {
  within = search rules;
  reading = reading-init _ _ c.new-bytes.ensures;
  faults = refl;
  missed = refl;
}

pub returns-then-count-most-clause-leaves : goal.returns-then-count-most-clause-leaves
returns-then-count-most-clause-leaves g c = reading-beyond _ _ _ _ c.in-Bytes.count c.args.most c.pieces.invariant.reading c.in-Bytes.ensures.leaves (search rules)
