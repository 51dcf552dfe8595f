use Rattle.std.proofs.Common.{sym}
use Rattle.outside.proofs.Places.{found-at}
use Rattle.outside.proofs.store.place_of.Goals as goal

pub returns-then-eq-clause-file : goal.returns-then-eq-clause-file
returns-then-eq-clause-file c = rw c.files.invariant.place (found-at c.args.files.now c.args.name.now c.files.file-index c.file-item.result c.files-test.true c.file-item.is c.files.invariant.rest (sym (rw c.as_str.ensures at c.if-eq.ensures)))
