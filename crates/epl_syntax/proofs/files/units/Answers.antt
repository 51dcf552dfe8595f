use Rattle.std.proofs.Common.{List, ◌+◌, take, sym, subst}
use Rattle.epl_tree.specs.declared.unit.Unit.{Unit as Tree}
use Rattle.epl_syntax.specs.Trees.{AreOnlyTrees}
use Rattle.epl_syntax.proofs.Trees.{file_there, files_step, files_stop, trees_err, few_trees}
use Rattle.epl_syntax.proofs.files.units.Goals as goal

pub returns-in_err-trees-clause-told : goal.returns-in_err-trees-clause-told
returns-in_err-trees-clause-told c = trees_err c.args.texts.now _ _ c.from_residual.ensures.1
    (files_stop c.args.texts.now c.files.place _
    (file_there _ _ _ (rw c.as_slice-bytes-items.ensures at c.files-test.true) (rw c.as_slice-bytes-items.ensures at c.bytes-item.is))
    c.files.trees c.files.invariant _ c.in_err-trees.ensures)

pub files-preserved : goal.files-preserved
files-preserved c =
    let more = c.in_ok-trees.ensures in
    subst (λ (us : List Tree). AreOnlyTrees (take (c.files.place + 1) c.args.texts.now) us) (sym more.1)
    (files_step c.args.texts.now c.files.place _
    (file_there _ _ _ (rw c.as_slice-bytes-items.ensures at c.files-test.true) (rw c.as_slice-bytes-items.ensures at c.bytes-item.is))
    c.files.trees c.files.invariant more.0 more.2)

pub returns-clause-few : goal.returns-clause-few
returns-clause-few c = few_trees c.args.texts.now c.files.place c.files.trees (rw c.as_slice-bytes-items.ensures at c.files-test.false) c.files.invariant c.requires.few
