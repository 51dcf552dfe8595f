use Rattle.std.proofs.Common.{◌≡◌, true, rules}
use Rattle.listener_check.specs.Terms.{part_of, each_step, behind_step, followed_read, or_read, xor_read, and_read, joined_behind, followed_behind, all_read, not_read, group_read}
use Rattle.listener_check.proofs.Forms.{goes-as, part-followed, part-or, part-xor, part-and}
use Rattle.listener_check.proofs.Going.{on-part, refuses-on, goes-on, goes-err, goes-fail, behind-sound, told-unless, shown_next, shown_stop, shown_end}
use Rattle.listener_check.proofs.reader.Reader.+read.Goals as goal

pub read-returns-in_ok-head-in-Followed : goal.read-returns-in_ok-head-in-Followed
unfolding followed_read
read-returns-in_ok-head-in-Followed t c = goes-as _ _ _ _ _ _ _ _ (part-followed c.args.self.now.table.now c.args.self.now.scope.now c.args.self.now.inner.now c.args.tree.now c.in-Followed.first c.in-Followed.rest c.in-Followed.is) (goes-on _ _ _ _ _ _ (rw c.get.ensures at c.in_ok-head-in-Followed.ensures) (rw c.len-start.ensures.count at c.read_followed.ensures))

pub read-returns-in_err-head-in-Followed : goal.read-returns-in_err-head-in-Followed
unfolding followed_read
read-returns-in_err-head-in-Followed t c = goes-as _ _ _ _ _ _ _ _ (part-followed c.args.self.now.table.now c.args.self.now.scope.now c.args.self.now.inner.now c.args.tree.now c.in-Followed.first c.in-Followed.rest c.in-Followed.is) (goes-fail _ _ _ _ _ c.from_residual.ensures.1 (rw c.get.ensures at c.in_err-head-in-Followed.ensures))

pub read-returns-in_ok-head-in-Or : goal.read-returns-in_ok-head-in-Or
unfolding or_read
read-returns-in_ok-head-in-Or t c = goes-as _ _ _ _ _ _ _ _ (part-or c.args.self.now.table.now c.args.self.now.scope.now c.args.self.now.inner.now c.args.tree.now c.in-Or.first c.in-Or.rest c.in-Or.is) (goes-on _ _ _ _ _ _ (rw c.get-in-Or.ensures at c.in_ok-head-in-Or.ensures) c.read_joined.ensures)

pub read-returns-in_err-head-in-Or : goal.read-returns-in_err-head-in-Or
unfolding or_read
read-returns-in_err-head-in-Or t c = goes-as _ _ _ _ _ _ _ _ (part-or c.args.self.now.table.now c.args.self.now.scope.now c.args.self.now.inner.now c.args.tree.now c.in-Or.first c.in-Or.rest c.in-Or.is) (goes-fail _ _ _ _ _ c.from_residual-in_err-head-in-Or.ensures.1 (rw c.get-in-Or.ensures at c.in_err-head-in-Or.ensures))

pub read-returns-in_ok-head-in-Xor : goal.read-returns-in_ok-head-in-Xor
unfolding xor_read
read-returns-in_ok-head-in-Xor t c = goes-as _ _ _ _ _ _ _ _ (part-xor c.args.self.now.table.now c.args.self.now.scope.now c.args.self.now.inner.now c.args.tree.now c.in-Xor.first c.in-Xor.rest c.in-Xor.is) (goes-on _ _ _ _ _ _ (rw c.get-in-Xor.ensures at c.in_ok-head-in-Xor.ensures) c.read_joined-in-Xor.ensures)

pub read-returns-in_err-head-in-Xor : goal.read-returns-in_err-head-in-Xor
unfolding xor_read
read-returns-in_err-head-in-Xor t c = goes-as _ _ _ _ _ _ _ _ (part-xor c.args.self.now.table.now c.args.self.now.scope.now c.args.self.now.inner.now c.args.tree.now c.in-Xor.first c.in-Xor.rest c.in-Xor.is) (goes-fail _ _ _ _ _ c.from_residual-in_err-head-in-Xor.ensures.1 (rw c.get-in-Xor.ensures at c.in_err-head-in-Xor.ensures))

pub read-returns-in_ok-head-in-And : goal.read-returns-in_ok-head-in-And
unfolding and_read
read-returns-in_ok-head-in-And t c = goes-as _ _ _ _ _ _ _ _ (part-and c.args.self.now.table.now c.args.self.now.scope.now c.args.self.now.inner.now c.args.tree.now c.in-And.first c.in-And.rest c.in-And.is) (goes-on _ _ _ _ _ _ (rw (c.get-in-And.ensures, c.may_begin.ensures) at c.in_ok-head-in-And.ensures) c.read_joined-in-And.ensures)

pub read-returns-in_err-head-in-And : goal.read-returns-in_err-head-in-And
unfolding and_read
read-returns-in_err-head-in-And t c = goes-as _ _ _ _ _ _ _ _ (part-and c.args.self.now.table.now c.args.self.now.scope.now c.args.self.now.inner.now c.args.tree.now c.in-And.first c.in-And.rest c.in-And.is) (goes-fail _ _ _ _ _ c.from_residual-in_err-head-in-And.ensures.1 (rw (c.get-in-And.ensures, c.may_begin.ensures) at c.in_err-head-in-And.ensures))

pub read_not-returns : goal.read_not-returns
unfolding not_read
read_not-returns t c =
    let may : c.args.may ≡ true = search rules in
    behind-sound _ _ _ _ (told-unless _ _ _ may) (on-part _ _ _ _ c.in_ok-inner.ensures)

pub read_followed-returns : goal.read_followed-returns
unfolding followed_behind
read_followed-returns t c = on-part _ _ _ _ c.in_ok-tail.ensures

pub read_joined-returns : goal.read_joined-returns
unfolding joined_behind
read_joined-returns t c = rw c.joined.ensures (on-part _ _ _ _ (rw c.is_and.ensures at c.in_ok-tail.ensures))

pub read_all-returns : goal.read_all-returns
unfolding all_read
read_all-returns t c = on-part _ _ _ _ c.in_ok-inner.ensures

pub read_group-returns : goal.read_group-returns
unfolding group_read
read_group-returns t c = goes-on _ _ _ _ _ _ c.in_ok-count_deadline.ensures (goes-on _ _ _ _ _ _ c.in_ok-inner.ensures c.ended.ensures)

pub read_group-returns-in_err-inner : goal.read_group-returns-in_err-inner
unfolding group_read
read_group-returns-in_err-inner t c = goes-on _ _ _ _ _ _ c.in_ok-count_deadline.ensures (goes-fail _ _ _ _ _ c.from_residual-in_err-inner.ensures.1 c.in_err-inner.ensures)

pub read_each-loop-tree-preserved : goal.read_each-loop-tree-preserved
read_each-loop-tree-preserved t c =
    rw c.in_ok-push.ensures.ok
    (shown_next (each_step c.args.may c.args.under c.args.left.now) (part_of c.args.self.now.table.now c.args.self.now.scope.now c.args.self.now.inner.now) _ _ _ _ _ _ _ _ _ c.as_slice-tree-items.ensures c.loop-tree-test.true c.tree-item.is c.loop-tree.invariant (on-part _ _ _ _ c.in_ok-term.ensures))

pub read_each-returns-in_err-term : goal.read_each-returns-in_err-term
read_each-returns-in_err-term t c =
    goes-err _ _ _ _ c.from_residual.ensures.1
    (shown_stop (each_step c.args.may c.args.under c.args.left.now) (part_of c.args.self.now.table.now c.args.self.now.scope.now c.args.self.now.inner.now) _ _ _ _ _ _ _ _ c.as_slice-tree-items.ensures c.loop-tree-test.true c.tree-item.is c.loop-tree.invariant (refuses-on _ _ _ c.in_err-term.ensures))

pub read_each-returns : goal.read_each-returns
read_each-returns t c = shown_end (each_step c.args.may c.args.under c.args.left.now) (part_of c.args.self.now.table.now c.args.self.now.scope.now c.args.self.now.inner.now) _ _ _ _ _ _ c.as_slice-tree-items.ensures c.loop-tree-test.false c.loop-tree.invariant

pub read_behind-loop-tree-preserved : goal.read_behind-loop-tree-preserved
read_behind-loop-tree-preserved t c =
    rw c.in_ok-push.ensures.ok
    (shown_next (behind_step c.args.start c.args.under c.args.left.now) (part_of c.args.self.now.table.now c.args.self.now.scope.now c.args.self.now.inner.now) _ _ _ _ _ _ _ _ _ c.as_slice-tree-items.ensures c.loop-tree-test.true c.tree-item.is c.loop-tree.invariant (on-part _ _ _ _ (rw c.in_ok-left.ensures at c.in_ok-term.ensures)))

pub read_behind-returns-in_err-term : goal.read_behind-returns-in_err-term
read_behind-returns-in_err-term t c =
    goes-err _ _ _ _ c.from_residual-in_err-term.ensures.1
    (shown_stop (behind_step c.args.start c.args.under c.args.left.now) (part_of c.args.self.now.table.now c.args.self.now.scope.now c.args.self.now.inner.now) _ _ _ _ _ _ _ _ c.as_slice-tree-items.ensures c.loop-tree-test.true c.tree-item.is c.loop-tree.invariant (refuses-on _ _ _ (rw c.in_ok-left.ensures at c.in_err-term.ensures)))

pub read_behind-returns : goal.read_behind-returns
read_behind-returns t c = shown_end (behind_step c.args.start c.args.under c.args.left.now) (part_of c.args.self.now.table.now c.args.self.now.scope.now c.args.self.now.inner.now) _ _ _ _ _ _ c.as_slice-tree-items.ensures c.loop-tree-test.false c.loop-tree.invariant
