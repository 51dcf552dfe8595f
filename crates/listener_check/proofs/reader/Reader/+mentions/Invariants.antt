use Rattle.std.proofs.Common.{◌≡◌, drop}
use Rattle.listener_check.specs.Bound.{is_own}
use Rattle.listener_check.specs.Names.{some_mention, some_link_mentions, some_suffix_mentions, some_entry_mentions}
use Rattle.listener_check.proofs.reader.Reader.+mentions.Given as goal

abbrev pub invariant-any_mentions-loop-tree : goal.invariant-any_mentions-loop-tree
invariant-any_mentions-loop-tree l = let own = is_own l.self.scope.now l.self.inner.now in some_mention own l.trees ≡ some_mention own (drop l.tree-index l.trees)

abbrev pub invariant-any_link_mentions-loop-link : goal.invariant-any_link_mentions-loop-link
invariant-any_link_mentions-loop-link l = let own = is_own l.self.scope.now l.self.inner.now in some_link_mentions own l.links ≡ some_link_mentions own (drop l.link-index l.links)

abbrev pub invariant-any_suffix_mentions-loop-suffix : goal.invariant-any_suffix_mentions-loop-suffix
invariant-any_suffix_mentions-loop-suffix l = let own = is_own l.self.scope.now l.self.inner.now in some_suffix_mentions own l.suffixes ≡ some_suffix_mentions own (drop l.suffix-index l.suffixes)

abbrev pub invariant-any_entry_mentions-loop-entry : goal.invariant-any_entry_mentions-loop-entry
invariant-any_entry_mentions-loop-entry l = let own = is_own l.self.scope.now l.self.inner.now in some_entry_mentions own l.entries ≡ some_entry_mentions own (drop l.entry-index l.entries)
