use Rattle.std.proofs.Common.{◌≡◌, drop, map}
use Rattle.built_forms.specs.Rows.{joined, behind}
use Rattle.built_forms.specs.Expressions.{missing_in, missing_in_suffix, missing_in_link, missing_in_entry}
use Rattle.built_forms.proofs.expressions.+expressions.Given as goal

abbrev pub invariant-next_exprs-trees : goal.invariant-next_exprs-trees
invariant-next_exprs-trees l = behind l.found (joined (map missing_in (drop l.tree-index l.trees))) ≡ behind l.fn.before (joined (map missing_in l.trees))

abbrev pub invariant-next_links-links : goal.invariant-next_links-links
invariant-next_links-links l = behind l.found (joined (map missing_in_link (drop l.link-index l.links))) ≡ behind l.fn.before (joined (map missing_in_link l.links))

abbrev pub invariant-next_entries-entries : goal.invariant-next_entries-entries
invariant-next_entries-entries l = behind l.found (joined (map missing_in_entry (drop l.entry-index l.entries))) ≡ behind l.fn.before (joined (map missing_in_entry l.entries))

abbrev pub invariant-next_suffixes-suffixes : goal.invariant-next_suffixes-suffixes
invariant-next_suffixes-suffixes l = behind l.found (joined (map missing_in_suffix (drop l.suffix-index l.suffixes))) ≡ behind l.fn.before (joined (map missing_in_suffix l.suffixes))
