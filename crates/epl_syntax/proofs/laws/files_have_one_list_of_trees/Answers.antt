use Rattle.epl_syntax.specs.Trees.{IsUnread, IsUnparsed}
use Rattle.epl_syntax.proofs.Faults.{one_trees, none_without}
use Rattle.epl_syntax.proofs.laws.files_have_one_list_of_trees.Goals as goal

pub returns-clause-only : goal.returns-clause-only
returns-clause-only c = one_trees

pub returns-clause-unread : goal.returns-clause-unread
returns-clause-unread c texts trees file spot k f = none_without texts file (λ bytes. IsUnread bytes spot) trees f k

pub returns-clause-unparsed : goal.returns-clause-unparsed
returns-clause-unparsed c texts trees file spot k f = none_without texts file (λ bytes. IsUnparsed bytes spot) trees f k
