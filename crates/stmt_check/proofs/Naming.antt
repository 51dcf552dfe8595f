-- What a statement names, as it is read, is what it names.
use Rattle.std.proofs.Common.{◌≡◌, List, [], ◌∷◌, map, Some, None, refl, sym, ap, ap₂, subst, ◌∙◌}
use Rattle.epl_tree.specs.declared.statement.Stmt.{Stmt, Stmt-F, map-Stmt, roll-Stmt, fold-roll-Stmt, ind-Stmt}
use Rattle.epl_tree.specs.declared.statement.StmtNode.{StmtNode, StmtNode-F, map-StmtNode, roll-StmtNode, fold-StmtNode, fold-roll-StmtNode}
use Rattle.epl_tree.specs.declared.statement.StmtNode.TheOpen as open_
use Rattle.epl_tree.specs.declared.statement.Listening.{Listening, Listening-F, map-Listening, roll-Listening, fold-roll-Listening}
use Rattle.stmt_check.specs.Captures.{Names, stmt_node, listening_step, stmt_step, stmt_names, listening_names}
use Rattle.stmt_check.specs.Statements.{Part, NodePart, OnPart, part_of, on_part_of, node_part, on_part, stmt_part}

abbrev node_part_of : StmtNode → NodePart
node_part_of = fold-StmtNode NodePart OnPart Part node_part on_part stmt_part

abbrev node_names_of : StmtNode → Names
node_names_of = fold-StmtNode Names Names Names stmt_node listening_step stmt_step

abbrev NodeNames : StmtNode → Type 0
NodeNames n = (node_part_of n).names ≡ node_names_of n

abbrev OnNames : Listening → Type 0
OnNames l = (on_part_of l).names ≡ listening_names l

abbrev StmtNames : Stmt → Type 0
StmtNames t = (part_of t).names ≡ stmt_names t

abbrev Node : Type 0
Node = (n : StmtNode) × NodeNames n

abbrev On : Type 0
On = (l : Listening) × OnNames l

abbrev Stated : Type 0
Stated = (t : Stmt) × StmtNames t

abbrev trees : StmtNode-F Node On Stated → StmtNode-F StmtNode Listening Stmt
trees y = map-StmtNode Node On Stated StmtNode Listening Stmt (λ e. e.0) (λ e. e.0) (λ e. e.0) y

abbrev by_parts : StmtNode-F StmtNode Listening Stmt → StmtNode-F Names Names Names
by_parts x = map-StmtNode NodePart OnPart Part Names Names Names (λ p. p.names) (λ p. p.names) (λ p. p.names) (map-StmtNode StmtNode Listening Stmt NodePart OnPart Part node_part_of on_part_of part_of x)

abbrev by_names : StmtNode-F StmtNode Listening Stmt → StmtNode-F Names Names Names
by_names x = map-StmtNode StmtNode Listening Stmt Names Names Names node_names_of listening_names stmt_names x

rows_same : (xs : List Stated) → map (λ p. p.names) (map part_of (map (λ e. e.0) xs)) ≡ map stmt_names (map (λ e. e.0) xs)
rows_same [] = refl
rows_same (e ∷ xs) = ap₂ (λ a b. a ∷ b) e.1 (rows_same xs)

node_same : (y : StmtNode-F Node On Stated) → by_parts (trees y) ≡ by_names (trees y)
node_same (open_.Block xs) = ap open_.Block (rows_same xs)
node_same (open_.On l) = ap open_.On l.1
node_same (open_.Declare w n) = refl
node_same (open_.DeclareAs w n e) = refl
node_same (open_.DeclareOn w n l) = ap (open_.DeclareOn w n) l.1
node_same (open_.Assign p e) = refl
node_same (open_.AssignOn p l) = ap (open_.AssignOn p) l.1
node_same (open_.If e a None) = ap (λ x. open_.If e x None) a.1
node_same (open_.If e a (Some b)) = ap₂ (λ x y. open_.If e x (Some y)) a.1 b.1
node_same (open_.While e xs) = ap (open_.While e) (rows_same xs)
node_same (open_.For n e xs) = ap (open_.For n e) (rows_same xs)
node_same open_.Break = refl
node_same open_.Continue = refl
node_same (open_.Return e) = refl
node_same open_.Die = refl
node_same (open_.Print e) = refl
node_same (open_.Log e l) = refl
node_same (open_.Route e) = refl
node_same (open_.Send e f) = refl
node_same (open_.Spawn n es to) = refl
node_same (open_.Monitor n es) = refl
node_same (open_.Call e) = refl

node_case : (x : StmtNode-F StmtNode Listening Stmt) (y : StmtNode-F Node On Stated) → trees y ≡ x → NodeNames (roll-StmtNode x)
unfolding part_of on_part_of
node_case x y is =
    ap (λ p. p.names) (fold-roll-StmtNode NodePart OnPart Part node_part on_part stmt_part x)
    ∙ ap stmt_node (subst (λ z. by_parts z ≡ by_names z) is (node_same y))
    ∙ sym (fold-roll-StmtNode Names Names Names stmt_node listening_step stmt_step x)

abbrev on_trees : Listening-F Node On Stated → Listening-F StmtNode Listening Stmt
on_trees y = map-Listening Node On Stated StmtNode Listening Stmt (λ e. e.0) (λ e. e.0) (λ e. e.0) y

abbrev on_by_parts : Listening-F StmtNode Listening Stmt → Listening-F Names Names Names
on_by_parts x = map-Listening NodePart OnPart Part Names Names Names (λ p. p.names) (λ p. p.names) (λ p. p.names) (map-Listening StmtNode Listening Stmt NodePart OnPart Part node_part_of on_part_of part_of x)

abbrev on_by_names : Listening-F StmtNode Listening Stmt → Listening-F Names Names Names
on_by_names x = map-Listening StmtNode Listening Stmt Names Names Names node_names_of listening_names stmt_names x

on_same : (y : Listening-F Node On Stated) → on_by_parts (on_trees y) ≡ on_by_names (on_trees y)
on_same y = ap (λ c. record { spot = y.spot; event = y.event; callback = c }) y.callback.1

on_case : (x : Listening-F StmtNode Listening Stmt) (y : Listening-F Node On Stated) → on_trees y ≡ x → OnNames (roll-Listening x)
unfolding part_of on_part_of
on_case x y is =
    ap (λ p. p.names) (fold-roll-Listening NodePart OnPart Part node_part on_part stmt_part x)
    ∙ ap listening_step (subst (λ z. on_by_parts z ≡ on_by_names z) is (on_same y))
    ∙ sym (fold-roll-Listening Names Names Names stmt_node listening_step stmt_step x)

abbrev stmt_trees : Stmt-F Node On Stated → Stmt-F StmtNode Listening Stmt
stmt_trees y = map-Stmt Node On Stated StmtNode Listening Stmt (λ e. e.0) (λ e. e.0) (λ e. e.0) y

stmt_case : (x : Stmt-F StmtNode Listening Stmt) (y : Stmt-F Node On Stated) → stmt_trees y ≡ x → StmtNames (roll-Stmt x)
unfolding part_of on_part_of
stmt_case x y is =
    ap (λ p. p.names) (fold-roll-Stmt NodePart OnPart Part node_part on_part stmt_part x)
    ∙ subst (λ z. (node_part_of z.node).names ≡ node_names_of z.node) is y.node.1
    ∙ sym (fold-roll-Stmt Names Names Names stmt_node listening_step stmt_step x)

pub names-part : (t : Stmt) → (part_of t).names ≡ stmt_names t
names-part = ind-Stmt NodeNames OnNames StmtNames node_case on_case stmt_case
