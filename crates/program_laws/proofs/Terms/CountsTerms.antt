-- The counts of every event expression: names in order, at most 64 leaves, at most 192 operands.
use Rattle.std.proofs.Common.{◌≡◌, ◌+◌, ◌≤◌, ◌∷◌, ◌++◌}
use Rattle.program_laws.proofs.Common.{ℕ, Bool, true, false, List, [], map, length, Option, Some, None, refl, sym, ap, subst, ◌∙◌, arith, length-map, append-nil, Spot, EventShape, Duration, Template, EventExpr, EventExpr-F, map-EventExpr, roll-EventExpr, fold-roll-EventExpr, EventNode, EventNode-F, map-EventNode, roll-EventNode, fold-EventNode, fold-roll-EventNode, ind-EventExpr, Term, Names, count_up, Scope, Table, told, event_of, Sofar, local_of, template_read, not_codes, each_behind, may_begin, term_found, nothing_yet, went, event_names, KnowsTable, KnowsNamed}
use Rattle.epl_tree.specs.declared.event.EventNode.TheOpen as node
use Rattle.typed_program.specs.declared.term.Term.TheVariants as term
use Rattle.typed_program.specs.declared.term.Term.TheOpen as layer
use Rattle.typed_program.specs.TermRules.{part_of}
use Rattle.listener_check.specs.Durations.{duration_read}
use Rattle.listener_check.specs.Limits.{leaf_read}
use Rattle.listener_check.specs.Terms.{Part, each, followed_behind, followed_read, joined_behind, or_read, xor_read, and_read, not_read, all_read, deadline_read, plain, negated, wait_read, ended_read, group_read, leaf_template_read, node_step, expr_step}
use Rattle.listener_check.specs.Terms as reading
use Rattle.listener_check.specs.Went.{◌>>=◌}
use Rattle.program_laws.proofs.Terms.Thus.{Thus, thus_went, thus_then, thus_behind}
use Rattle.program_laws.proofs.Terms.Counted.{Used, duration_used}
use Rattle.program_laws.proofs.Terms.CountsRead.{Counts, counts_none, counts_on, counts_as, used_counts, leaf_counts, OfTemplate, typed_count, ruled, CountsTerm, made_counts, total_is, PartCounts, each_count, each_behind_count, Together, together, chain_counts}
use Rattle.program_laws.proofs.Terms.Settling as settling
use Rattle.program_laws.proofs.Terms.Settling.{bound_numbered}

add_none : (n : ℕ) → n + 0 ≡ n
add_none n = omega arith

module _ (table : Table) (scope inner : Scope) (types : List EventShape) where
  followed_together : Together table scope inner types term.Followed
  followed_together = together table scope inner types term.Followed layer.Followed term.rolls-Followed (λ head tail. (refl, refl, refl))

  or_together : Together table scope inner types term.Or
  or_together = together table scope inner types term.Or layer.Or term.rolls-Or (λ head tail. (refl, refl, refl))

  xor_together : Together table scope inner types term.Xor
  xor_together = together table scope inner types term.Xor layer.Xor term.rolls-Xor (λ head tail. (refl, refl, refl))

  and_together : Together table scope inner types term.And
  and_together = together table scope inner types term.And layer.And term.rolls-And (λ head tail. (refl, refl, refl))

  abbrev OfTerm : Sofar → Term → Sofar → Type 0
  OfTerm s t u = CountsTerm table scope inner types s t u

  abbrev ForExpr : EventExpr → Type 0
  ForExpr e = PartCounts table scope inner types (reading.part_of table scope inner e)

  abbrev X : Type 0
  X = (e : EventExpr) × ForExpr e

  abbrev trees : List X → List EventExpr
  trees ys = map (λ e. e.0) ys

  abbrev parts : List X → List Part
  parts ys = map (reading.part_of table scope inner) (trees ys)

  abbrev part : X → Part
  part x = reading.part_of table scope inner x.0

  chained_counts : (made : Term → List Term → Term) → Together table scope inner types made → (may_first may_rest : Bool) (first : X) (ys : List X) (under : Bool) (left : List (List ℕ)) (s : Sofar) → Thus (OfTerm s) ((part first).reading may_first under left s >>= λ head u. (each may_rest under left (parts ys) u >>= λ tail v. went (made head tail) v))
  chained_counts made so may_first may_rest first ys under left s =
      thus_then (OfTerm s) (OfTerm s) ((part first).reading may_first under left s) (λ head u. (each may_rest under left (parts ys) u >>= λ tail v. went (made head tail) v))
      (let r = first.1 in r.counts may_first under left s)
      (λ head u m. chain_counts table scope inner types made so head s u (each may_rest under left (parts ys) u) m (each_count table scope inner types may_rest under left ys u))

  followed_counts : (first : X) (ys : List X) (under : Bool) (left : List (List ℕ)) (s : Sofar) → Thus (OfTerm s) (followed_read (part first) (parts ys) under left s)
  unfolding followed_read followed_behind
  followed_counts first ys under left s =
      thus_then (OfTerm s) (OfTerm s) ((part first).reading false under left s) (λ head u. followed_behind (length s.names) head (parts ys) under left u)
      (let r = first.1 in r.counts false under left s)
      (λ head u m. chain_counts table scope inner types term.Followed followed_together head s u (each_behind (length s.names) under left (parts ys) u) m (each_behind_count table scope inner types (length s.names) under left ys u))

  -- ---- parts of one

  all_counts : (s u : Sofar) (t : Term) → OfTerm s t u → OfTerm s (term.All t) u
  all_counts s u t c =
      let q = ruled table scope inner types t in
      let l = total_is table scope inner types (λ r. r.leaves) (q ∷ []) in
      let o = total_is table scope inner types (λ r. r.operands) (q ∷ []) in
      made_counts table scope inner types s u (layer.All t) (term.All t) (term.rolls-All t) (counts_as s u q.binds (q.binds ++ []) q.leaves _ q.operands _ (sym (append-nil q.binds)) (sym (add_none q.leaves) ∙ l) (sym (add_none q.operands) ∙ o) c)

  not_counts : (s u : Sofar) (t : Term) → OfTerm s t u → OfTerm s (term.Not t) u
  not_counts s u t c = made_counts table scope inner types s u (layer.Not t) (term.Not t) (term.rolls-Not t) c

  one_counts : (made : Term → Term) → ((s u : Sofar) (t : Term) → OfTerm s t u → OfTerm s (made t) u) → (x : X) (under : Bool) (left : List (List ℕ)) (s : Sofar) → Thus (OfTerm s) ((part x).reading false under left s >>= λ t u. went (made t) u)
  one_counts made keeps x under left s = thus_then (OfTerm s) (OfTerm s) ((part x).reading false under left s) (λ t u. went (made t) u) (let r = x.1 in r.counts false under left s) (λ t u m. thus_went (OfTerm s) (made t) u (keeps s u t m))

  all_part : (x : X) → PartCounts table scope inner types (plain (all_read (part x)))
  unfolding all_read
  all_part x = record { counts = λ may under left s. one_counts term.All all_counts x under left s }

  not_part : (spot : Spot) (x : X) → PartCounts table scope inner types (negated spot (part x))
  unfolding not_read
  not_part spot x = record { counts = λ may under left s. thus_behind (OfTerm s) (told spot (not_codes may)) ((part x).reading false true left s >>= λ t u. went (term.Not t) u) (λ none. one_counts term.Not not_counts x true left s) }

  -- the deadline of a group is a leaf and a duration
  abbrev deadlines : Option Duration → ℕ
  deadlines None = 0
  deadlines (Some d) = 1

  deadline_counts : (spot : Spot) (within : Option Duration) (s : Sofar) → Thus (λ u t. Counts s [] (deadlines within) 0 t) (deadline_read spot within s)
  unfolding deadline_read
  deadline_counts spot (Some d) s = leaf_counts spot s
  deadline_counts spot None s = thus_went (λ u t. Counts s [] 0 0 t) tt s (counts_none s)

  ended_counts : (within : Option Duration) (t : Term) (start s u : Sofar) → Counts start [] (deadlines within) 0 s → OfTerm s t u → Thus (OfTerm start) (ended_read table scope inner t within u)
  unfolding ended_read
  ended_counts None t start s u d c =
      let q = ruled table scope inner types t in
      thus_went (OfTerm start) (term.Group t None) u (made_counts table scope inner types start u (layer.Group t None) (term.Group t None) (term.rolls-Group t None)
      (counts_on start s u [] q.binds 0 q.leaves 0 q.operands d c))
  ended_counts (Some w) t start s u d c =
      let q = ruled table scope inner types t in
      thus_then (λ at v. Used 1 u v) (OfTerm start) (duration_read table scope inner w u) (λ at v. went (term.Group t (Some at)) v) (duration_used table scope inner w u)
      (λ at v used. thus_went (OfTerm start) (term.Group t (Some at)) v (made_counts table scope inner types start v (layer.Group t (Some at)) (term.Group t (Some at)) (term.rolls-Group t (Some at))
      (counts_as start v (([] ++ q.binds) ++ []) q.binds ((1 + q.leaves) + 0) (1 + q.leaves) ((0 + q.operands) + 1) (1 + q.operands) (append-nil q.binds) (omega arith) (omega arith)
      (counts_on start u v ([] ++ q.binds) [] (1 + q.leaves) 0 (0 + q.operands) 1 (counts_on start s u [] q.binds 1 q.leaves 0 q.operands d c) (used_counts 1 u v used)))))

  group_part : (spot : Spot) (x : X) (within : Option Duration) → PartCounts table scope inner types (plain (group_read table scope inner spot (part x) within))
  unfolding group_read
  group_part spot x within = record {
    counts = λ may under left s.
        thus_then (λ u t. Counts s [] (deadlines within) 0 t) (OfTerm s) (deadline_read spot within s) (λ u t. (part x).reading false under left t >>= λ y v. ended_read table scope inner y within v) (deadline_counts spot within s)
        (λ u t d. thus_then (OfTerm t) (OfTerm s) ((part x).reading false under left t) (λ y v. ended_read table scope inner y within v) (let r = x.1 in r.counts false under left t)
        (λ y v m. ended_counts within y s t v d m));
  }

  -- ---- leaves

  wait_part : (spot : Spot) (d : Duration) → PartCounts table scope inner types (plain (λ under left s. wait_read table scope inner spot d s))
  unfolding wait_read
  wait_part spot d = record {
    counts = λ may under left s.
        thus_then (λ u t. Counts s [] 1 0 t) (OfTerm s) (leaf_read spot s) (λ u t. duration_read table scope inner d t >>= λ at v. went (term.Wait at) v) (leaf_counts spot s)
        (λ u t l. thus_then (λ at v. Used 1 t v) (OfTerm s) (duration_read table scope inner d t) (λ at v. went (term.Wait at) v) (duration_used table scope inner d t)
        (λ at v used. thus_went (OfTerm s) (term.Wait at) v (made_counts table scope inner types s v (layer.Wait at) (term.Wait at) (term.rolls-Wait at)
        (counts_on s t v [] [] 1 0 0 1 l (used_counts 1 t v used)))));
  }

  template_part : (spot : Spot) (t : Template) → PartCounts table scope inner types (plain (λ under left s. leaf_template_read table scope inner spot under left t s))
  unfolding leaf_template_read
  template_part spot t = record {
    counts = λ may under left s.
        thus_then (OfTemplate table scope inner s) (OfTerm s) (template_read table scope inner spot under left t s) (λ x u. went (term.Template x) u) (typed_count table scope inner (event_of table t.event) spot under left t s)
        (λ x u m. thus_went (OfTerm s) (term.Template x) u (made_counts table scope inner types s u (layer.Template x) (term.Template x) (term.rolls-Template x) m));
  }

  -- ---- every event expression

  abbrev node_of : EventNode → Spot → Part
  node_of = fold-EventNode (Spot → Part) Part (node_step table scope inner) (expr_step table scope inner)

  record ForNode (n : EventNode) : Type 0 where
    at_spot : (spot : Spot) → PartCounts table scope inner types (node_of n spot)

  abbrev N : Type 0
  N = (n : EventNode) × ForNode n

  abbrev node_trees : EventNode-F N X → EventNode-F EventNode EventExpr
  node_trees y = map-EventNode N X EventNode EventExpr (λ e. e.0) (λ e. e.0) y

  abbrev node_parts : EventNode-F EventNode EventExpr → EventNode-F (Spot → Part) Part
  node_parts x = map-EventNode EventNode EventExpr (Spot → Part) Part node_of (reading.part_of table scope inner) x

  node_at : (y : EventNode-F N X) (spot : Spot) → PartCounts table scope inner types (node_step table scope inner (node_parts (node_trees y)) spot)
  unfolding or_read xor_read and_read joined_behind
  node_at (node.Followed first rest) spot = record { counts = λ may under left s. followed_counts first rest under left s }
  node_at (node.Or first rest) spot = record { counts = λ may under left s. chained_counts term.Or or_together false false first rest under left s }
  node_at (node.Xor first rest) spot = record { counts = λ may under left s. chained_counts term.Xor xor_together false false first rest under left s }
  node_at (node.And first rest) spot = record { counts = λ may under left s. chained_counts term.And and_together (may_begin (parts rest)) true first rest under left s }
  node_at (node.All x) spot = all_part x
  node_at (node.Not x) spot = not_part spot x
  node_at (node.Group x within) spot = group_part spot x within
  node_at (node.Wait d) spot = wait_part spot d
  node_at (node.Template t) spot = template_part spot t

  node_case : (x : EventNode-F EventNode EventExpr) (y : EventNode-F N X) → node_trees y ≡ x → ForNode (roll-EventNode x)
  node_case x y is = subst (λ (z : EventNode-F EventNode EventExpr). ForNode (roll-EventNode z)) is (record {
    at_spot = λ spot.
        subst (λ (f : Spot → Part). PartCounts table scope inner types (f spot)) (sym (fold-roll-EventNode (Spot → Part) Part (node_step table scope inner) (expr_step table scope inner) (node_trees y)))
        (node_at y spot);
  })

  abbrev expr_trees : EventExpr-F N X → EventExpr-F EventNode EventExpr
  expr_trees y = map-EventExpr N X EventNode EventExpr (λ e. e.0) (λ e. e.0) y

  expr_case : (x : EventExpr-F EventNode EventExpr) (y : EventExpr-F N X) → expr_trees y ≡ x → ForExpr (roll-EventExpr x)
  expr_case x y is = subst (λ (z : EventExpr-F EventNode EventExpr). ForExpr (roll-EventExpr z)) is
      (subst (λ (p : Part). PartCounts table scope inner types p) (sym (fold-roll-EventExpr (Spot → Part) Part (node_step table scope inner) (expr_step table scope inner) (expr_trees y)))
      (let n = y.node.1 in n.at_spot y.spot))

  -- for every event expression
  pub expr_counts : (e : EventExpr) → ForExpr e
  expr_counts = ind-EventExpr ForNode ForExpr node_case expr_case

-- the part of the rules that counts
pub record CountsSo (types : List EventShape) (bound : ℕ) (t : Term) : Type 0 where
  pub in_order : count_up 0 (part_of types t).binds ≡ true
  pub all_bound : length (part_of types t).binds ≡ bound
  pub few_leaves : (part_of types t).leaves ≤ 64
  pub few_operands : (part_of types t).operands ≤ 192

-- for every event expression
pub term_counts : {table : Table} {names : Names} {scope : Scope} → KnowsTable table names scope → (tree : EventExpr) → KnowsNamed names scope (event_names tree) → (term_found table scope tree).faults ≡ [] → CountsSo names.types (length (term_found table scope tree).part.bound) (term_found table scope tree).part.term
term_counts {table = table} {names = names} {scope = scope} k tree named none =
    let inner = settling.inner k tree named none in
    let part = expr_counts table scope inner names.types tree in
    let thus = part.counts false false [] nothing_yet in
    let c = thus.where_clear none in
    let read = settling.all_read k tree named none in
    let state = read.state in
    let b = bound_numbered k tree named none in
    let many = c.many in let leaves = c.leaves_so in let operands = c.operands_so in
    let most_leaves = state.leaves in let most = state.sums in
    let numbered = ap length b.are ∙ length-map b.seens local_of in
    let bound_many = b.as_many in
    record { in_order = c.in_order; all_bound = omega arith; few_leaves = omega arith; few_operands = omega arith }
