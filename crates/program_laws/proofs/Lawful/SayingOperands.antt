-- What is named in the operands of an operator, and in the entries of a dictionary, is mentioned in its typed tree.
use Rattle.std.proofs.Common.{◌≡◌, ◌∷◌, ◌++◌, ◌⊎◌, if◌then◌else◌}
use Rattle.program_laws.proofs.Common.{ℕ, Bool, true, false, List, [], map, Some, sym, inl, inr, Spot, Comparison, Operator, TypedExpr, out-TypedExpr, TypedLink, roll-TypedLink, Mention, mentions, Seen, Sort, Logic, Level, Chain, LinkChain, Judged, Demand, operand, Part, Linked, sort_of_expr, truth, truths, addable, linked, not_found, minus_node, minus_found, comparison_found, join_found, with_operand, logic_node, chain_start, logic_found, with_link, link_found, level_node, links_start, links_found, any_of}
use Rattle.typed_program.specs.declared.expression.TypedNode.TheVariants as made
use Rattle.typed_program.specs.declared.expression.TypedNode.TheOpen as typed
use Rattle.typed_program.specs.Mentions.{either}
use Rattle.typed_program.specs.Mentions.{any_of as any_mention}
use Rattle.expr_rules.specs.declared.operators.Logic.TheVariants as logic
use Rattle.expr_rules.specs.declared.operators.Level.TheVariants as level
use Rattle.expr_rules.specs.Asked.{negated}
use Rattle.expr_rules.specs.Operators.{number, compared, paired, not_of, minus_of, comparison_of, comparison_right, joined, chain_of, logic_rest, link_of, links_of, links_rest}
use Rattle.expr_rules.specs.Then.{through}
use Rattle.stmt_check.specs.Captures.{Names as Naming, either as either_name}
use Rattle.program_laws.proofs.Exprs.Sure.{Sure, sure_then, sure_sound, sure_any}
use Rattle.program_laws.proofs.Lawful.Mentioning.{node_said, link_said, said, said_out, link_made, row_grows, row_hits, second_grows}
use Rattle.program_laws.proofs.Lawful.Saying.{Hit, hit_as, hit_grows, hit_first, hit_second, Keeps, Hits, row_says, Mentions, PartSays, operated_says, first_says}
use Rattle.program_laws.proofs.Exprs.Inductions.{Each}

module _ (name : List ℕ) (s : Seen) where
  -- ---- one operand, and two

  -- a negation
  pub not_says : (part : Part) (n : Naming) (spot : Spot) → PartSays name s n part → PartSays name s n (not_found part spot)
  unfolding not_of
  not_says part n spot p = record {
    at_demand = λ is demand.
        sure_then (Mentions name s) (Mentions name s) (part operand) (not_of spot demand) (p.at_demand is operand)
        (λ j m. operated_says name s spot demand (truth (sort_of_expr j.typed)) (made.Not j.typed) (hit_as s (mentions j.typed) (node_said (made.Not j.typed)) (sym (said (typed.Not j.typed) (made.Not j.typed) (made.rolls-Not j.typed))) m));
  }

  minus_said : (signed : Bool) (e : TypedExpr) → mentions e ≡ node_said (if signed then (out-TypedExpr e).node else made.Minus e)
  minus_said true e = said_out e
  minus_said false e = sym (said (typed.Minus e) (made.Minus e) (made.rolls-Minus e))

  -- a minus
  pub minus_says : (part : Part) (n : Naming) (spot : Spot) → PartSays name s n part → PartSays name s n (minus_found part spot)
  unfolding minus_of
  minus_says part n spot p = record {
    at_demand = λ is demand.
        sure_then (Mentions name s) (Mentions name s) (part negated) (minus_of spot demand) (p.at_demand is negated)
        (λ j m. operated_says name s spot demand (number (sort_of_expr j.typed)) (minus_node j) (hit_as s (mentions j.typed) (node_said (minus_node j)) (minus_said j.signed j.typed) m));
  }

  compared_says : (spot : Spot) (demand : Demand) (c : Comparison) (left right : Judged) → Hit s (either (mentions left.typed) (mentions right.typed)) → Sure (Mentions name s) (comparison_of spot demand c left right)
  unfolding comparison_of
  compared_says spot demand c left right h =
      operated_says name s spot demand (compared c (sort_of_expr left.typed) (sort_of_expr right.typed)) (made.Compare left.typed c right.typed)
      (hit_as s (either (mentions left.typed) (mentions right.typed)) (node_said (made.Compare left.typed c right.typed)) (sym (said (typed.Compare left.typed c right.typed) (made.Compare left.typed c right.typed) (made.rolls-Compare left.typed c right.typed))) h)

  right_says : (right : Part) (m : Naming) (c : Comparison) (spot : Spot) (demand : Demand) → PartSays name s m right → (left : Judged) → (Mentions name s left) ⊎ (m name ≡ true) → Sure (Mentions name s) (comparison_right spot demand c right left)
  unfolding comparison_right
  right_says right m c spot demand r left (inl h) =
      sure_then (λ (j : Judged). Unit {0}) (Mentions name s) (right operand) (comparison_of spot demand c left) (sure_any (right operand))
      (λ j u. compared_says spot demand c left j (hit_first s (mentions left.typed) (mentions j.typed) h))
  right_says right m c spot demand r left (inr h) =
      sure_then (Mentions name s) (Mentions name s) (right operand) (comparison_of spot demand c left) (r.at_demand h operand)
      (λ j k. compared_says spot demand c left j (hit_second s (mentions left.typed) (mentions j.typed) k))

  -- a comparison
  pub comparison_says : (left right : Part) (c : Comparison) (n m : Naming) (spot : Spot) → PartSays name s n left → PartSays name s m right → PartSays name s (either_name n m) (comparison_found left c right spot)
  comparison_says left right c n m spot l r = record { at_demand = λ is demand. first_says name s (Mentions name s) n m left operand (comparison_right spot demand c right) l (right_says right m c spot demand r) is }

  -- ---- `or`, `xor` and `and`

  abbrev chain_said : TypedExpr → List TypedExpr → Mention
  chain_said first rest = either (mentions first) (any_mention (map mentions rest))

  abbrev ChainSays : Chain → Type 0
  ChainSays chain = Hit s (chain_said chain.first chain.operands)

  joined_as : (P : Chain → Type 0) (spot : Spot) (chain : Chain) (j : Judged) → ((t : Sort) → P (record { first = chain.first; sort = t; operands = chain.operands ++ j.typed ∷ [] })) → Sure P (joined spot chain j)
  unfolding joined
  joined_as P spot chain j h =
      sure_then (λ (t : Sort). Unit {0}) P (paired spot (truths chain.sort (sort_of_expr j.typed))) (with_operand chain j.typed) (sure_any (paired spot (truths chain.sort (sort_of_expr j.typed))))
      (λ t u. sure_sound P (record { first = chain.first; sort = t; operands = chain.operands ++ j.typed ∷ [] }) (h t))

  join_keeps : (spot : Spot) → Keeps name (PartSays name s) (λ c. Unit {0}) ChainSays (join_found spot)
  join_keeps spot chain n part p i =
      sure_then (λ (j : Judged). Unit {0}) (λ d. Unit {0} × (ChainSays chain → ChainSays d)) (part operand) (joined spot chain) (sure_any (part operand))
      (λ j u. joined_as (λ d. Unit {0} × (ChainSays chain → ChainSays d)) spot chain j (λ t. (
        tt,
        λ h.
            hit_grows s (chain_said chain.first chain.operands) (chain_said chain.first (chain.operands ++ j.typed ∷ [])) (second_grows (mentions chain.first s.number) (any_mention (map mentions chain.operands) s.number) (any_mention (map mentions (chain.operands ++ j.typed ∷ [])) s.number) (row_grows mentions chain.operands j.typed s.number)) h,
      )))

  join_hits : (spot : Spot) → Hits name (PartSays name s) (λ c. Unit {0}) ChainSays (join_found spot)
  join_hits spot chain n part p i is =
      sure_then (Mentions name s) (λ d. Unit {0} × ChainSays d) (part operand) (joined spot chain) (p.at_demand is operand)
      (λ j m. joined_as (λ d. Unit {0} × ChainSays d) spot chain j (λ t. (
        tt,
        hit_second s (mentions chain.first) (any_mention (map mentions (chain.operands ++ j.typed ∷ []))) (hit_grows s (mentions j.typed) (any_mention (map mentions (chain.operands ++ j.typed ∷ []))) (row_hits mentions chain.operands j.typed s.number) m),
      )))

  logic_said : (l : Logic) (first : TypedExpr) (rest : List TypedExpr) → chain_said first rest ≡ node_said (logic_node l first rest)
  logic_said logic.Or first rest = sym (said (typed.Or first rest) (made.Or first rest) (made.rolls-Or first rest))
  logic_said logic.Xor first rest = sym (said (typed.Xor first rest) (made.Xor first rest) (made.rolls-Xor first rest))
  logic_said logic.And first rest = sym (said (typed.And first rest) (made.And first rest) (made.rolls-And first rest))

  chain_says : (spot : Spot) (demand : Demand) (l : Logic) (chain : Chain) → ChainSays chain → Sure (Mentions name s) (chain_of spot demand l chain)
  unfolding chain_of
  chain_says spot demand l chain h = operated_says name s spot demand (truth chain.sort) (logic_node l chain.first chain.operands) (hit_as s (chain_said chain.first chain.operands) (node_said (logic_node l chain.first chain.operands)) (logic_said l chain.first chain.operands) h)

  start_says : (ns : List Naming) (j : Judged) → (Mentions name s j) ⊎ (any_of ns name ≡ true) → (ChainSays (chain_start j)) ⊎ (any_of ns name ≡ true)
  start_says ns j (inl h) = inl (hit_first s (mentions j.typed) (any_mention []) h)
  start_says ns j (inr h) = inr h

  rest_says : (l : Logic) (parts : List Part) (ns : List Naming) (spot : Spot) (demand : Demand) → Each (PartSays name s) ns parts → (first : Judged) → (Mentions name s first) ⊎ (any_of ns name ≡ true) → Sure (Mentions name s) (logic_rest l parts spot demand first)
  unfolding logic_rest
  rest_says l parts ns spot demand each first h =
      sure_then (λ d. Unit {0} × ChainSays d) (Mentions name s) (through (join_found spot) (chain_start first) parts) (chain_of spot demand l)
      (row_says name (PartSays name s) (λ c. Unit {0}) ChainSays (join_found spot) (join_keeps spot) (join_hits spot) (chain_start first) ns parts each tt (start_says ns first h))
      (λ chain k. chain_says spot demand l chain k.1)

  -- a chain of truths
  pub logic_says : (l : Logic) (first : Part) (parts : List Part) (n : Naming) (ns : List Naming) (spot : Spot) → PartSays name s n first → Each (PartSays name s) ns parts → PartSays name s (either_name n (any_of ns)) (logic_found l first parts spot)
  logic_says l first parts n ns spot f each = record { at_demand = λ is demand. first_says name s (Mentions name s) n (any_of ns) first operand (logic_rest l parts spot demand) f (rest_says l parts ns spot demand each) is }

  -- ---- `+` and `-`, `*`, `/` and `%`

  abbrev pub LinkSays : Naming → Linked → Type 0
  LinkSays n l = PartSays name s n l.operand

  abbrev links_said : TypedExpr → List TypedLink → Mention
  links_said first links = either (mentions first) (any_mention (map link_said links))

  abbrev LinksSay : LinkChain → Type 0
  LinksSay chain = Hit s (links_said chain.first chain.links)

  abbrev link_with : Operator → Judged → TypedLink
  link_with o j = roll-TypedLink record { operator = o; operand = j.typed }

  linked_as : (P : LinkChain → Type 0) (spot : Spot) (chain : LinkChain) (o : Operator) (j : Judged) → ((t : Sort) → P (record { first = chain.first; sort = t; links = chain.links ++ link_with o j ∷ [] })) → Sure P (link_of spot chain o j)
  unfolding link_of
  linked_as P spot chain o j h =
      sure_then (λ (t : Sort). Unit {0}) P (paired spot (linked o chain.sort (sort_of_expr j.typed))) (with_link chain o j.typed) (sure_any (paired spot (linked o chain.sort (sort_of_expr j.typed))))
      (λ t u. sure_sound P (record { first = chain.first; sort = t; links = chain.links ++ link_with o j ∷ [] }) (h t))

  link_keeps : (spot : Spot) → Keeps name LinkSays (λ c. Unit {0}) LinksSay (link_found spot)
  link_keeps spot chain n l p i =
      sure_then (λ (j : Judged). Unit {0}) (λ d. Unit {0} × (LinksSay chain → LinksSay d)) (l.operand operand) (link_of spot chain l.operator) (sure_any (l.operand operand))
      (λ j u. linked_as (λ d. Unit {0} × (LinksSay chain → LinksSay d)) spot chain l.operator j (λ t. (
        tt,
        λ h.
            hit_grows s (links_said chain.first chain.links) (links_said chain.first (chain.links ++ link_with l.operator j ∷ [])) (second_grows (mentions chain.first s.number) (any_mention (map link_said chain.links) s.number) (any_mention (map link_said (chain.links ++ link_with l.operator j ∷ [])) s.number) (row_grows link_said chain.links (link_with l.operator j) s.number)) h,
      )))

  link_hits : (spot : Spot) → Hits name LinkSays (λ c. Unit {0}) LinksSay (link_found spot)
  link_hits spot chain n l p i is =
      sure_then (Mentions name s) (λ d. Unit {0} × LinksSay d) (l.operand operand) (link_of spot chain l.operator) (p.at_demand is operand)
      (λ j m. linked_as (λ d. Unit {0} × LinksSay d) spot chain l.operator j (λ t. (
        tt,
        hit_second s (mentions chain.first) (any_mention (map link_said (chain.links ++ link_with l.operator j ∷ [])))
            (hit_grows s (link_said (link_with l.operator j)) (any_mention (map link_said (chain.links ++ link_with l.operator j ∷ []))) (row_hits link_said chain.links (link_with l.operator j) s.number)
            (hit_as s (mentions j.typed) (link_said (link_with l.operator j)) (sym (link_made l.operator j.typed)) m)),
      )))

  level_said : (l : Level) (first : TypedExpr) (links : List TypedLink) → links_said first links ≡ node_said (level_node l first links)
  level_said level.Sum first links = sym (said (typed.Sum first links) (made.Sum first links) (made.rolls-Sum first links))
  level_said level.Product first links = sym (said (typed.Product first links) (made.Product first links) (made.rolls-Product first links))

  level_says : (spot : Spot) (demand : Demand) (l : Level) (chain : LinkChain) → LinksSay chain → Sure (Mentions name s) (links_of spot demand l chain)
  unfolding links_of
  level_says spot demand l chain h = operated_says name s spot demand (addable (Some chain.sort)) (level_node l chain.first chain.links) (hit_as s (links_said chain.first chain.links) (node_said (level_node l chain.first chain.links)) (level_said l chain.first chain.links) h)

  links_start_says : (ns : List Naming) (j : Judged) → (Mentions name s j) ⊎ (any_of ns name ≡ true) → (LinksSay (links_start j)) ⊎ (any_of ns name ≡ true)
  links_start_says ns j (inl h) = inl (hit_first s (mentions j.typed) (any_mention []) h)
  links_start_says ns j (inr h) = inr h

  links_rest_says : (l : Level) (links : List Linked) (ns : List Naming) (spot : Spot) (demand : Demand) → Each LinkSays ns links → (first : Judged) → (Mentions name s first) ⊎ (any_of ns name ≡ true) → Sure (Mentions name s) (links_rest l links spot demand first)
  unfolding links_rest
  links_rest_says l links ns spot demand each first h =
      sure_then (λ d. Unit {0} × LinksSay d) (Mentions name s) (through (link_found spot) (links_start first) links) (links_of spot demand l)
      (row_says name LinkSays (λ c. Unit {0}) LinksSay (link_found spot) (link_keeps spot) (link_hits spot) (links_start first) ns links each tt (links_start_says ns first h))
      (λ chain k. level_says spot demand l chain k.1)

  -- a chain of sums or products
  pub links_say : (l : Level) (first : Part) (links : List Linked) (n : Naming) (ns : List Naming) (spot : Spot) → PartSays name s n first → Each LinkSays ns links → PartSays name s (either_name n (any_of ns)) (links_found l first links spot)
  links_say l first links n ns spot f each = record { at_demand = λ is demand. first_says name s (Mentions name s) n (any_of ns) first operand (links_rest l links spot demand) f (links_rest_says l links ns spot demand each) is }
