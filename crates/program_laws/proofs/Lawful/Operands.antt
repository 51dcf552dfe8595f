-- Operators keep the rules, where their operands do.
use Rattle.std.proofs.Common.{◌≡◌, ◌&&◌, ◌∷◌, ◌++◌, if◌then◌else◌}
use Rattle.program_laws.proofs.Common.{Bool, true, false, List, [], map, Option, Some, None, refl, ap, ◌∙◌, list_all, AllByRecursion, and_from, Spot, Shape, Comparison, Operator, TypedExpr, out-TypedExpr, TypedLink, roll-TypedLink, TypedNode, Sight, Path, value, path_of, Sort, Logic, Level, Chain, LinkChain, Judged, Demand, operand, Part, Linked, sort_of_expr, truth, truths, addable, linked, given_by, operated, not_found, minus_found, comparison_found, join_found, with_operand, logic_node, chain_start, logic_found, with_link, link_found, level_node, links_start, links_found}
use Rattle.typed_program.specs.declared.expression.TypedNode.TheVariants as made
use Rattle.typed_program.specs.declared.expression.TypedNode.TheOpen as typed
use Rattle.typed_program.specs.Paths.{plain, all_plain}
use Rattle.expr_rules.specs.declared.operators.Logic.TheVariants as logic
use Rattle.expr_rules.specs.declared.operators.Level.TheVariants as level
use Rattle.expr_rules.specs.declared.placed.Gives.TheVariants as gives
use Rattle.expr_rules.specs.Asked.{negated}
use Rattle.expr_rules.specs.Operators.{number, compared, paired, not_of, minus_of, comparison_of, comparison_right, joined, chain_of, logic_rest, link_of, links_of, links_rest}
use Rattle.expr_rules.specs.Then.{through}
use Rattle.program_laws.proofs.Exprs.Sure.{Sure, sure_then, sure_sound, sure_through, sure_any}
use Rattle.program_laws.proofs.Exprs.Chains.{all_push}
use Rattle.program_laws.proofs.Lawful.Paths.{node_pathed, pathed, link_pathed, link_made}
use Rattle.program_laws.proofs.Lawful.Standing.{Standing, permits, value_kept}

module _ (sight : Sight) where
  -- a part that keeps the rules wherever it stands
  pub record PartKept (part : Part) : Type 0 where
    pub at_demand : (demand : Demand) → Sure (Standing sight demand) (part demand)

  -- an operand is no path of reference type
  pub operand_plain : (j : Judged) → Standing sight operand j → plain (path_of sight j.typed) ≡ true
  operand_plain j s = permits operand j.root (path_of sight j.typed) s.keeps

  operated_kept : (spot : Spot) (demand : Demand) (o : Option Sort) (n : TypedNode) (b : Bool) → ((s : Option Shape) → node_pathed sight n s ≡ value s b) → b ≡ true → Sure (Standing sight demand) (operated spot demand o n)
  operated_kept spot demand None n b is h = value_kept sight spot demand (Some 10) gives.Unknown n b is (λ none. h)
  operated_kept spot demand (Some t) n b is h = value_kept sight spot demand None (given_by t) n b is (λ none. h)

  -- ---- not

  not_path : (e : TypedExpr) (s : Option Shape) → node_pathed sight (made.Not e) s ≡ value s (plain (path_of sight e))
  not_path e s = pathed sight (typed.Not e) (made.Not e) s (made.rolls-Not e)

  not_of_kept : (spot : Spot) (demand : Demand) (j : Judged) → Standing sight operand j → Sure (Standing sight demand) (not_of spot demand j)
  unfolding not_of
  not_of_kept spot demand j a = operated_kept spot demand (truth (sort_of_expr j.typed)) (made.Not j.typed) (plain (path_of sight j.typed)) (not_path j.typed) (operand_plain j a)

  -- a negation
  pub not_kept : (part : Part) (spot : Spot) → PartKept part → PartKept (not_found part spot)
  not_kept part spot p = record { at_demand = λ demand. sure_then (Standing sight operand) (Standing sight demand) (part operand) (not_of spot demand) (p.at_demand operand) (not_of_kept spot demand) }

  -- ---- minus

  minus_path : (e : TypedExpr) (s : Option Shape) → node_pathed sight (made.Minus e) s ≡ value s (plain (path_of sight e))
  minus_path e s = pathed sight (typed.Minus e) (made.Minus e) s (made.rolls-Minus e)

  abbrev minus_made : Bool → TypedExpr → TypedNode
  minus_made signed e = if signed then (out-TypedExpr e).node else made.Minus e

  minus_by : (spot : Spot) (demand : Demand) (o : Option Sort) (e : TypedExpr) (signed : Bool) → (signed ≡ true → (s : Option Shape) → node_pathed sight (out-TypedExpr e).node s ≡ value s true) → plain (path_of sight e) ≡ true → Sure (Standing sight demand) (operated spot demand o (minus_made signed e))
  minus_by spot demand o e true literal h = operated_kept spot demand o (out-TypedExpr e).node true (literal refl) refl
  minus_by spot demand o e false literal h = operated_kept spot demand o (made.Minus e) (plain (path_of sight e)) (minus_path e) h

  minus_of_kept : (spot : Spot) (demand : Demand) (j : Judged) → Standing sight negated j → Sure (Standing sight demand) (minus_of spot demand j)
  unfolding minus_of
  minus_of_kept spot demand j a = minus_by spot demand (number (sort_of_expr j.typed)) j.typed j.signed a.signed (permits negated j.root (path_of sight j.typed) a.keeps)

  -- a minus
  pub minus_kept : (part : Part) (spot : Spot) → PartKept part → PartKept (minus_found part spot)
  minus_kept part spot p = record { at_demand = λ demand. sure_then (Standing sight negated) (Standing sight demand) (part negated) (minus_of spot demand) (p.at_demand negated) (minus_of_kept spot demand) }

  -- ---- comparisons

  compare_path : (c : Comparison) (left right : TypedExpr) (s : Option Shape) → node_pathed sight (made.Compare left c right) s ≡ value s (plain (path_of sight left) && plain (path_of sight right))
  compare_path c left right s = pathed sight (typed.Compare left c right) (made.Compare left c right) s (made.rolls-Compare left c right)

  comparison_of_kept : (spot : Spot) (demand : Demand) (c : Comparison) (left right : Judged) → Standing sight operand left → Standing sight operand right → Sure (Standing sight demand) (comparison_of spot demand c left right)
  unfolding comparison_of
  comparison_of_kept spot demand c left right a b =
      operated_kept spot demand (compared c (sort_of_expr left.typed) (sort_of_expr right.typed)) (made.Compare left.typed c right.typed) (plain (path_of sight left.typed) && plain (path_of sight right.typed)) (compare_path c left.typed right.typed)
      (and_from (plain (path_of sight left.typed)) (plain (path_of sight right.typed)) (operand_plain left a) (operand_plain right b))

  right_kept : (spot : Spot) (demand : Demand) (c : Comparison) (right : Part) → PartKept right → (left : Judged) → Standing sight operand left → Sure (Standing sight demand) (comparison_right spot demand c right left)
  unfolding comparison_right
  right_kept spot demand c right r left a = sure_then (Standing sight operand) (Standing sight demand) (right operand) (comparison_of spot demand c left) (r.at_demand operand) (λ j b. comparison_of_kept spot demand c left j a b)

  -- a comparison
  pub comparison_kept : (left right : Part) (c : Comparison) (spot : Spot) → PartKept left → PartKept right → PartKept (comparison_found left c right spot)
  comparison_kept left right c spot l r = record { at_demand = λ demand. sure_then (Standing sight operand) (Standing sight demand) (left operand) (comparison_right spot demand c right) (l.at_demand operand) (right_kept spot demand c right r) }

  -- ---- `or`, `xor` and `and`

  abbrev chained : TypedExpr → List TypedExpr → Bool
  chained first rest = all_plain (path_of sight first ∷ map (path_of sight) rest)

  -- what is made so far of a chain
  record ChainKept (chain : Chain) : Type 0 where
    first_plain : plain (path_of sight chain.first) ≡ true
    rest_plain : list_all plain (map (path_of sight) chain.operands) ≡ true

  joined_kept : (spot : Spot) (chain : Chain) (j : Judged) → ChainKept chain → Standing sight operand j → Sure ChainKept (joined spot chain j)
  unfolding joined
  joined_kept spot chain j c a =
      sure_then (λ (t : Sort). Unit {0}) ChainKept (paired spot (truths chain.sort (sort_of_expr j.typed))) (with_operand chain j.typed) (sure_any (paired spot (truths chain.sort (sort_of_expr j.typed))))
      (λ t u. sure_sound ChainKept (record { first = chain.first; sort = t; operands = chain.operands ++ j.typed ∷ [] })
      (record { first_plain = c.first_plain; rest_plain = all_push plain (path_of sight) chain.operands j.typed c.rest_plain (operand_plain j a) }))

  join_kept : (spot : Spot) (chain : Chain) (part : Part) → ChainKept chain → PartKept part → Sure ChainKept (join_found spot chain part)
  join_kept spot chain part c p = sure_then (Standing sight operand) ChainKept (part operand) (joined spot chain) (p.at_demand operand) (λ j a. joined_kept spot chain j c a)

  logic_path : (l : Logic) (first : TypedExpr) (rest : List TypedExpr) (s : Option Shape) → node_pathed sight (logic_node l first rest) s ≡ value s (chained first rest)
  logic_path logic.Or first rest s = pathed sight (typed.Or first rest) (made.Or first rest) s (made.rolls-Or first rest)
  logic_path logic.Xor first rest s = pathed sight (typed.Xor first rest) (made.Xor first rest) s (made.rolls-Xor first rest)
  logic_path logic.And first rest s = pathed sight (typed.And first rest) (made.And first rest) s (made.rolls-And first rest)

  chain_kept : (spot : Spot) (demand : Demand) (l : Logic) (chain : Chain) → ChainKept chain → Sure (Standing sight demand) (chain_of spot demand l chain)
  unfolding chain_of
  chain_kept spot demand l chain c =
      operated_kept spot demand (truth chain.sort) (logic_node l chain.first chain.operands) (chained chain.first chain.operands) (logic_path l chain.first chain.operands)
      (and_from (plain (path_of sight chain.first)) (list_all plain (map (path_of sight) chain.operands)) c.first_plain c.rest_plain)

  logic_rest_kept : (l : Logic) (parts : List Part) (spot : Spot) (demand : Demand) → AllByRecursion PartKept parts → (first : Judged) → Standing sight operand first → Sure (Standing sight demand) (logic_rest l parts spot demand first)
  unfolding logic_rest
  logic_rest_kept l parts spot demand all first a =
      sure_then ChainKept (Standing sight demand) (through (join_found spot) (chain_start first) parts) (chain_of spot demand l)
      (sure_through PartKept ChainKept (join_found spot) (λ c b i g. join_kept spot c b i g) (chain_start first) parts all (record { first_plain = operand_plain first a; rest_plain = refl }))
      (chain_kept spot demand l)

  -- a chain of truths
  pub logic_kept : (l : Logic) (first : Part) (parts : List Part) (spot : Spot) → PartKept first → AllByRecursion PartKept parts → PartKept (logic_found l first parts spot)
  logic_kept l first parts spot f all = record { at_demand = λ demand. sure_then (Standing sight operand) (Standing sight demand) (first operand) (logic_rest l parts spot demand) (f.at_demand operand) (logic_rest_kept l parts spot demand all) }

  -- ---- `+` and `-`, `*`, `/` and `%`

  -- an operator with an operand that keeps the rules
  pub record LinkKept (l : Linked) : Type 0 where
    pub operand_kept : PartKept l.operand

  abbrev linked_all : TypedExpr → List TypedLink → Bool
  linked_all first links = all_plain (path_of sight first ∷ map (link_pathed sight) links)

  record LinksKept (chain : LinkChain) : Type 0 where
    first_plain : plain (path_of sight chain.first) ≡ true
    links_plain : list_all plain (map (link_pathed sight) chain.links) ≡ true

  link_of_kept : (spot : Spot) (chain : LinkChain) (o : Operator) (j : Judged) → LinksKept chain → Standing sight operand j → Sure LinksKept (link_of spot chain o j)
  unfolding link_of
  link_of_kept spot chain o j c a =
      sure_then (λ (t : Sort). Unit {0}) LinksKept (paired spot (linked o chain.sort (sort_of_expr j.typed))) (with_link chain o j.typed) (sure_any (paired spot (linked o chain.sort (sort_of_expr j.typed))))
      (λ t u. sure_sound LinksKept (record { first = chain.first; sort = t; links = chain.links ++ roll-TypedLink record { operator = o; operand = j.typed } ∷ [] })
      (record { first_plain = c.first_plain; links_plain = all_push plain (link_pathed sight) chain.links (roll-TypedLink record { operator = o; operand = j.typed }) c.links_plain (ap (λ (p : Path). plain p) (link_made sight o j.typed) ∙ operand_plain j a) }))

  link_found_kept : (spot : Spot) (chain : LinkChain) (l : Linked) → LinksKept chain → LinkKept l → Sure LinksKept (link_found spot chain l)
  link_found_kept spot chain l c p = sure_then (Standing sight operand) LinksKept (l.operand operand) (link_of spot chain l.operator) (p.operand_kept.at_demand operand) (λ j a. link_of_kept spot chain l.operator j c a)

  level_path : (l : Level) (first : TypedExpr) (links : List TypedLink) (s : Option Shape) → node_pathed sight (level_node l first links) s ≡ value s (linked_all first links)
  level_path level.Sum first links s = pathed sight (typed.Sum first links) (made.Sum first links) s (made.rolls-Sum first links)
  level_path level.Product first links s = pathed sight (typed.Product first links) (made.Product first links) s (made.rolls-Product first links)

  links_of_kept : (spot : Spot) (demand : Demand) (l : Level) (chain : LinkChain) → LinksKept chain → Sure (Standing sight demand) (links_of spot demand l chain)
  unfolding links_of
  links_of_kept spot demand l chain c =
      operated_kept spot demand (addable (Some chain.sort)) (level_node l chain.first chain.links) (linked_all chain.first chain.links) (level_path l chain.first chain.links)
      (and_from (plain (path_of sight chain.first)) (list_all plain (map (link_pathed sight) chain.links)) c.first_plain c.links_plain)

  links_rest_kept : (l : Level) (links : List Linked) (spot : Spot) (demand : Demand) → AllByRecursion LinkKept links → (first : Judged) → Standing sight operand first → Sure (Standing sight demand) (links_rest l links spot demand first)
  unfolding links_rest
  links_rest_kept l links spot demand all first a =
      sure_then LinksKept (Standing sight demand) (through (link_found spot) (links_start first) links) (links_of spot demand l)
      (sure_through LinkKept LinksKept (link_found spot) (λ c b i g. link_found_kept spot c b i g) (links_start first) links all (record { first_plain = operand_plain first a; links_plain = refl }))
      (links_of_kept spot demand l)

  -- a chain of sums or products
  pub links_kept : (l : Level) (first : Part) (links : List Linked) (spot : Spot) → PartKept first → AllByRecursion LinkKept links → PartKept (links_found l first links spot)
  links_kept l first links spot f all = record { at_demand = λ demand. sure_then (Standing sight operand) (Standing sight demand) (first operand) (links_rest l links spot demand) (f.at_demand operand) (links_rest_kept l links spot demand all) }
