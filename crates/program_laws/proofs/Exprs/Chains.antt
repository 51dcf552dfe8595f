-- A chain of operands that answer answers.
use Rattle.std.proofs.Common.{◌≡◌, ◌∷◌, ◌++◌, ◌⊎◌}
use Rattle.program_laws.proofs.Common.{Bool, true, List, [], map, Some, refl, ap, ◌∙◌, inl, inr, list_all, AllByRecursion, and_parts, and_from, or_left, or_right, Spot, Shape, Operator, TypedExpr, TypedLink, roll-TypedLink, same, Names, Checked, checked, is_of, is_add, Sort, Logic, Level, Chain, LinkChain, Judged, Demand, Value, operand, Part, Linked, sort_of_expr, truth, truths, addable, linked, given_by, join_found, with_operand, logic_node, chain_start, logic_found, with_link, link_found, level_node, links_start, links_found}
use Rattle.epl_values.specs.declared.shape.Shape.TheVariants as shape
use Rattle.typed_program.specs.declared.expression.TypedNode.TheVariants as made
use Rattle.typed_program.specs.declared.expression.TypedNode.TheOpen as typed
use Rattle.typed_program.specs.Expressions.{all_of}
use Rattle.typed_program.specs.Expressions.{Linked as TypedLinked, links as links_so}
use Rattle.expr_rules.specs.declared.operators.Sort.TheVariants as sort
use Rattle.expr_rules.specs.declared.operators.Logic.TheVariants as logic
use Rattle.expr_rules.specs.declared.operators.Level.TheVariants as level
use Rattle.expr_rules.specs.Operators.{paired, joined, chain_of, logic_rest, link_of, links_of, links_rest}
use Rattle.expr_rules.specs.Then.{through}
use Rattle.program_laws.proofs.Exprs.Sure.{Sure, sure_then, sure_sound, sure_through}
use Rattle.program_laws.proofs.Exprs.Alike.{same_self}
use Rattle.program_laws.proofs.Exprs.Holding.{node_checked, rolled, link_checked, link_made}
use Rattle.program_laws.proofs.Exprs.Answering.{Answering, Answers, IsGiven}
use Rattle.program_laws.proofs.Exprs.Sorts.{Unknown, truth_is, truths_are, linked_is, addable_is}
use Rattle.program_laws.proofs.Exprs.Operands.{Operand, operand_of, operand_is_of, operated_sure, given_boolean, given_integer, given_text, paired_sure}

pub all_push : {A B : Type 0} (p : B → Bool) (f : A → B) (xs : List A) (x : A) → list_all p (map f xs) ≡ true → p (f x) ≡ true → list_all p (map f (xs ++ x ∷ [])) ≡ true
all_push p f [] x h k = and_from (p (f x)) true k refl
all_push p f (y ∷ xs) x h k = let b = and_parts (p (f y)) (list_all p (map f xs)) h in and_from (p (f y)) (list_all p (map f (xs ++ x ∷ []))) b.0 (all_push p f xs x b.1 k)

all_push_twice : {A B C : Type 0} (p : C → Bool) (g : B → C) (f : A → B) (xs : List A) (x : A) → list_all p (map g (map f xs)) ≡ true → p (g (f x)) ≡ true → list_all p (map g (map f (xs ++ x ∷ []))) ≡ true
all_push_twice p g f [] x h k = and_from (p (g (f x))) true k refl
all_push_twice p g f (y ∷ xs) x h k = let b = and_parts (p (g (f y))) (list_all p (map g (map f xs))) h in and_from (p (g (f y))) (list_all p (map g (map f (xs ++ x ∷ [])))) b.0 (all_push_twice p g f xs x b.1 k)

module _ (names : Names) where
  -- ---- `or`, `xor` and `and`

  -- what is made so far of a chain: each operand is a boolean, if it is one
  record Truths (chain : Chain) : Type 0 where
    known : Unknown chain.sort → ⊥
    first : chain.sort ≡ sort.Boolean → is_of shape.Boolean (checked names chain.first) ≡ true
    rest : chain.sort ≡ sort.Boolean → list_all (is_of shape.Boolean) (map (checked names) chain.operands) ≡ true

  truths_start : (j : Judged) → Operand names j.typed → Truths (chain_start j)
  truths_start j o = record { known = o.known; first = λ is. operand_is_of names j.typed sort.Boolean shape.Boolean o is refl; rest = λ is. refl }

  joined_sure : (spot : Spot) (chain : Chain) (j : Judged) → Truths chain → Operand names j.typed → Sure Truths (joined spot chain j)
  unfolding joined
  joined_sure spot chain j c o =
      sure_then (λ t. truths chain.sort (sort_of_expr j.typed) ≡ Some t) Truths (paired spot (truths chain.sort (sort_of_expr j.typed))) (with_operand chain j.typed)
      (paired_sure (λ t. truths chain.sort (sort_of_expr j.typed) ≡ Some t) spot (truths chain.sort (sort_of_expr j.typed)) (λ t is. is))
      (λ t is.
      let b = truths_are chain.sort (sort_of_expr j.typed) t c.known o.known is in
      sure_sound Truths (record { first = chain.first; sort = t; operands = chain.operands ++ j.typed ∷ [] })
      (record {
        known = λ (u : t ≡ sort.Unknown). (let e : t ≡ sort.Boolean = b.gives in absurd (cc));
        first = λ k. c.first b.left;
        rest = λ k. all_push (is_of shape.Boolean) (checked names) chain.operands j.typed (c.rest b.left) (operand_is_of names j.typed sort.Boolean shape.Boolean o b.right refl);
      }))

  join_sure : (spot : Spot) (chain : Chain) (part : Part) → Truths chain → Answers names part → Sure Truths (join_found spot chain part)
  join_sure spot chain part c p = sure_then (Answering names Value) Truths (part operand) (joined spot chain) (p.at_demand operand refl) (λ j a. joined_sure spot chain j c (operand_of names j a))

  logic_holds : (l : Logic) (first : TypedExpr) (rest : List TypedExpr) → is_of shape.Boolean (checked names first) ≡ true → list_all (is_of shape.Boolean) (map (checked names) rest) ≡ true → node_checked names (logic_node l first rest) (Some shape.Boolean) ≡ true
  logic_holds logic.Or first rest h k = rolled names (typed.Or first rest) (made.Or first rest) (Some shape.Boolean) (made.rolls-Or first rest) (and_from (same shape.Boolean shape.Boolean) (all_of shape.Boolean (checked names first ∷ map (checked names) rest)) (same_self shape.Boolean) (and_from (is_of shape.Boolean (checked names first)) (all_of shape.Boolean (map (checked names) rest)) h k))
  logic_holds logic.Xor first rest h k = rolled names (typed.Xor first rest) (made.Xor first rest) (Some shape.Boolean) (made.rolls-Xor first rest) (and_from (same shape.Boolean shape.Boolean) (all_of shape.Boolean (checked names first ∷ map (checked names) rest)) (same_self shape.Boolean) (and_from (is_of shape.Boolean (checked names first)) (all_of shape.Boolean (map (checked names) rest)) h k))
  logic_holds logic.And first rest h k = rolled names (typed.And first rest) (made.And first rest) (Some shape.Boolean) (made.rolls-And first rest) (and_from (same shape.Boolean shape.Boolean) (all_of shape.Boolean (checked names first ∷ map (checked names) rest)) (same_self shape.Boolean) (and_from (is_of shape.Boolean (checked names first)) (all_of shape.Boolean (map (checked names) rest)) h k))

  chain_sure : (spot : Spot) (demand : Demand) (l : Logic) (chain : Chain) → Truths chain → Sure (Answering names demand.wish) (chain_of spot demand l chain)
  unfolding chain_of
  chain_sure spot demand l chain c =
      operated_sure names spot demand (truth chain.sort) (logic_node l chain.first chain.operands) (λ t is.
      let b = truth_is chain.sort t c.known is in
      given_boolean names (logic_node l chain.first chain.operands) t b.1 (logic_holds l chain.first chain.operands (c.first b.0) (c.rest b.0)))

  logic_rest_sure : (l : Logic) (parts : List Part) (spot : Spot) (demand : Demand) → AllByRecursion (Answers names) parts → (first : Judged) → Answering names Value first → Sure (Answering names demand.wish) (logic_rest l parts spot demand first)
  unfolding logic_rest
  logic_rest_sure l parts spot demand all first a =
      sure_then Truths (Answering names demand.wish) (through (join_found spot) (chain_start first) parts) (chain_of spot demand l)
      (sure_through (Answers names) Truths (join_found spot) (λ c b i g. join_sure spot c b i g) (chain_start first) parts all (truths_start first (operand_of names first a)))
      (chain_sure spot demand l)

  pub logic_answers : (l : Logic) (first : Part) (parts : List Part) (spot : Spot) → Answers names first → AllByRecursion (Answers names) parts → Answers names (logic_found l first parts spot)
  logic_answers l first parts spot f all = record { at_demand = λ demand stands. sure_then (Answering names Value) (Answering names demand.wish) (first operand) (logic_rest l parts spot demand) (f.at_demand operand refl) (logic_rest_sure l parts spot demand all) }

  -- ---- `+` and `-`, `*`, `/` and `%`

  abbrev operands_of : List TypedLink → List Checked
  operands_of links = map (λ l. l.operand) (map (link_checked names) links)

  -- what is made so far of a chain: integers, or texts that are joined
  record Numbers (chain : LinkChain) : Type 0 where
    known : Unknown chain.sort → ⊥
    first_integer : chain.sort ≡ sort.Integer → is_of shape.Integer (checked names chain.first) ≡ true
    first_text : chain.sort ≡ sort.Text → is_of shape.Text (checked names chain.first) ≡ true
    integers : chain.sort ≡ sort.Integer → list_all (is_of shape.Integer) (operands_of chain.links) ≡ true
    texts : chain.sort ≡ sort.Text → list_all (is_of shape.Text) (operands_of chain.links) ≡ true
    adds : chain.sort ≡ sort.Text → list_all (λ l. is_add l.operator) (map (link_checked names) chain.links) ≡ true

  numbers_start : (j : Judged) → Operand names j.typed → Numbers (links_start j)
  numbers_start j o = record {
    known = o.known;
    first_integer = λ is. operand_is_of names j.typed sort.Integer shape.Integer o is refl;
    first_text = λ is. operand_is_of names j.typed sort.Text shape.Text o is refl;
    integers = λ is. refl;
    texts = λ is. refl;
    adds = λ is. refl;
  }

  link_of_shape : (s : Shape) (o : Operator) (e : TypedExpr) → is_of s (checked names e) ≡ true → is_of s (link_checked names (roll-TypedLink record { operator = o; operand = e })).operand ≡ true
  link_of_shape s o e h = ap (λ (l : TypedLinked). is_of s l.operand) (link_made names o e) ∙ h

  link_adds : (o : Operator) (e : TypedExpr) → is_add o ≡ true → is_add (link_checked names (roll-TypedLink record { operator = o; operand = e })).operator ≡ true
  link_adds o e h = ap (λ (l : TypedLinked). is_add l.operator) (link_made names o e) ∙ h

  link_sure : (spot : Spot) (chain : LinkChain) (o : Operator) (j : Judged) → Numbers chain → Operand names j.typed → Sure Numbers (link_of spot chain o j)
  unfolding link_of
  link_sure spot chain o j c p =
      sure_then (λ t. linked o chain.sort (sort_of_expr j.typed) ≡ Some t) Numbers (paired spot (linked o chain.sort (sort_of_expr j.typed))) (with_link chain o j.typed)
      (paired_sure (λ t. linked o chain.sort (sort_of_expr j.typed) ≡ Some t) spot (linked o chain.sort (sort_of_expr j.typed)) (λ t is. is))
      (λ t is.
      let b = linked_is o chain.sort (sort_of_expr j.typed) t c.known p.known is in
      sure_sound Numbers (record { first = chain.first; sort = t; links = chain.links ++ roll-TypedLink record { operator = o; operand = j.typed } ∷ [] })
      (record {
        known = b.known;
        first_integer = λ k. c.first_integer (b.left ∙ k);
        first_text = λ k. c.first_text (b.left ∙ k);
        integers = λ k. all_push_twice (is_of shape.Integer) (λ l. l.operand) (link_checked names) chain.links (roll-TypedLink record { operator = o; operand = j.typed }) (c.integers (b.left ∙ k)) (link_of_shape shape.Integer o j.typed (operand_is_of names j.typed sort.Integer shape.Integer p (b.right ∙ k) refl));
        texts = λ k. all_push_twice (is_of shape.Text) (λ l. l.operand) (link_checked names) chain.links (roll-TypedLink record { operator = o; operand = j.typed }) (c.texts (b.left ∙ k)) (link_of_shape shape.Text o j.typed (operand_is_of names j.typed sort.Text shape.Text p (b.right ∙ k) refl));
        adds = λ k. all_push (λ l. is_add l.operator) (link_checked names) chain.links (roll-TypedLink record { operator = o; operand = j.typed }) (c.adds (b.left ∙ k)) (link_adds o j.typed (b.adds k));
      }))

  -- an operator and an operand that answers
  pub record LinkAnswers (l : Linked) : Type 0 where
    pub operand_answers : Answers names l.operand

  link_found_sure : (spot : Spot) (chain : LinkChain) (l : Linked) → Numbers chain → LinkAnswers l → Sure Numbers (link_found spot chain l)
  link_found_sure spot chain l c p = sure_then (Answering names Value) Numbers (l.operand operand) (link_of spot chain l.operator) (p.operand_answers.at_demand operand refl) (λ j a. link_sure spot chain l.operator j c (operand_of names j a))

  integers_hold : (first : TypedExpr) (links : List TypedLink) → is_of shape.Integer (checked names first) ≡ true → list_all (is_of shape.Integer) (operands_of links) ≡ true → links_so shape.Integer (checked names first) (map (link_checked names) links) ≡ true
  integers_hold first links h k = or_left _ _ (and_from (same shape.Integer shape.Integer) (all_of shape.Integer (checked names first ∷ operands_of links)) (same_self shape.Integer) (and_from (is_of shape.Integer (checked names first)) (list_all (is_of shape.Integer) (operands_of links)) h k))

  texts_hold : (first : TypedExpr) (links : List TypedLink) → is_of shape.Text (checked names first) ≡ true → list_all (is_of shape.Text) (operands_of links) ≡ true → list_all (λ l. is_add l.operator) (map (link_checked names) links) ≡ true → links_so shape.Text (checked names first) (map (link_checked names) links) ≡ true
  texts_hold first links h k a = or_right _ _ (and_from _ _ (and_from (same shape.Text shape.Text) (all_of shape.Text (checked names first ∷ operands_of links)) (same_self shape.Text) (and_from (is_of shape.Text (checked names first)) (list_all (is_of shape.Text) (operands_of links)) h k)) a)

  level_holds : (l : Level) (first : TypedExpr) (links : List TypedLink) (s : Shape) → links_so s (checked names first) (map (link_checked names) links) ≡ true → node_checked names (level_node l first links) (Some s) ≡ true
  level_holds level.Sum first links s h = rolled names (typed.Sum first links) (made.Sum first links) (Some s) (made.rolls-Sum first links) h
  level_holds level.Product first links s h = rolled names (typed.Product first links) (made.Product first links) (Some s) (made.rolls-Product first links) h

  links_given : (l : Level) (chain : LinkChain) (t : Sort) → Numbers chain → chain.sort ≡ t → (t ≡ sort.Integer) ⊎ (t ≡ sort.Text) → IsGiven names (level_node l chain.first chain.links) (given_by t)
  links_given l chain t c is (inl k) = given_integer names (level_node l chain.first chain.links) t k (level_holds l chain.first chain.links shape.Integer (integers_hold chain.first chain.links (c.first_integer (is ∙ k)) (c.integers (is ∙ k))))
  links_given l chain t c is (inr k) = given_text names (level_node l chain.first chain.links) t k (level_holds l chain.first chain.links shape.Text (texts_hold chain.first chain.links (c.first_text (is ∙ k)) (c.texts (is ∙ k)) (c.adds (is ∙ k))))

  links_sure : (spot : Spot) (demand : Demand) (l : Level) (chain : LinkChain) → Numbers chain → Sure (Answering names demand.wish) (links_of spot demand l chain)
  unfolding links_of
  links_sure spot demand l chain c =
      operated_sure names spot demand (addable (Some chain.sort)) (level_node l chain.first chain.links) (λ t is.
      let b = addable_is chain.sort t c.known is in links_given l chain t c b.0 b.1)

  links_rest_sure : (l : Level) (links : List Linked) (spot : Spot) (demand : Demand) → AllByRecursion LinkAnswers links → (first : Judged) → Answering names Value first → Sure (Answering names demand.wish) (links_rest l links spot demand first)
  unfolding links_rest
  links_rest_sure l links spot demand all first a =
      sure_then Numbers (Answering names demand.wish) (through (link_found spot) (links_start first) links) (links_of spot demand l)
      (sure_through LinkAnswers Numbers (link_found spot) (λ c b i g. link_found_sure spot c b i g) (links_start first) links all (numbers_start first (operand_of names first a)))
      (links_sure spot demand l)

  pub links_answer : (l : Level) (first : Part) (links : List Linked) (spot : Spot) → Answers names first → AllByRecursion LinkAnswers links → Answers names (links_found l first links spot)
  links_answer l first links spot f all = record { at_demand = λ demand stands. sure_then (Answering names Value) (Answering names demand.wish) (first operand) (links_rest l links spot demand) (f.at_demand operand refl) (links_rest_sure l links spot demand all) }
