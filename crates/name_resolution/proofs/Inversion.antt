-- What the parts of a typed expression are, by the form of its tree.
use Rattle.std.proofs.Common.{◌≡◌, ℕ, List, Some, refl, subst}
use Rattle.epl_tree.specs.declared.expression.Expr.{Expr}
use Rattle.epl_tree.specs.declared.expression.ExprNode.TheOpen as tree
use Rattle.epl_tree.specs.declared.expression.Link.{Link}
use Rattle.epl_tree.specs.declared.expression.Suffix.{Suffix}
use Rattle.typed_program.specs.declared.expression.TypedExpr.{TypedExpr}
use Rattle.typed_program.specs.declared.expression.TypedLink.{TypedLink}
use Rattle.typed_program.specs.declared.expression.TypedNode.TheOpen as typed
use Rattle.typed_program.specs.declared.expression.TypedSuffix.{TypedSuffix}
use Rattle.name_resolution.specs.Names.{Named, Meant, Around, meaning_of}
use Rattle.name_resolution.specs.Expressions.{Form, TypedForm, form_of, typed_form, shape_of, variable_form, ExprIs, FormIs, NodeIs, LinksAre, StepsAre}
use Rattle.name_resolution.specs.Expressions as rule

module _ (around : Around) (names : List Named) where
  pub record PostfixIs (first : Expr) (us : List Suffix) (t : TypedForm) : Type 0 where
    pub value : TypedExpr
    pub steps : List TypedSuffix
    pub is : t ≡ typed.Postfix value steps
    pub first_is : ExprIs around names first value
    pub steps_are : StepsAre around names (shape_of value) us steps

  pub record SumIs (first : Expr) (ls : List Link) (t : TypedForm) : Type 0 where
    pub value : TypedExpr
    pub links : List TypedLink
    pub is : t ≡ typed.Sum value links
    pub first_is : ExprIs around names first value
    pub links_are : LinksAre around names ls links

  pub record NameIs (name : List ℕ) (x : TypedExpr) : Type 0 where
    pub meant : Meant
    pub there : meaning_of names name ≡ Some meant
    pub shaped : shape_of x ≡ meant.shape
    pub made : typed_form x ≡ variable_form meant.variable

  -- what a form asks, for the three forms
  Asks : Form → TypedForm → Type 0
  Asks (tree.Postfix first us) t = PostfixIs first us t
  Asks (tree.Sum first ls) t = SumIs first ls t
  Asks (tree.Name name) t = ⊥
  Asks f t = Unit {0}

  node_asks : {f : Form} {t : TypedForm} → NodeIs around names f t → Asks f t
  unfolding Asks
  node_asks (rule.or h k) = tt
  node_asks (rule.xor h k) = tt
  node_asks (rule.and h k) = tt
  node_asks (rule.negation h) = tt
  node_asks (rule.compare h k) = tt
  node_asks (rule.sum h k) = record { value = _; links = _; is = refl; first_is = h; links_are = k }
  node_asks (rule.product h k) = tt
  node_asks (rule.minus h) = tt
  node_asks (rule.negative h) = tt
  node_asks rule.integer = tt
  node_asks rule.quoted = tt
  node_asks rule.boolean = tt
  node_asks (rule.event h k) = tt
  node_asks (rule.action h k) = tt
  node_asks (rule.sequence h) = tt
  node_asks (rule.dictionary h) = tt
  node_asks (rule.context h) = tt
  node_asks rule.current = tt
  node_asks (rule.postfix h k) = record { value = _; steps = _; is = refl; first_is = h; steps_are = k }

  Wants : Form → TypedExpr → Type 0
  Wants (tree.Postfix first us) x = PostfixIs first us (typed_form x)
  Wants (tree.Sum first ls) x = SumIs first ls (typed_form x)
  Wants (tree.Name name) x = NameIs name x
  Wants f x = Unit {0}

  from_node : (f : Form) (x : TypedExpr) → Asks f (typed_form x) → Wants f x
  unfolding Asks Wants
  from_node (tree.Postfix first us) x h = h
  from_node (tree.Sum first ls) x h = h
  from_node (tree.Name name) x h = absurd h
  from_node f x h = tt

  form_wants : {f : Form} {x : TypedExpr} → FormIs around names f x → Wants f x
  unfolding Wants
  form_wants (rule.group h) = tt
  form_wants (rule.new t s f) = tt
  form_wants (rule.name n s f) = record { meant = _; there = n; shaped = s; made = f }
  form_wants {f} {x} (rule.form h) = from_node f x (node_asks h)

  expr_wants : {e : Expr} {x : TypedExpr} → ExprIs around names e x → Wants (form_of e) x
  expr_wants (rule.is h) = form_wants h

  pub postfix_parts : (e first : Expr) (us : List Suffix) (x : TypedExpr) → form_of e ≡ tree.Postfix first us → ExprIs around names e x → PostfixIs first us (typed_form x)
  unfolding Wants
  postfix_parts e first us x is h = subst (λ (f : Form). Wants f x) is (expr_wants h)

  pub sum_parts : (e first : Expr) (ls : List Link) (x : TypedExpr) → form_of e ≡ tree.Sum first ls → ExprIs around names e x → SumIs first ls (typed_form x)
  unfolding Wants
  sum_parts e first ls x is h = subst (λ (f : Form). Wants f x) is (expr_wants h)

  pub name_parts : (e : Expr) (name : List ℕ) (x : TypedExpr) → form_of e ≡ tree.Name name → ExprIs around names e x → NameIs name x
  unfolding Wants
  name_parts e name x is h = subst (λ (f : Form). Wants f x) is (expr_wants h)
