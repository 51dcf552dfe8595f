-- Each template of an event expression that is as it should be binds a name of its event's shape.
use Rattle.std.proofs.Common.{◌≡◌, ◌∷◌, ◌&&◌, option_map}
use Rattle.std.proofs.lemmas.Option.{slice_get-map}
use Rattle.epl_values.specs.declared.shape.Shape.{Shape}
use Rattle.epl_values.specs.declared.shape.Shape.TheVariants as shape
use Rattle.typed_program.specs.declared.term.Duration.{Duration}
use Rattle.typed_program.specs.declared.term.Term.{Term, Term-F, map-Term, roll-Term, fold-roll-Term, ind-Term}
use Rattle.typed_program.specs.declared.term.Term.TheOpen as term
use Rattle.typed_program.specs.Shapes.{same}
use Rattle.typed_program.specs.Expressions.{if_known}
use Rattle.typed_program.specs.Terms.{Around, all_hold, binds_so, fits_term, template_so, term_so}
use Rattle.value_shapes.proofs.Same.{same_is}
use Rattle.term_meaning.specs.declared.progress.Link.{Link}
use Rattle.term_meaning.specs.declared.progress.Link.TheVariants as link
use Rattle.term_meaning.specs.Patterns as pattern
use Rattle.term_meaning.specs.Patterns.{Operand, first_of, second_of, chained, grouped, joined, joined_and, operand_of, operand_step, pattern_of, plain}
use Rattle.term_shapes.proofs.Common.{ℕ, Bool, true, List, [], map, Option, Some, None, slice_get, sym, ap, subst, ◌∙◌, and_parts, cond_both, AllByRecursion, EventShape, Local, TemplateShape, Pattern}

-- the name that a template binds is an event of its type
pub record BindsShape (bound : List Local) (t : TemplateShape) : Type 0 where
  pub name : (n : ℕ) → t.binds ≡ Some n → (local : Local) → slice_get bound n ≡ Some local → shape.Event t.event ≡ local.shape

-- so does each template of a pattern
abbrev pub AllBind : List Local → Pattern → Type 0
AllBind bound (pattern.Template t) = BindsShape bound t
AllBind bound (pattern.Wait d) = Unit {0}
AllBind bound (pattern.All x) = AllBind bound x
AllBind bound (pattern.Followed x y) = AllBind bound x × AllBind bound y
AllBind bound (pattern.And x y) = AllBind bound x × AllBind bound y
AllBind bound (pattern.AndNot x y) = AllBind bound x × AllBind bound y
AllBind bound (pattern.NotAnd x y) = AllBind bound x × AllBind bound y
AllBind bound (pattern.Or x y) = AllBind bound x × AllBind bound y
AllBind bound (pattern.Xor x y) = AllBind bound x × AllBind bound y
AllBind bound (pattern.Within x d) = AllBind bound x

module _ (bound : List Local) where
  -- ---- the operands of a pattern

  -- the first operand of such a pattern
  pub first_binds : (p : Pattern) → AllBind bound p → AllBind bound (first_of p)
  unfolding first_of
  first_binds (pattern.Template t) h = h
  first_binds (pattern.Wait d) h = h
  first_binds (pattern.All x) h = h
  first_binds (pattern.Followed x y) h = h.0
  first_binds (pattern.And x y) h = h.0
  first_binds (pattern.AndNot x y) h = h.0
  first_binds (pattern.NotAnd x y) h = h.0
  first_binds (pattern.Or x y) h = h.0
  first_binds (pattern.Xor x y) h = h.0
  first_binds (pattern.Within x d) h = h

  -- and the second
  pub second_binds : (p : Pattern) → AllBind bound p → AllBind bound (second_of p)
  unfolding second_of
  second_binds (pattern.Template t) h = h
  second_binds (pattern.Wait d) h = h
  second_binds (pattern.All x) h = h
  second_binds (pattern.Followed x y) h = h.1
  second_binds (pattern.And x y) h = h.1
  second_binds (pattern.AndNot x y) h = h.1
  second_binds (pattern.NotAnd x y) h = h.1
  second_binds (pattern.Or x y) h = h.1
  second_binds (pattern.Xor x y) h = h.1
  second_binds (pattern.Within x d) h = h

  -- ---- chains

  -- two operands of an `and`
  and_binds : (a b : Operand) → AllBind bound a.pattern → AllBind bound b.pattern → AllBind bound (joined_and a b)
  and_binds a b h k =
      cond_both a.negated (pattern.NotAnd a.pattern b.pattern) _ (AllBind bound) (λ _. (h, k))
      (λ _. cond_both b.negated (pattern.AndNot a.pattern b.pattern) (pattern.And a.pattern b.pattern) (AllBind bound) (λ _. (h, k)) (λ _. (h, k)))

  -- two operands, joined
  joined_binds : (l : Link) (a b : Operand) → AllBind bound a.pattern → AllBind bound b.pattern → AllBind bound (joined l a b)
  unfolding joined
  joined_binds link.Followed a b h k = (h, k)
  joined_binds link.Or a b h k = (h, k)
  joined_binds link.Xor a b h k = (h, k)
  joined_binds link.And a b h k = and_binds a b h k

  -- a chain of such operands
  chained_binds : (l : Link) (first : Operand) (rest : List Operand) → AllBind bound first.pattern → AllByRecursion (λ (o : Operand). AllBind bound o.pattern) rest → AllBind bound (chained l first rest).pattern
  chained_binds l first [] h k = h
  chained_binds l first (o ∷ rest) h k = chained_binds l (plain (joined l first o)) rest (joined_binds l first o h k.0) k.1

  -- a group
  grouped_binds : (x : Pattern) (d : Option Duration) → AllBind bound x → AllBind bound (grouped x d)
  grouped_binds x None h = h
  grouped_binds x (Some d) h = h

-- ---- event expressions

module _ (types : List EventShape) (operands : List (Option Shape)) (tenths : List Bool) (bound : List Local) where
  -- what an event expression over these bound names may name
  abbrev around : Around
  around = record { types = types; operands = operands; tenths = tenths; bound = map (λ b. b.shape) bound }

  -- a bound name is an event of the template's type
  name_shape : (event : ℕ) (o : Option ℕ) (n : ℕ) (local : Local) → binds_so around event o ≡ true → o ≡ Some n → slice_get bound n ≡ Some local → shape.Event event ≡ local.shape
  name_shape event o n local so is at =
      let known : binds_so around event (Some n) ≡ true = subst (λ (p : Option ℕ). binds_so around event p ≡ true) is so in
      same_is (shape.Event event) local.shape (subst (λ (s : Option Shape). if_known (same (shape.Event event)) s ≡ true) (slice_get-map (λ (c : Local). c.shape) bound n ∙ ap (option_map (λ (c : Local). c.shape)) at) known)

  -- a template that is as it should be
  template_binds : (t : TemplateShape) → template_so around t ≡ true → BindsShape bound t
  template_binds t so =
      let binds = (and_parts _ (binds_so around t.event t.binds) (and_parts _ _ so).0).1 in
      record { name = λ n is local at. name_shape t.event t.binds n local binds is at }

  -- a term that is as it should be
  abbrev Binds : Term → Type 0
  Binds t = fits_term around t ≡ true → AllBind bound (operand_of t).pattern

  -- one of which this is known
  abbrev Known : Type 0
  Known = (t : Term) × Binds t

  -- the terms of a layer
  abbrev terms : Term-F Known → Term-F Term
  terms y = map-Term Known Term (λ e. e.0) y

  -- further operands of a chain
  rest_bind : (rest : List Known) → all_hold (map (fits_term around) (map (λ e. e.0) rest)) ≡ true → AllByRecursion (λ (o : Operand). AllBind bound o.pattern) (map operand_of (map (λ e. e.0) rest))
  rest_bind [] h = tt
  rest_bind (t ∷ rest) h =
      let both = and_parts (fits_term around t.0) (all_hold (map (fits_term around) (map (λ e. e.0) rest))) h in
      (t.1 both.0, rest_bind rest both.1)

  -- a chain of such terms
  chain_binds : (l : Link) (first : Known) (rest : List Known) → (fits_term around first.0 && all_hold (map (fits_term around) (map (λ e. e.0) rest))) ≡ true → AllBind bound (chained l (operand_of first.0) (map operand_of (map (λ e. e.0) rest))).pattern
  chain_binds l first rest h =
      let both = and_parts (fits_term around first.0) (all_hold (map (fits_term around) (map (λ e. e.0) rest))) h in
      chained_binds bound l (operand_of first.0) (map operand_of (map (λ e. e.0) rest)) (first.1 both.0) (rest_bind rest both.1)

  -- a layer of such terms
  layer_binds : (y : Term-F Known) → term_so around (map-Term Term Bool (fits_term around) (terms y)) ≡ true → AllBind bound (operand_step (map-Term Term Operand operand_of (terms y))).pattern
  layer_binds (term.Followed first rest) h = chain_binds link.Followed first rest h
  layer_binds (term.Or first rest) h = chain_binds link.Or first rest h
  layer_binds (term.Xor first rest) h = chain_binds link.Xor first rest h
  layer_binds (term.And first rest) h = chain_binds link.And first rest h
  layer_binds (term.All t) h = t.1 h
  layer_binds (term.Not t) h = t.1 h
  layer_binds (term.Group t d) h = grouped_binds bound (operand_of t.0).pattern d (t.1 (and_parts (fits_term around t.0) _ h).0)
  layer_binds (term.Wait d) h = tt
  layer_binds (term.Template t) h = template_binds t h

  -- the step of the induction
  term_case : (x : Term-F Term) (y : Term-F Known) → terms y ≡ x → Binds (roll-Term x)
  unfolding operand_of
  term_case x y is =
      subst (λ (z : Term-F Term). Binds (roll-Term z)) is
      (λ h. subst (λ (o : Operand). AllBind bound o.pattern) (sym (fold-roll-Term Operand operand_step (terms y)))
      (layer_binds y (sym (fold-roll-Term Bool (term_so around) (terms y)) ∙ h)))

  -- the pattern of a term that is as it should be
  pub term_binds : (t : Term) → fits_term around t ≡ true → AllBind bound (pattern_of t)
  term_binds = ind-Term Binds term_case
