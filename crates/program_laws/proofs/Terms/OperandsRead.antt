-- An operand without faults is of the shape that its field has.
use Rattle.std.proofs.Common.{◌≡◌, ◌&&◌, ◌∷◌, ◌<◌, if◌then◌else◌}
use Rattle.program_laws.proofs.Common.{ℕ, Bool, true, false, not, List, [], length, Option, refl, ap, ◌∙◌, and_parts, not-true, Shape, Expr, out-Expr, Suffix, Link, out-Link, Operator, TypedExpr, Operand, same, stands, Names, shape_of, if_known, path_is, Scope, Table, Exactly, typed_of, KnowsTable, KnowsNamed, Sofar, Naming, is_own, bound, Layer, layer_of, is_path_of, sign_naming, links_naming, form_layer, naming_of, Went, expr_names}
use Rattle.epl_tree.specs.declared.expression.ExprNode.TheOpen as node
use Rattle.epl_tree.specs.declared.expression.Operator.TheVariants as operator
use Rattle.expr_check.specs.Expressions.{part_of}
use Rattle.listener_check.specs.declared.value.Naming.TheVariants as naming
use Rattle.listener_check.specs.Limits.{sum_read}
use Rattle.listener_check.specs.Names.{mentions}
use Rattle.listener_check.specs.Operands.{path_in, operand_of, named_operand, operand_read, is_integer}
use Rattle.listener_check.specs.Values.{is_path, form_of, exactly, named_value}
use Rattle.program_laws.proofs.Exprs.Sure.{sure_then, sure_sound}
use Rattle.program_laws.proofs.Exprs.Answering.{Answering}
use Rattle.program_laws.proofs.Terms.Paths.{Reaching}
use Rattle.program_laws.proofs.Terms.Roots.{bounds, bound_names, postfix_part}
use Rattle.program_laws.proofs.Terms.States.{Settled, State, Made, Roomy, around, sum_thus, extends_same, extends_on}
use Rattle.program_laws.proofs.Terms.Sums.{plus_thus, minus_thus}
use Rattle.program_laws.proofs.Terms.Valued.{exact_fits, sure_both, So, valued_thus, astray_thus, free_thus}
use Rattle.program_laws.proofs.Terms.Thus.{Thus, thus_went, thus_then, thus_weaker}

module _ (table : Table) (names : Names) (scope inner : Scope) (k : KnowsTable table names scope) where
  abbrev PathGood : Shape → TypedExpr → Type 0
  PathGood s x = Settled names scope inner → path_is (around names scope inner []) s (path_in x).place (path_in x).fields ≡ true

  path_thus : (s : Shape) → stands names.types s ≡ true → (left : List (List ℕ)) (e first : Expr) (us : List Suffix) (b : Scope) (at : Sofar) → State names scope inner b at → layer_of e ≡ node.Postfix first us → is_path_of scope inner left first us ≡ true → Thus (Made names scope inner (So table names scope inner k s) b at) (named_operand table scope inner naming.Path s e at)
  unfolding operand_of named_value around
  path_thus s there left e first us b at h is path =
      valued_thus table names scope inner k (PathGood s) naming.Path s e b at
      (record {
        where_clear = λ none z.
            let p = postfix_part table names scope inner k z left e first us is path in
            let demand = exactly s false in
            let found = sure_then (λ j. Answering (bound_names table names scope inner k z) (Exactly s) j × Reaching table names scope k (bounds table names scope inner k z) j) (λ x. path_is (around names scope inner []) s (path_in x).place (path_in x).fields ≡ true) (part_of table inner e demand) typed_of
            (sure_both (Answering (bound_names table names scope inner k z) (Exactly s)) (Reaching table names scope k (bounds table names scope inner k z)) (part_of table inner e demand) (p.answers.at_demand demand there) (p.reaches demand))
            (λ j q. sure_sound (λ x. path_is (around names scope inner []) s (path_in x).place (path_in x).fields ≡ true) j.typed
            (let fit = q.0.fit in ap (λ (o : Option Shape). if_known (same s) o) q.1 ∙ (exact_fits s (shape_of j.typed) fit).1)) in
            found.where_clear none;
      })
      (λ x good. thus_went (Made names scope inner (So table names scope inner k s) b at) (bound (path_in x)) at (record { state = h; grows = extends_same at at refl; fit = λ z more. good z }))

  -- ---- all forms

  abbrev Read : Shape → Scope → Sofar → Went Operand → Type 0
  Read s b at w = Thus (Made names scope inner (So table names scope inner k s) b at) w

  module _ (s : Shape) (there : stands names.types s ≡ true) (left : List (List ℕ)) (e : Expr) (named : KnowsNamed names scope (expr_names e)) (b : Scope) (at : Sofar) (h : State names scope inner b at) (space : length at.operands < at.sums) where
    abbrev Named : Naming → Type 0
    Named n = Read s b at (named_operand table scope inner n s e at)

    astray : Named naming.Astray
    astray = astray_thus table names scope inner k s e b at

    signed_thus : (first : Expr) (link : Link) → layer_of e ≡ node.Sum first (link ∷ []) → is_integer s ≡ true → is_path scope inner left first ≡ true → mentions (is_own scope inner) (out-Link link).operand ≡ false → (o : Operator) → Named (sign_naming o)
    signed_thus first link is integer path apart_so operator.Add = plus_thus table names scope inner k s left e first link named b at h space is integer path apart_so
    signed_thus first link is integer path apart_so operator.Subtract = minus_thus table names scope inner k s left e first link named b at h space is integer path apart_so
    signed_thus first link is integer path apart_so o = astray

    link_thus : (first : Expr) (link : Link) → layer_of e ≡ node.Sum first (link ∷ []) → is_integer s ≡ true → (q : Bool) → (is_path scope inner left first && not (mentions (is_own scope inner) (out-Link link).operand)) ≡ q → Named (if q then sign_naming (out-Link link).operator else naming.Astray)
    link_thus first link is integer true h = let p = and_parts (is_path scope inner left first) (not (mentions (is_own scope inner) (out-Link link).operand)) h in signed_thus first link is integer p.0 (not-true (mentions (is_own scope inner) (out-Link link).operand) p.1) (out-Link link).operator
    link_thus first link is integer false h = astray

    links_thus : (first : Expr) (links : List Link) → layer_of e ≡ node.Sum first links → is_integer s ≡ true → Named (links_naming scope inner left first links)
    links_thus first [] is integer = astray
    links_thus first (link ∷ []) is integer = link_thus first link is integer (is_path scope inner left first && not (mentions (is_own scope inner) (out-Link link).operand)) refl
    links_thus first (link ∷ next ∷ links) is integer = astray

    sum_thus_at : (first : Expr) (links : List Link) → layer_of e ≡ node.Sum first links → (integer : Bool) → is_integer s ≡ integer → Named (if integer then links_naming scope inner left first links else naming.Astray)
    sum_thus_at first links is true i = links_thus first links is i
    sum_thus_at first links is false i = astray

    postfix_thus : (first : Expr) (us : List Suffix) → layer_of e ≡ node.Postfix first us → (q : Bool) → is_path_of scope inner left first us ≡ q → Named (if q then naming.Path else naming.Astray)
    postfix_thus first us is true p = path_thus s there left e first us b at h is p
    postfix_thus first us is false p = astray

    layer_thus : (d : Layer) → layer_of e ≡ d → Named (form_layer scope inner left (is_integer s) d)
    layer_thus (node.Postfix first us) is = postfix_thus first us is (is_path_of scope inner left first us) refl
    layer_thus (node.Sum first links) is = sum_thus_at first links is (is_integer s) refl
    layer_thus d is = astray

    form_thus : Named (form_of scope inner left (is_integer s) e)
    unfolding form_of
    form_thus = layer_thus (layer_of e) refl

    naming_thus : (m : Bool) → mentions (is_own scope inner) e ≡ m → Named (if m then form_of scope inner left (is_integer s) e else naming.Free)
    naming_thus true is = form_thus
    naming_thus false is = free_thus table names scope inner k s there e named b at h space is

    named_thus : Named (naming_of scope inner left (is_integer s) e)
    named_thus = naming_thus (mentions (is_own scope inner) e) refl

  -- for every operand
  pub operand_thus : (s : Shape) → stands names.types s ≡ true → (left : List (List ℕ)) (e : Expr) → KnowsNamed names scope (expr_names e) → (b : Scope) (at : Sofar) → State names scope inner b at → Read s b at (operand_read table scope inner left s e at)
  unfolding operand_read
  operand_thus s there left e named b at h =
      thus_then (λ u t. Roomy names scope inner b at t) (Made names scope inner (So table names scope inner k s) b at) (sum_read (out-Expr e).spot at) (λ u t. named_operand table scope inner (naming_of scope inner left (is_integer s) e) s e t)
      (sum_thus names scope inner (out-Expr e).spot b at h)
      (λ u t r. thus_weaker (Made names scope inner (So table names scope inner k s) b t) (Made names scope inner (So table names scope inner k s) b at) (named_operand table scope inner (naming_of scope inner left (is_integer s) e) s e t)
      (named_thus s there left e named b t r.state r.space)
      (λ x v m. record { state = m.state; grows = extends_on at t v (extends_same at t r.same) m.grows; fit = m.fit }))
