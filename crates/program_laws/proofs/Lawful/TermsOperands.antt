-- Operands of constraints, and durations: what is evaluated at the `on` is plain, and a bound name that is named is one of a left side.
use Rattle.std.proofs.Common.{◌≡◌, ◌&&◌, ◌||◌, ◌∷◌, ◌++◌, if◌then◌else◌}
use Rattle.program_laws.proofs.Common.{ℕ, Bool, true, false, not, List, [], length, refl, sym, ap, subst, ◌∙◌, true≢false, list_all, and_parts, and_from, not-true, Spot, Shape, Expr, out-Expr, Link, out-Link, Operator, Suffix, TypedExpr, TypedLink, out-TypedLink, roll-TypedLink, out-roll-TypedLink, Operand, all_mention, Sight, named_in, Scope, Table, Found, Judged, Demand, seen, typed_of, expr_found, Reached, Sofar, Naming, is_own, with_sum, bound, sum_layer, Layer, layer_of, is_path_of, sign_naming, links_naming, form_layer, naming_of, Went, went, expr_names, Mentioned, is_barred}
use Rattle.epl_tree.specs.declared.expression.ExprNode.TheOpen as node
use Rattle.epl_tree.specs.declared.expression.Operator.TheVariants as operator
use Rattle.typed_program.specs.declared.term.Operand.TheVariants as operand
use Rattle.expr_rules.specs.Asked.{operand as operand_demand}
use Rattle.expr_rules.specs.Then.{and_then}
use Rattle.expr_check.specs.Expressions.{part_of}
use Rattle.listener_check.specs.declared.value.Naming.TheVariants as naming
use Rattle.listener_check.specs.Limits.{short, sum_read}
use Rattle.listener_check.specs.Names.{mentions}
use Rattle.listener_check.specs.Operands.{path_in, placed, signed, added_operand, sum_operand, given_operand, operand_of, named_operand, operand_read, is_integer}
use Rattle.listener_check.specs.Operands as reading
use Rattle.listener_check.specs.Values.{is_field, is_root, is_path, form_of, exactly, named_value}
use Rattle.listener_check.specs.Went.{given}
use Rattle.program_laws.proofs.Exprs.Sure.{Sure, sure_then, sure_sound}
use Rattle.program_laws.proofs.Terms.Astray.{astray_is_told}
use Rattle.program_laws.proofs.Terms.Thus.{Thus, thus_went, thus_then, thus_behind, thus_given, thus_weaker}
use Rattle.program_laws.proofs.Lawful.TermsBound.{Widened, free_part, free_found, own_unseen}
use Rattle.program_laws.proofs.Lawful.TermsBrought.{ExpressionLaws, Brings, brings_none, brings_value, or_case}
use Rattle.program_laws.proofs.Lawful.TermsNaming.{path_names, sum_names}
use Rattle.program_laws.proofs.Lawful.TermsValues.{among, Lefts, Rooted, root_at, path_rooted, path_at, SumOf, signed_sum}

-- no fault in a part, none in what is found of its expression
clear_found : (table : Table) (scope : Scope) (e : Expr) (demand : Demand) → (part_of table scope e demand).faults ≡ [] → (expr_found table scope e demand).faults ≡ []
unfolding and_then
clear_found table scope e demand none = ap (λ (l : List _). l ++ []) none

found_typed : (table : Table) (scope : Scope) (e : Expr) (demand : Demand) → (part_of table scope e demand).part.typed ≡ (expr_found table scope e demand).part
unfolding and_then
found_typed table scope e demand = refl

module _ (table : Table) (scope inner : Scope) (w : Widened scope inner) (sight : Sight) (laws : ExpressionLaws) where
  -- bound names of left sides
  abbrev pub all_among : List ℕ → List ℕ → Bool
  all_among nums ns = list_all (among nums) ns

  abbrev pub Bring : (List ℕ → Bool) → Sofar → Sofar → Type 0
  Bring named s t = Brings table scope sight named s t

  -- an operand that brings what it evaluates, and names bound names of left sides alone
  pub record OperandSo (left : List (List ℕ)) (e : Expr) (s : Sofar) (o : Operand) (t : Sofar) : Type 0 where
    pub brings : Bring (expr_names e) s t
    pub names_left : (nums : List ℕ) → Lefts table scope inner w left nums → all_among nums (named_in o) ≡ true

  abbrev OperandIs : List (List ℕ) → Expr → Sofar → Went Operand → Type 0
  OperandIs left e s read = Thus (OperandSo left e s) read

  -- what is found of an expression in the scope around
  record Is (e : Expr) (demand : Demand) (x : TypedExpr) : Type 0 where
    none : (expr_found table scope e demand).faults ≡ []
    is : x ≡ (expr_found table scope e demand).part

  free_is : (s : Shape) (e : Expr) → mentions (is_own scope inner) e ≡ false → Sure (Is e (exactly s false)) (expr_found table inner e (exactly s false))
  free_is s e h = let same = free_found table scope inner w e (exactly s false) h in record { where_clear = λ none. record { none = sym (ap (λ f. f.faults) same) ∙ none; is = ap (λ f. f.part) same } }

  right_is : (e : Expr) → mentions (is_own scope inner) e ≡ false → Sure (λ j. Is e operand_demand j.typed) (part_of table inner e operand_demand)
  right_is e h = let same = free_part table scope inner w e operand_demand h in record {
    where_clear = λ none. record {
      none = clear_found table scope e operand_demand (sym (ap (λ f. f.faults) same) ∙ none);
      is = ap (λ (f : Found Judged). f.part.typed) same ∙ found_typed table scope e operand_demand;
    };
  }

  -- ---- by how an operand names

  valued : (Q : TypedExpr → Type 0) (n : Naming) (shape : Shape) (left : List (List ℕ)) (e : Expr) (s : Sofar) → Sure Q (named_value table inner n shape e) → ((x : TypedExpr) → Q x → OperandIs left e s (operand_of n x s)) → OperandIs left e s (named_operand table scope inner n shape e s)
  unfolding named_operand
  valued Q n shape left e s sure next =
      thus_then (λ x t. Q x × (t ≡ s)) (OperandSo left e s) (given (named_value table inner n shape e) s) (λ x t. operand_of n x t)
      (thus_given Q (λ x t. Q x × (t ≡ s)) (named_value table inner n shape e) s sure (λ x q. (q, refl)))
      (λ x t q. subst (λ (u : Sofar). OperandIs left e s (operand_of n x u)) (sym q.1) (next x q.0))

  astray : (shape : Shape) (left : List (List ℕ)) (e : Expr) (s : Sofar) → OperandIs left e s (named_operand table scope inner naming.Astray shape e s)
  unfolding named_value
  astray shape left e s = valued (λ x. ⊥) naming.Astray shape left e s (record { where_clear = λ none. astray_is_told table inner e (exactly shape true) refl none }) (λ x never. absurd never)

  free : (shape : Shape) (left : List (List ℕ)) (e : Expr) (s : Sofar) → mentions (is_own scope inner) e ≡ false → OperandIs left e s (named_operand table scope inner naming.Free shape e s)
  unfolding operand_of named_value given_operand placed
  free shape left e s h =
      valued (Is e (exactly shape false)) naming.Free shape left e s (free_is shape e h) (λ x q.
      let t : Sofar = record s { operands = s.operands ++ x ∷ [] } in
      thus_then (λ n u. u ≡ t) (OperandSo left e s) (placed x s) (λ at u. went (operand.Given at) u) (thus_went (λ n u. u ≡ t) (short (length s.operands)) t refl)
      (λ at u is. subst (λ (v : Sofar). OperandIs left e s (went (operand.Given at) v)) (sym is) (thus_went (OperandSo left e s) (operand.Given at) t (record {
        brings = brings_value table scope sight laws e (exactly shape false) x s refl q.none q.is;
        names_left = λ nums l. refl;
      }))))

  path_mentions : (left : List (List ℕ)) (e first : Expr) (us : List Suffix) (more : List TypedExpr) → layer_of e ≡ node.Postfix first us → is_path_of scope inner left first us ≡ true → Mentioned scope (expr_names e) (all_mention more)
  path_mentions left e first us more is h =
      let p = and_parts (is_root scope inner left first) (list_all is_field us) h in
      let root = root_at table scope inner w left first p.0 in
      record {
        mentioned = λ name s named at global.
            let same = path_names e first us root.name is root.layered p.1 name named in
            absurd (own_unseen table scope inner w root.name s root.own (ap (seen scope) same ∙ at));
      }

  typed_rooted : (left : List (List ℕ)) (shape : Shape) (e first : Expr) (us : List Suffix) → layer_of e ≡ node.Postfix first us → is_path_of scope inner left first us ≡ true → Sure (Rooted table scope inner w left) (expr_found table inner e (exactly shape false))
  typed_rooted left shape e first us is h =
      sure_then (λ j. Rooted table scope inner w left j.typed) (Rooted table scope inner w left) (part_of table inner e (exactly shape false)) typed_of (path_rooted table scope inner w left e first us is h (exactly shape false))
      (λ j r. sure_sound (Rooted table scope inner w left) j.typed r)

  path : (shape : Shape) (left : List (List ℕ)) (e first : Expr) (us : List Suffix) (s : Sofar) → layer_of e ≡ node.Postfix first us → is_path_of scope inner left first us ≡ true → OperandIs left e s (named_operand table scope inner naming.Path shape e s)
  unfolding operand_of named_value
  path shape left e first us s is h =
      valued (Rooted table scope inner w left) naming.Path shape left e s (typed_rooted left shape e first us is h) (λ x r.
      thus_went (OperandSo left e s) (bound (path_in x)) s (record {
        brings = brings_none table scope sight (expr_names e) s s refl (path_mentions left e first us [] is h);
        names_left = λ nums l. and_from (among nums (path_in x).place) true (r nums l) refl;
      }))

  -- ---- sums

  abbrev SumIs : List (List ℕ) → Link → TypedExpr → Type 0
  SumIs left link x = SumOf (λ j. Rooted table scope inner w left j.typed) (λ j. Is (out-Link link).operand operand_demand j.typed) (out-Link link).operator x

  typed_sum : (left : List (List ℕ)) (shape : Shape) (e first : Expr) (link : Link) → layer_of e ≡ node.Sum first (link ∷ []) → is_path scope inner left first ≡ true → mentions (is_own scope inner) (out-Link link).operand ≡ false → Sure (SumIs left link) (expr_found table inner e (exactly shape false))
  typed_sum left shape e first link is h apart =
      sure_then (λ j. SumIs left link j.typed) (SumIs left link) (part_of table inner e (exactly shape false)) typed_of
      (signed_sum table scope inner w (λ j. Is (out-Link link).operand operand_demand j.typed) left e first link (exactly shape false) is h (right_is (out-Link link).operand apart))
      (λ j r. sure_sound (SumIs left link) j.typed r)

  sum_brings : (left : List (List ℕ)) (e first : Expr) (link : Link) (x : TypedExpr) (s : Sofar) → layer_of e ≡ node.Sum first (link ∷ []) → is_path scope inner left first ≡ true → Is (out-Link link).operand operand_demand x → Bring (expr_names e) s (record s { operands = s.operands ++ x ∷ [] })
  sum_brings left e first link x s is h q =
      let at = path_at table scope inner w left first h in
      let named = (out-Link link).operand in
      let b = brings_value table scope sight laws named operand_demand x s refl q.none q.is in
      let unseen = path_mentions left first at.first at.steps [] at.layered at.is_path_so in
      record {
        new = b.new;
        are = b.are;
        plain_so = λ sees special. b.plain_so (record {
          sees_at = λ name y here seen_at global barred. sees.sees_at name y (sum_names e first link is name ∙ behind_first (expr_names first name) (expr_names named name) here) seen_at global barred;
        }) special;
        mention_so = record {
          mentioned = λ name y here seen_at global.
              or_case ((all_mention b.new y.number ≡ true) × (is_barred y ≡ false)) (expr_names first name) (expr_names named name || false) (sym (sum_names e first link is name) ∙ here)
              (λ front. let m = unseen.mentioned name y front seen_at global in absurd (true≢false (sym m.0)))
              (λ behind. let m = b.mention_so in m.mentioned name y (alone (expr_names named name) behind) seen_at global);
        };
      }
    where
      behind_first : (a b : Bool) → b ≡ true → (a || (b || false)) ≡ true
      behind_first true b h = refl
      behind_first false true h = refl
      behind_first false false h = h

      alone : (b : Bool) → (b || false) ≡ true → b ≡ true
      alone true h = refl
      alone false h = h

  added : (n : Naming) (left : List (List ℕ)) (e first : Expr) (link : Link) (x : TypedExpr) (s : Sofar) → layer_of e ≡ node.Sum first (link ∷ []) → is_path scope inner left first ≡ true → ((r : Reached) (m : ℕ) → named_in (signed n r m) ≡ r.place ∷ []) → SumIs left link x → OperandIs left e s (sum_operand n x s)
  unfolding sum_operand added_operand placed
  added n left e first link x s is h form q =
      let right = q.right in
      let typed_link : TypedLink = roll-TypedLink record { operator = (out-Link link).operator; operand = right.typed } in
      let y : TypedExpr = (out-TypedLink typed_link).operand in
      let y_is : y ≡ right.typed = ap (λ d. d.operand) (out-roll-TypedLink (record { operator = (out-Link link).operator; operand = right.typed })) in
      let t : Sofar = record s { operands = s.operands ++ y ∷ [] } in
      let so = q.right_so in
      let z = q.left in
      subst (λ (d : reading.Layer). OperandIs left e s (sum_layer n d s)) (sym q.layered)
      (thus_then (λ m u. u ≡ t) (OperandSo left e s) (placed y s) (λ at u. went (signed n (path_in z.typed) at) u) (thus_went (λ m u. u ≡ t) (short (length s.operands)) t refl)
      (λ at u same. subst (λ (v : Sofar). OperandIs left e s (went (signed n (path_in z.typed) at) v)) (sym same) (thus_went (OperandSo left e s) (signed n (path_in z.typed) at) t (record {
        brings = sum_brings left e first link y s is h (record { none = so.none; is = y_is ∙ so.is });
        names_left = λ nums l. ap (all_among nums) (form (path_in z.typed) at) ∙ and_from (among nums (path_in z.typed).place) true (let r = q.left_so in r nums l) refl;
      }))))

  plus : (shape : Shape) (left : List (List ℕ)) (e first : Expr) (link : Link) (s : Sofar) → layer_of e ≡ node.Sum first (link ∷ []) → is_path scope inner left first ≡ true → mentions (is_own scope inner) (out-Link link).operand ≡ false → OperandIs left e s (named_operand table scope inner naming.Plus shape e s)
  unfolding operand_of named_value
  plus shape left e first link s is h apart = valued (SumIs left link) naming.Plus shape left e s (typed_sum left shape e first link is h apart) (λ x q. added naming.Plus left e first link x s is h (λ r m. refl) q)

  minus : (shape : Shape) (left : List (List ℕ)) (e first : Expr) (link : Link) (s : Sofar) → layer_of e ≡ node.Sum first (link ∷ []) → is_path scope inner left first ≡ true → mentions (is_own scope inner) (out-Link link).operand ≡ false → OperandIs left e s (named_operand table scope inner naming.Minus shape e s)
  unfolding operand_of named_value
  minus shape left e first link s is h apart = valued (SumIs left link) naming.Minus shape left e s (typed_sum left shape e first link is h apart) (λ x q. added naming.Minus left e first link x s is h (λ r m. refl) q)

  -- ---- all forms

  module _ (shape : Shape) (left : List (List ℕ)) (e : Expr) (s : Sofar) where
    abbrev Named : Naming → Type 0
    Named n = OperandIs left e s (named_operand table scope inner n shape e s)

    none_so : Named naming.Astray
    none_so = astray shape left e s

    signed_so : (first : Expr) (link : Link) → layer_of e ≡ node.Sum first (link ∷ []) → is_path scope inner left first ≡ true → mentions (is_own scope inner) (out-Link link).operand ≡ false → (o : Operator) → Named (sign_naming o)
    signed_so first link is h apart operator.Add = plus shape left e first link s is h apart
    signed_so first link is h apart operator.Subtract = minus shape left e first link s is h apart
    signed_so first link is h apart o = none_so

    link_so : (first : Expr) (link : Link) → layer_of e ≡ node.Sum first (link ∷ []) → (q : Bool) → (is_path scope inner left first && not (mentions (is_own scope inner) (out-Link link).operand)) ≡ q → Named (if q then sign_naming (out-Link link).operator else naming.Astray)
    link_so first link is true h = let p = and_parts (is_path scope inner left first) (not (mentions (is_own scope inner) (out-Link link).operand)) h in signed_so first link is p.0 (not-true (mentions (is_own scope inner) (out-Link link).operand) p.1) (out-Link link).operator
    link_so first link is false h = none_so

    links_so : (first : Expr) (links : List Link) → layer_of e ≡ node.Sum first links → Named (links_naming scope inner left first links)
    links_so first [] is = none_so
    links_so first (link ∷ []) is = link_so first link is (is_path scope inner left first && not (mentions (is_own scope inner) (out-Link link).operand)) refl
    links_so first (link ∷ next ∷ links) is = none_so

    sum_so : (first : Expr) (links : List Link) → layer_of e ≡ node.Sum first links → (integer : Bool) → Named (if integer then links_naming scope inner left first links else naming.Astray)
    sum_so first links is true = links_so first links is
    sum_so first links is false = none_so

    postfix_so : (first : Expr) (us : List Suffix) → layer_of e ≡ node.Postfix first us → (q : Bool) → is_path_of scope inner left first us ≡ q → Named (if q then naming.Path else naming.Astray)
    postfix_so first us is true p = path shape left e first us s is p
    postfix_so first us is false p = none_so

    layer_so : (d : Layer) → layer_of e ≡ d → Named (form_layer scope inner left (is_integer shape) d)
    layer_so (node.Postfix first us) is = postfix_so first us is (is_path_of scope inner left first us) refl
    layer_so (node.Sum first links) is = sum_so first links is (is_integer shape)
    layer_so d is = none_so

    form_so : Named (form_of scope inner left (is_integer shape) e)
    unfolding form_of
    form_so = layer_so (layer_of e) refl

    naming_so : (m : Bool) → mentions (is_own scope inner) e ≡ m → Named (if m then form_of scope inner left (is_integer shape) e else naming.Free)
    naming_so true is = form_so
    naming_so false is = free shape left e s is

    named_so : Named (naming_of scope inner left (is_integer shape) e)
    named_so = naming_so (mentions (is_own scope inner) e) refl

  -- counting an operand adds none
  pub sum_same : (spot : Spot) (s : Sofar) → Thus (λ u t. t.operands ≡ s.operands) (sum_read spot s)
  unfolding sum_read
  sum_same spot s = thus_behind (λ u t. t.operands ≡ s.operands) _ (went tt (with_sum s)) (λ none. thus_went (λ u t. t.operands ≡ s.operands) tt (with_sum s) refl)

  -- behind what adds no operand
  pub brings_from : (named : List ℕ → Bool) (s t u : Sofar) → t.operands ≡ s.operands → Bring named t u → Bring named s u
  brings_from named s t u same b = record { new = b.new; are = b.are ∙ ap (λ (l : List TypedExpr). l ++ b.new) same; plain_so = b.plain_so; mention_so = b.mention_so }

  -- for every operand
  pub operand_so : (left : List (List ℕ)) (shape : Shape) (e : Expr) (s : Sofar) → OperandIs left e s (operand_read table scope inner left shape e s)
  unfolding operand_read
  operand_so left shape e s =
      thus_then (λ u t. t.operands ≡ s.operands) (OperandSo left e s) (sum_read (out-Expr e).spot s) (λ u t. named_operand table scope inner (naming_of scope inner left (is_integer shape) e) shape e t) (sum_same (out-Expr e).spot s)
      (λ u t same. thus_weaker (OperandSo left e t) (OperandSo left e s) (named_operand table scope inner (naming_of scope inner left (is_integer shape) e) shape e t) (named_so shape left e t)
      (λ o v q. record { brings = brings_from (expr_names e) s t v same q.brings; names_left = q.names_left }))
