-- A template without faults keeps the rules; what it evaluates at the `on` is plain, and mentions what it names.
use Rattle.std.proofs.Common.{◌≡◌, ◌&&◌, ◌||◌, ◌∷◌, ◌++◌}
use Rattle.program_laws.proofs.Common.{ℕ, Bool, true, List, [], map, length, Option, Some, None, slice_get, refl, sym, ap, subst, ◌∙◌, true≢false, arith, list_all, flat_map, and_from, flat_map-append, list_all-append, Spot, EventShape, Field, Shape, Constraint, ConstraintNode, Range, Template, TemplateClause, Comparison, Expr, Operand, TemplateShape, Names, Sight, named_in, operands_in, constraint_lawful, asked_fields, differ, Scope, Table, told, event_of, Done, Sofar, Clauses, is_named, number_of, missing_code, field_codes, none_done, lies, missing_read, found_read, numbered_read, constraint_read, constraint_step, constraints_read, leaf_codes, with_leaf, fields_of, no_clauses, clauses_read, template_of, template_read, went, expr_names, range_names, constraint_names, clause_names, template_names, any_of, KnowsTable}
use Rattle.epl_tree.specs.declared.event.ConstraintNode.TheVariants as node
use Rattle.epl_tree.specs.declared.event.TemplateClause.TheVariants as clause
use Rattle.epl_tree.specs.declared.expression.Comparison.TheVariants as comparison
use Rattle.typed_program.specs.declared.term.Constraint.{Constraint as Typed}
use Rattle.typed_program.specs.declared.term.ConstraintNode.{ConstraintNode as TypedNode}
use Rattle.typed_program.specs.declared.term.ConstraintNode.TheVariants as made
use Rattle.typed_program.specs.TermRules.{template_lawful, names_left}
use Rattle.listener_check.specs.Constraints.{compares_read, lies_read, asked_read, placed_read}
use Rattle.listener_check.specs.Durations.{duration_read}
use Rattle.listener_check.specs.Limits.{short, leaf_read}
use Rattle.listener_check.specs.Operands.{operand_read}
use Rattle.listener_check.specs.Templates.{name_read, clause_read, parts_read, typed_read}
use Rattle.listener_check.specs.Went.{through, ◌>>=◌}
use Rattle.stmt_check.specs.Captures.{constraint_node}
use Rattle.program_laws.proofs.Exprs.Calls.{event_numbered}
use Rattle.program_laws.proofs.Shapes.Lists.{slice_some, no_told}
use Rattle.program_laws.proofs.Terms.ConstraintRules.{Keep, constraints_keep_rules}
use Rattle.program_laws.proofs.Terms.Counted.{Used, OfDone, constraints_used, duration_used}
use Rattle.program_laws.proofs.Terms.Thus.{Thus, thus_went, thus_then, thus_behind, thus_weaker}
use Rattle.program_laws.proofs.Lawful.TermsBound.{Widened}
use Rattle.program_laws.proofs.Lawful.TermsBrought.{ExpressionLaws, brings_none, brings_on, unnamed}
use Rattle.program_laws.proofs.Lawful.TermsDurations.{duration_brings}
use Rattle.program_laws.proofs.Lawful.TermsNewly.{Newly, newly_same, newly_on, Pushed, name_newly, thus_both, thus_where}
use Rattle.program_laws.proofs.Lawful.TermsOperands.{Bring, all_among, OperandSo, operand_so, brings_from}
use Rattle.program_laws.proofs.Lawful.TermsValues.{Lefts}

module _ (table : Table) (scope inner : Scope) (w : Widened scope inner) (sight : Sight) (laws : ExpressionLaws) where
  abbrev pub Brought : (List ℕ → Bool) → Sofar → Sofar → Type 0
  Brought named s t = Bring table scope inner w sight laws named s t

  abbrev pub LeftNames : List (List ℕ) → List ℕ → Type 0
  LeftNames left nums = Lefts table scope inner w left nums

  abbrev all_named : List ℕ → List Operand → Bool
  all_named nums os = list_all (λ o. all_among table scope inner w sight laws nums (named_in o)) os

  -- operands that name bound names of left sides alone
  abbrev OfLeft : List (List ℕ) → List Operand → Type 0
  OfLeft left os = (nums : List ℕ) → LeftNames left nums → all_named nums os ≡ true

  module _ (left : List (List ℕ)) where
    record Asks (named : List ℕ → Bool) (s : Sofar) (x : TypedNode) (t : Sofar) : Type 0 where
      brings : Brought named s t
      of_left : OfLeft left (operands_in x)

    compares_ask : (shape : Shape) (c : Comparison) (e : Expr) (s : Sofar) → Thus (Asks (expr_names e) s) (compares_read table scope inner left shape c e s)
    unfolding compares_read
    compares_ask shape c e s =
        thus_then (OperandSo table scope inner w sight laws left e s) (Asks (expr_names e) s) (operand_read table scope inner left shape e s) (λ x t. went (made.Compares c x) t) (operand_so table scope inner w sight laws left shape e s)
        (λ x t o. thus_went (Asks (expr_names e) s) (made.Compares c x) t (record { brings = o.brings; of_left = λ nums l. and_from (all_among table scope inner w sight laws nums (named_in x)) true (o.names_left nums l) refl }))

    lies_ask : (shape : Shape) (r : Range) (s : Sofar) → Thus (Asks (range_names r) s) (lies_read table scope inner left shape r s)
    unfolding lies_read
    lies_ask shape r s =
        thus_then (OperandSo table scope inner w sight laws left r.low.bound s) (Asks (range_names r) s) (operand_read table scope inner left shape r.low.bound s) (λ low t. operand_read table scope inner left shape r.high.bound t >>= λ high u. went (lies table scope inner left r low high) u) (operand_so table scope inner w sight laws left shape r.low.bound s)
        (λ low t a. thus_then (OperandSo table scope inner w sight laws left r.high.bound t) (Asks (range_names r) s) (operand_read table scope inner left shape r.high.bound t) (λ high u. went (lies table scope inner left r low high) u) (operand_so table scope inner w sight laws left shape r.high.bound t)
        (λ high u b. thus_went (Asks (range_names r) s) (lies table scope inner left r low high) u (record {
          brings = brings_on table scope sight (expr_names r.low.bound) (expr_names r.high.bound) s t u a.brings b.brings;
          of_left = λ nums l. and_from (all_among table scope inner w sight laws nums (named_in low)) (all_named nums (high ∷ [])) (a.names_left nums l) (and_from (all_among table scope inner w sight laws nums (named_in high)) true (b.names_left nums l) refl);
        })))

    asked_asks : (shape : Shape) (n : ConstraintNode) (s : Sofar) → Thus (Asks (constraint_node n) s) (asked_read table scope inner left shape n s)
    unfolding asked_read
    asked_asks shape node.Any s = thus_went (Asks (constraint_node node.Any) s) made.Any s (record { brings = brings_none table scope sight (constraint_node node.Any) s s refl (unnamed table scope sight (constraint_node node.Any) [] (λ name h. true≢false (sym h))); of_left = λ nums l. refl })
    asked_asks shape (node.Equals e) s = compares_ask shape comparison.Equal e s
    asked_asks shape (node.Compares c e) s = compares_ask shape c e s
    asked_asks shape (node.Lies r) s = lies_ask shape r s
    asked_asks shape (node.NamedCompares name c e) s = compares_ask shape c e s
    asked_asks shape (node.NamedLies name r) s = lies_ask shape r s

    -- a constraint at its field
    record Constrains (c : Constraint) (s : Sofar) (x : Typed) (t : Sofar) : Type 0 where
      brings : Brought (constraint_names c) s t
      of_left : OfLeft left (operands_in x.node)

    placed_constrains : (number : ℕ) (shape : Shape) (done : List Typed) (named : Bool) (c : Constraint) (s : Sofar) → Thus (Constrains c s) (placed_read table scope inner left number shape done named c s)
    unfolding placed_read
    placed_constrains number shape done named c s =
        thus_behind (Constrains c s) (told c.spot (field_codes number shape done named c.node)) (asked_read table scope inner left shape c.node s >>= λ n t. went (record { field = short number; node = n }) t) (λ none.
        thus_then (Asks (constraint_node c.node) s) (Constrains c s) (asked_read table scope inner left shape c.node s) (λ n t. went (record { field = short number; node = n }) t) (asked_asks shape c.node s)
        (λ n t a. thus_went (Constrains c s) (record { field = short number; node = n }) t (record { brings = a.brings; of_left = a.of_left })))

    missing_constrains : (c : Constraint) (s : Sofar) → Thus (Constrains c s) (missing_read table scope inner left c s)
    missing_constrains c s = thus_behind (Constrains c s) (told c.spot (missing_code c.node ∷ [])) (went (record { field = 0; node = made.Any }) s) (λ none. absurd (let e = no_told c.spot (missing_code c.node ∷ []) none in cc))

    found_constrains : (number : ℕ) (o : Option Field) (done : List Typed) (named : Bool) (c : Constraint) (s : Sofar) → Thus (Constrains c s) (found_read table scope inner left number o done named c s)
    found_constrains number (Some f) done named c s = placed_constrains number f.shape done named c s
    found_constrains number None done named c s = missing_constrains c s

    numbered_constrains : (fields : List Field) (o : Option ℕ) (done : List Typed) (named : Bool) (c : Constraint) (s : Sofar) → Thus (Constrains c s) (numbered_read table scope inner left fields o done named c s)
    numbered_constrains fields (Some number) done named c s = found_constrains number _ done named c s
    numbered_constrains fields None done named c s = missing_constrains c s

    abbrev operands_all : List Typed → List Operand
    operands_all cs = flat_map (λ c. operands_in c.node) cs

    operands_push : (cs : List Typed) (x : Typed) → operands_all (cs ++ x ∷ []) ≡ operands_all cs ++ (operands_in x.node ++ [])
    operands_push cs x = flat_map-append (λ d. operands_in d.node) cs (x ∷ [])

    operands_end : (os : List Operand) → os ++ [] ≡ os
    operands_end [] = refl
    operands_end (o ∷ os) = ap (λ (l : List Operand). o ∷ l) (operands_end os)

    left_push : (cs : List Typed) (x : Typed) → OfLeft left (operands_all cs) → OfLeft left (operands_in x.node) → OfLeft left (operands_all (cs ++ x ∷ []))
    left_push cs x h k nums l =
        ap (all_named nums) (operands_push cs x ∙ ap (λ (os : List Operand). operands_all cs ++ os) (operands_end (operands_in x.node)))
        ∙ list_all-append (λ o. all_among table scope inner w sight laws nums (named_in o)) (operands_all cs) (operands_in x.node)
        ∙ and_from (all_named nums (operands_all cs)) (all_named nums (operands_in x.node)) (h nums l) (k nums l)

    -- constraints in a row
    record AllConstrain (cs : List Constraint) (s : Sofar) (d : Done) (t : Sofar) : Type 0 where
      brings : Brought (any_of (map constraint_names cs)) s t
      of_left : OfLeft left (operands_all d.constraints)

    abbrev next_done : Done → Constraint → Typed → Done
    next_done done c x = record { constraints = done.constraints ++ x ∷ []; named = done.named || is_named c.node }

    step_constrains : (fields : List Field) (done : Done) (c : Constraint) (s : Sofar) → OfLeft left (operands_all done.constraints) → Thus (λ d t. Brought (constraint_names c) s t × OfLeft left (operands_all d.constraints)) (constraint_step table scope inner left fields done c s)
    step_constrains fields done c s h =
        thus_then (Constrains c s) (λ d t. Brought (constraint_names c) s t × OfLeft left (operands_all d.constraints)) (constraint_read table scope inner left fields done.constraints done.named c s) (λ x t. went (next_done done c x) t)
        (numbered_constrains fields (number_of fields (length done.constraints) c.node) done.constraints done.named c s)
        (λ x t a. thus_went (λ d u. Brought (constraint_names c) s u × OfLeft left (operands_all d.constraints)) (next_done done c x) t (a.brings, left_push done.constraints x h a.of_left))

    all_constrain : (fields : List Field) (cs : List Constraint) (done : Done) (s : Sofar) → OfLeft left (operands_all done.constraints) → Thus (AllConstrain cs s) (through (constraint_step table scope inner left fields) done cs s)
    unfolding through
    all_constrain fields [] done s h = thus_went (AllConstrain [] s) done s (record { brings = brings_none table scope sight (any_of []) s s refl (unnamed table scope sight (any_of []) [] (λ name k. true≢false (sym k))); of_left = h })
    all_constrain fields (c ∷ cs) done s h =
        thus_then (λ d t. Brought (constraint_names c) s t × OfLeft left (operands_all d.constraints)) (AllConstrain (c ∷ cs) s) (constraint_step table scope inner left fields done c s) (λ next t. through (constraint_step table scope inner left fields) next cs t) (step_constrains fields done c s h)
        (λ next t a. thus_weaker (AllConstrain cs t) (AllConstrain (c ∷ cs) s) (through (constraint_step table scope inner left fields) next cs t) (all_constrain fields cs next t a.1)
        (λ d u b. record { brings = brings_on table scope sight (constraint_names c) (any_of (map constraint_names cs)) s t u a.0 b.brings; of_left = b.of_left }))

  -- ---- clauses

  record AllClauses (under : Bool) (named : List ℕ → Bool) (s t : Sofar) : Type 0 where
    brings : Brought named s t
    newly : Newly under s t

  clause_so : (under : Bool) (made : Clauses) (c : TemplateClause) (s : Sofar) → Thus (λ x t. AllClauses under (clause_names c) s t) (clause_read table scope inner under made c s)
  unfolding clause_read
  clause_so under made (clause.As name) s =
      thus_then (λ place t. Pushed under s t) (λ x t. AllClauses under (clause_names (clause.As name)) s t) (name_read scope under made.binds name s) (λ place t. went (record made { binds = Some place }) t) (name_newly scope under made.binds name s)
      (λ place t p. thus_went (λ x u. AllClauses under (clause_names (clause.As name)) s u) (record made { binds = Some place }) t (record {
        brings = brings_none table scope sight (clause_names (clause.As name)) s t p.operands (unnamed table scope sight (clause_names (clause.As name)) [] (λ other h. true≢false (sym h)));
        newly = p.newly;
      }))
  clause_so under made (clause.Within d) s =
      thus_then (λ at t. Brought (clause_names (clause.Within d)) s t × Used 1 s t) (λ x t. AllClauses under (clause_names (clause.Within d)) s t) (duration_read table scope inner d s) (λ at t. went (record made { within = Some at }) t)
      (thus_both (λ at t. Brought (clause_names (clause.Within d)) s t) (λ at t. Used 1 s t) (duration_read table scope inner d s) (duration_brings table scope inner w sight laws d s) (duration_used table scope inner d s))
      (λ at t p. thus_went (λ x u. AllClauses under (clause_names (clause.Within d)) s u) (record made { within = Some at }) t (record { brings = p.0; newly = newly_same under s t (let used = p.1 in used.names) }))

  clauses_so : (under : Bool) (cs : List TemplateClause) (made : Clauses) (s : Sofar) → Thus (λ x t. AllClauses under (any_of (map clause_names cs)) s t) (through (clause_read table scope inner under) made cs s)
  unfolding through
  clauses_so under [] made s = thus_went (λ x t. AllClauses under (any_of []) s t) made s (record { brings = brings_none table scope sight (any_of []) s s refl (unnamed table scope sight (any_of []) [] (λ name k. true≢false (sym k))); newly = newly_same under s s refl })
  clauses_so under (c ∷ cs) made s =
      thus_then (λ x t. AllClauses under (clause_names c) s t) (λ x t. AllClauses under (any_of (map clause_names (c ∷ cs))) s t) (clause_read table scope inner under made c s) (λ next t. through (clause_read table scope inner under) next cs t) (clause_so under made c s)
      (λ next t a. thus_weaker (λ x u. AllClauses under (any_of (map clause_names cs)) t u) (λ x u. AllClauses under (any_of (map clause_names (c ∷ cs))) s u) (through (clause_read table scope inner under) next cs t) (clauses_so under cs next t)
      (λ x u b. record { brings = brings_on table scope sight (clause_names c) (any_of (map clause_names cs)) s t u a.brings b.brings; newly = newly_on under s t u a.newly b.newly }))

  -- ---- templates

  module _ (names : Names) where
    -- a template that keeps the rules
    pub record TemplateSo (under : Bool) (left : List (List ℕ)) (t : Template) (s : Sofar) (x : TemplateShape) (u : Sofar) : Type 0 where
      pub brings : Brought (template_names t) s u
      pub newly : Newly under s u
      pub lawful : KnowsTable table names scope → (nums : List ℕ) → LeftNames left nums → template_lawful names.types x nums ≡ true

    -- constraints that may stand
    record Stand (event : ℕ) (d : Done) : Type 0 where
      may : list_all (constraint_lawful names.types event) d.constraints ≡ true
      once : differ (asked_fields d.constraints) ≡ true

    parts_so : (fields : List Field) (event : ℕ) (under : Bool) (left : List (List ℕ)) (t : Template) (start s : Sofar) → s.names ≡ start.names → s.operands ≡ start.operands → (KnowsTable table names scope → Thus (λ d u. Stand event d) (constraints_read table scope inner left fields t.constraints s)) → Thus (TemplateSo under left t start) (parts_read table scope inner fields event under left t s)
    unfolding parts_read
    parts_so fields event under left t start s same_names same_operands stand =
        let cs = constraints_read table scope inner left fields t.constraints s in
        thus_then (λ d u. (AllConstrain left t.constraints s d u × OfDone table scope inner s d u) × (KnowsTable table names scope → Stand event d)) (TemplateSo under left t start) cs (λ done u. clauses_read table scope inner under t.clauses u >>= λ made v. went (template_of table scope inner event t done.constraints made) v)
        (thus_both (λ d u. AllConstrain left t.constraints s d u × OfDone table scope inner s d u) (λ d u. KnowsTable table names scope → Stand event d) cs
        (thus_both (AllConstrain left t.constraints s) (OfDone table scope inner s) cs (all_constrain left fields t.constraints none_done s (λ nums l. refl)) (constraints_used table scope inner left fields t.constraints s))
        (thus_where (KnowsTable table names scope) (λ d u. Stand event d) cs stand))
        (λ done u p. thus_then (λ made v. AllClauses under (any_of (map clause_names t.clauses)) u v) (TemplateSo under left t start) (clauses_read table scope inner under t.clauses u) (λ made v. went (template_of table scope inner event t done.constraints made) v)
        (clauses_so under t.clauses no_clauses u)
        (λ made v q.
        let a = p.0.0 in let used = p.0.1 in
        thus_went (TemplateSo under left t start) (template_of table scope inner event t done.constraints made) v (record {
          brings = brings_from table scope inner w sight laws (template_names t) start s v same_operands (brings_on table scope sight (any_of (map constraint_names t.constraints)) (any_of (map clause_names t.clauses)) s u v a.brings q.brings);
          newly = newly_on under start u v (newly_same under start u (used.names ∙ same_names)) q.newly;
          lawful = λ k nums l.
              let stands = p.1 k in
              and_from (list_all (constraint_lawful names.types event) done.constraints && differ (asked_fields done.constraints)) (names_left nums (template_of table scope inner event t done.constraints made))
              (and_from (list_all (constraint_lawful names.types event) done.constraints) (differ (asked_fields done.constraints)) stands.may stands.once)
              (a.of_left nums l);
        })))

    -- what is read of a leaf
    pub record SameButLeaves (s t : Sofar) : Type 0 where
      pub names_same : t.names ≡ s.names
      pub operands_same : t.operands ≡ s.operands

    -- for every leaf
    pub leaf_same : (spot : Spot) (s : Sofar) → Thus (λ u t. SameButLeaves s t) (leaf_read spot s)
    unfolding leaf_read
    leaf_same spot s = thus_behind (λ u t. SameButLeaves s t) (told spot (leaf_codes s)) (went tt (with_leaf s)) (λ none. thus_went (λ u t. SameButLeaves s t) tt (with_leaf s) (record { names_same = refl; operands_same = refl }))

    stands_known : (n : ℕ) (left : List (List ℕ)) (t : Template) (s : Sofar) → event_of table t.event ≡ Some n → KnowsTable table names scope → Thus (λ d u. Stand (short n) d) (constraints_read table scope inner left (fields_of (slice_get table.types n)) t.constraints s)
    stands_known n left t s is k =
        let below = event_numbered table names scope k n t.event is in
        let few = k.few in
        let small : short n ≡ n = omega arith in
        let event = slice_some names.types n below in
        let fields_is : fields_of (slice_get table.types n) ≡ event.0.fields = ap (λ (types : List EventShape). fields_of (slice_get types n)) k.types ∙ ap fields_of event.1 in
        let there : slice_get names.types (short n) ≡ Some event.0 = ap (λ (m : ℕ). slice_get names.types m) small ∙ event.1 in
        subst (λ (fields : List Field). Thus (λ d u. Stand (short n) d) (constraints_read table scope inner left fields t.constraints s)) (sym fields_is)
        (thus_weaker (λ d u. Keep table names scope inner k left (short n) event.0 there d) (λ d u. Stand (short n) d) (constraints_read table scope inner left event.0.fields t.constraints s)
        (constraints_keep_rules table names scope inner k left (short n) event.0 there t.constraints s)
        (λ d u keep. record { may = keep.lawful; once = keep.apart }))

    typed_so : (o : Option ℕ) (spot : Spot) (under : Bool) (left : List (List ℕ)) (t : Template) (s : Sofar) → event_of table t.event ≡ o → Thus (TemplateSo under left t s) (typed_read table scope inner o spot under left t s)
    unfolding typed_read
    typed_so None spot under left t s is = thus_behind (TemplateSo under left t s) (told spot (2 ∷ [])) (went (template_of table scope inner 0 t [] no_clauses) s) (λ none. absurd (let e = no_told spot (2 ∷ []) none in cc))
    typed_so (Some n) spot under left t s is =
        thus_then (λ u v. SameButLeaves s v) (TemplateSo under left t s) (leaf_read spot s) (λ u v. parts_read table scope inner (fields_of (slice_get table.types n)) (short n) under left t v) (leaf_same spot s)
        (λ u v same. parts_so (fields_of (slice_get table.types n)) (short n) under left t s v same.names_same same.operands_same (λ k. stands_known n left t v is k))

    -- for every template
    pub template_keeps : (spot : Spot) (under : Bool) (left : List (List ℕ)) (t : Template) (s : Sofar) → Thus (TemplateSo under left t s) (template_read table scope inner spot under left t s)
    template_keeps spot under left t s = typed_so (event_of table t.event) spot under left t s refl
