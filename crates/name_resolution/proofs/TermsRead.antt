-- Event expressions in which no fault is found are their terms.
use Rattle.std.proofs.Common.{◌≡◌, ℕ, Bool, true, false, ◌||◌, if◌then◌else◌, List, [], ◌∷◌, ◌++◌, map, length, drop, slice_get, Option, Some, None, refl, subst, sym, ap, ◌∙◌}
use Rattle.std.proofs.lemmas.List.{length_push}
use Rattle.std.specs.List.{AllByRecursion}
use Rattle.span_text.specs.declared.spot.Spot.{Spot}
use Rattle.epl_values.specs.declared.shape.EventShape.{EventShape}
use Rattle.epl_values.specs.declared.shape.Field.{Field}
use Rattle.epl_values.specs.declared.shape.Shape.{Shape}
use Rattle.epl_tree.specs.declared.event.Constraint.{Constraint}
use Rattle.epl_tree.specs.declared.event.ConstraintNode.{ConstraintNode}
use Rattle.epl_tree.specs.declared.event.ConstraintNode.TheVariants as node
use Rattle.epl_tree.specs.declared.event.Duration.{Duration}
use Rattle.epl_tree.specs.declared.event.EventExpr.{EventExpr, EventExpr-F, map-EventExpr, roll-EventExpr, out-roll-EventExpr, fold-roll-EventExpr}
use Rattle.epl_tree.specs.declared.event.EventNode.{EventNode, EventNode-F, map-EventNode, roll-EventNode, out-EventNode, out-roll-EventNode, fold-EventNode, fold-roll-EventNode}
use Rattle.epl_tree.specs.declared.event.EventNode.TheOpen as event
use Rattle.epl_tree.specs.declared.event.EventNode.TheFolds.{ind-EventExpr}
use Rattle.epl_tree.specs.declared.event.Range.{Range}
use Rattle.epl_tree.specs.declared.event.Template.{Template}
use Rattle.epl_tree.specs.declared.event.TemplateClause.{TemplateClause}
use Rattle.epl_tree.specs.declared.event.TemplateClause.TheVariants as clause
use Rattle.epl_tree.specs.declared.expression.Comparison.{Comparison}
use Rattle.epl_tree.specs.declared.expression.Comparison.TheVariants as comparison
use Rattle.epl_tree.specs.declared.expression.Expr.{Expr}
use Rattle.typed_program.specs.declared.term.Constraint.{Constraint as Typed}
use Rattle.typed_program.specs.declared.term.ConstraintNode.{ConstraintNode as TypedNode}
use Rattle.typed_program.specs.declared.term.ConstraintNode.TheVariants as asked
use Rattle.typed_program.specs.declared.term.Operand.{Operand}
use Rattle.typed_program.specs.declared.term.TemplateShape.{TemplateShape}
use Rattle.typed_program.specs.declared.term.Term.{Term, Term-F, out-Term}
use Rattle.typed_program.specs.declared.term.Term.TheOpen as layer
use Rattle.typed_program.specs.declared.term.Term.TheVariants as term
use Rattle.type_table.specs.declared.scope.Scope.{Scope}
use Rattle.type_table.specs.declared.table.Table.{Table}
use Rattle.type_table.specs.Found.{told}
use Rattle.type_table.specs.Table.{event_of}
use Rattle.listener_check.specs.declared.constraint.Done.{Done}
use Rattle.listener_check.specs.declared.sofar.Sofar.{Sofar}
use Rattle.listener_check.specs.declared.template.Clauses.{Clauses}
use Rattle.listener_check.specs.Constraints.{number_of, missing_code, field_codes, is_named, none_done, compares_read, lies, lies_read, asked_read, placed_read, missing_read, found_read, numbered_read, constraint_read, constraint_step, constraints_read}
use Rattle.listener_check.specs.Durations.{duration_read}
use Rattle.listener_check.specs.Limits.{short, leaf_codes, with_leaf, leaf_read}
use Rattle.listener_check.specs.Operands.{operand_read}
use Rattle.listener_check.specs.Templates.{fields_of, is_taken, is_full, name_codes, with_name, name_read, no_clauses, clause_read, clauses_read, template_of, parts_read, typed_read, template_read}
use Rattle.listener_check.specs.Terms.{Part, not_codes, each_step, each, behind_step, each_behind, followed_behind, followed_read, joined_behind, or_read, xor_read, may_begin, and_read, not_read, all_read, deadline_read, plain, negated, wait_read, ended_read, group_read, leaf_template_read, node_step, expr_step, part_of}
use Rattle.listener_check.specs.Went.{Went, went, behind, through, ◌>>=◌}
use Rattle.stmt_check.specs.Captures.{Names, either, any_of, event_node, event_step, event_names, constraint_names, constraint_node, range_names, clause_names, template_names, limit_names, duration_names, expr_names}
use Rattle.type_table.specs.declared.scope.Seen.{Seen}
use Rattle.type_table.specs.declared.scope.SeenKind.TheVariants as kind
use Rattle.expr_rules.specs.Names.{seen}
use Rattle.listener_check.specs.Bound.{is_own, is_among}
use Rattle.type_table.specs.Table.{seen_of}
use Rattle.std.proofs.Common.{is_some}
use Rattle.std.proofs.lemmas.Bool.{or_parts}
use Rattle.typed_program.specs.declared.statement.Variable.TheVariants as var
use Rattle.name_resolution.specs.Names.{Meant}
use Rattle.name_resolution.specs.Events.{BoundAs}
use Rattle.name_resolution.proofs.Seeing.{meant_by}
use Rattle.name_resolution.specs.Names.{Named, Around, held, type_named, meaning_of}
use Rattle.name_resolution.specs.Events.{Inside, DurationIs, OperandIs, RangeIs, AskIs, field_of, ConstraintsAre, ClausesAre, fields_at, TemplateIs, EventForm, event_form, TermIs, NodeIs, TermsAre}
use Rattle.name_resolution.specs.Events as rule
use Rattle.name_resolution.proofs.Sure.{no_both, no_if}
use Rattle.name_resolution.proofs.Through.{all_as, append_none, regroup}
use Rattle.name_resolution.proofs.Thus.{Thus, thus_went, thus_weaker}
use Rattle.name_resolution.proofs.Agreeing.{Agrees, ActionsAgree, agrees_left, agrees_right, agrees_first, agrees_rest}
use Rattle.name_resolution.proofs.OperandsRead.{Room, behind_same, within, Stays, stays_then, stays_behind, duration_stays, operand_stays}

module _ (around : Around) (names bound : List Named) (listed : List (List ℕ)) (table : Table) (scope inner : Scope) (types : table.types ≡ around.types) (acts : ActionsAgree table inner around.actions around.first) (owned : (name : List ℕ) (s : Seen) → is_own scope inner name ≡ true → seen inner name ≡ Some s → (meaning_of bound name ≡ Some (meant_by s)) × (s.kind ≡ kind.Bound)) (placed_name : (before : List (List ℕ)) (name : List ℕ) (more : List (List ℕ)) → listed ≡ (before ++ name ∷ []) ++ more → is_among before name ≡ false → (m : Meant) × (meaning_of bound name ≡ Some m) × (m.variable ≡ var.Local (short (length before)))) where
  abbrev S : {A : Type 0} → (Inside → A → Type 0) → Sofar → A → Sofar → Type 0
  S P s x t = Stays around names bound listed P s x t

  abbrev Known : Names → Type 0
  Known named = Agrees names inner named

  -- what is made of what was read
  last : {A : Type 0} (P : Inside → A → Type 0) (x : A) (s : Sofar) → Room s → ((operands : List _) → P (within around names bound listed operands) x) → Thus (S P s) (went x s)
  last P x s room h = thus_went (S P s) x s (record { behind = behind_same s s refl refl room; good = λ operands ends. h operands })

  -- ---- constraints

  compares_stays : (P : Inside → TypedNode → Type 0) (left : List (List ℕ)) (s : Shape) (c : Comparison) (e : Expr) (t : Sofar) → Known (expr_names e) → Room t → ((i : Inside) (o : Operand) → OperandIs i e o → P i (asked.Compares c o)) → Thus (S P t) (compares_read table scope inner left s c e t)
  unfolding compares_read
  compares_stays P left s c e t known room h =
      stays_then around names bound listed (λ i o. OperandIs i e o) P (operand_read table scope inner left s e t) (λ o u. went (asked.Compares c o) u) t (operand_stays around names bound listed table scope inner types acts owned left s e t known room)
      (λ o u r. last (λ i y. OperandIs i e o → P i y) (asked.Compares c o) u r (λ operands p. h (within around names bound listed operands) o p))

  lies_stays : (P : Inside → TypedNode → Type 0) (left : List (List ℕ)) (s : Shape) (r : Range) (t : Sofar) → Known (range_names r) → Room t → ((i : Inside) (low high : Operand) → OperandIs i r.low.bound low → OperandIs i r.high.bound high → P i (lies table scope inner left r low high)) → Thus (S P t) (lies_read table scope inner left s r t)
  unfolding lies_read
  lies_stays P left s r t known room h =
      stays_then around names bound listed (λ i o. OperandIs i r.low.bound o) P (operand_read table scope inner left s r.low.bound t) (λ low u. operand_read table scope inner left s r.high.bound u >>= λ high v. went (lies table scope inner left r low high) v) t
      (operand_stays around names bound listed table scope inner types acts owned left s r.low.bound t (agrees_left names inner (expr_names r.low.bound) (expr_names r.high.bound) known) room)
      (λ low u room'. stays_then around names bound listed (λ i o. OperandIs i r.high.bound o) (λ i y. OperandIs i r.low.bound low → P i y) (operand_read table scope inner left s r.high.bound u) (λ high v. went (lies table scope inner left r low high) v) u
      (operand_stays around names bound listed table scope inner types acts owned left s r.high.bound u (agrees_right names inner (expr_names r.low.bound) (expr_names r.high.bound) known) room')
      (λ high v room''. last (λ i y. OperandIs i r.high.bound high → OperandIs i r.low.bound low → P i y) (lies table scope inner left r low high) v room'' (λ operands q p. h (within around names bound listed operands) low high p q)))

  range_is : (i : Inside) (left : List (List ℕ)) (r : Range) (low high : Operand) → OperandIs i r.low.bound low → OperandIs i r.high.bound high → RangeIs i r (record { low = record { closed = r.low.closed; bound = low }; high = record { closed = r.high.closed; bound = high } })
  range_is i left r low high p q = record { low_closed = refl; low = p; high_closed = refl; high = q }

  ask_stays : (left : List (List ℕ)) (s : Shape) (n : ConstraintNode) (t : Sofar) → Known (constraint_node n) → Room t → Thus (S (λ i y. AskIs i n y) t) (asked_read table scope inner left s n t)
  unfolding asked_read
  ask_stays left s node.Any t known room = last (λ i y. AskIs i node.Any y) asked.Any t room (λ operands. rule.any)
  ask_stays left s (node.Equals e) t known room = compares_stays (λ i y. AskIs i (node.Equals e) y) left s comparison.Equal e t known room (λ i o p. rule.equals p)
  ask_stays left s (node.Compares c e) t known room = compares_stays (λ i y. AskIs i (node.Compares c e) y) left s c e t known room (λ i o p. rule.compares p)
  ask_stays left s (node.Lies r) t known room = lies_stays (λ i y. AskIs i (node.Lies r) y) left s r t known room (λ i low high p q. rule.lies (range_is i left r low high p q))
  ask_stays left s (node.NamedCompares name c e) t known room = compares_stays (λ i y. AskIs i (node.NamedCompares name c e) y) left s c e t known room (λ i o p. rule.named_compares p)
  ask_stays left s (node.NamedLies name r) t known room = lies_stays (λ i y. AskIs i (node.NamedLies name r) y) left s r t known room (λ i low high p q. rule.named_lies (range_is i left r low high p q))

  -- one constraint, at its place
  record ConstraintIs (fields : List Field) (place : ℕ) (c : Constraint) (i : Inside) (y : Typed) : Type 0 where
    number : ℕ
    is_field : field_of fields place c.node ≡ Some number
    held_so : y.field ≡ held number
    ask : AskIs i c.node y.node

  placed_stays : (fields : List Field) (place : ℕ) (left : List (List ℕ)) (number : ℕ) (s : Shape) (done : List Typed) (named : Bool) (c : Constraint) (t : Sofar) → field_of fields place c.node ≡ Some number → Known (constraint_names c) → Room t → Thus (S (ConstraintIs fields place c) t) (placed_read table scope inner left number s done named c t)
  unfolding placed_read
  placed_stays fields place left number s done named c t is known room =
      stays_behind around names bound listed (ConstraintIs fields place c) c.spot (field_codes number s done named c.node) (asked_read table scope inner left s c.node t >>= λ n u. went (record { field = short number; node = n }) u) t (λ none.
      stays_then around names bound listed (λ i y. AskIs i c.node y) (ConstraintIs fields place c) (asked_read table scope inner left s c.node t) (λ n u. went (record { field = short number; node = n }) u) t (ask_stays left s c.node t known room)
      (λ n u r. last (λ i y. AskIs i c.node n → ConstraintIs fields place c i y) (record { field = short number; node = n }) u r (λ operands p. record { number = number; is_field = is; held_so = refl; ask = p })))

  missing_stays : (P : Inside → Typed → Type 0) (left : List (List ℕ)) (c : Constraint) (t : Sofar) → Thus (S P t) (missing_read table scope inner left c t)
  missing_stays P left c t = stays_behind around names bound listed P c.spot (missing_code c.node ∷ []) (went (record { field = 0; node = asked.Any }) t) t (λ none. absurd (cc))

  found_stays : (fields : List Field) (place : ℕ) (left : List (List ℕ)) (number : ℕ) (f : Option Field) (done : List Typed) (named : Bool) (c : Constraint) (t : Sofar) → field_of fields place c.node ≡ Some number → Known (constraint_names c) → Room t → Thus (S (ConstraintIs fields place c) t) (found_read table scope inner left number f done named c t)
  found_stays fields place left number (Some f) done named c t is known room = placed_stays fields place left number f.shape done named c t is known room
  found_stays fields place left number None done named c t is known room = missing_stays (ConstraintIs fields place c) left c t

  numbered_stays : (fields : List Field) (place : ℕ) (left : List (List ℕ)) (o : Option ℕ) (done : List Typed) (named : Bool) (c : Constraint) (t : Sofar) → field_of fields place c.node ≡ o → Known (constraint_names c) → Room t → Thus (S (ConstraintIs fields place c) t) (numbered_read table scope inner left fields o done named c t)
  numbered_stays fields place left (Some number) done named c t is known room = found_stays fields place left number (slice_get fields number) done named c t is known room
  numbered_stays fields place left None done named c t is known room = missing_stays (ConstraintIs fields place c) left c t

  number_same : (fields : List Field) (place : ℕ) (n : ConstraintNode) → field_of fields place n ≡ number_of fields place n
  number_same fields place (node.NamedCompares name c e) = refl
  number_same fields place (node.NamedLies name r) = refl
  number_same fields place n = refl

  record Adds (fields : List Field) (done : List Typed) (cs : List Constraint) (i : Inside) (d : Done) : Type 0 where
    found : List Typed
    are : d.constraints ≡ done ++ found
    good : ConstraintsAre i fields (length done) cs found

  adds_on : (fields : List Field) (done : List Typed) (c : Constraint) (cs : List Constraint) (i : Inside) (y : Typed) (d : Done) → ConstraintIs fields (length done) c i y → Adds fields (done ++ y ∷ []) cs i d → Adds fields done (c ∷ cs) i d
  adds_on fields done c cs i y d one a = record {
    found = y ∷ a.found;
    are = a.are ∙ regroup done y a.found;
    good = rule.a_constraint one.is_field one.held_so one.ask (subst (λ (n : ℕ). ConstraintsAre i fields n cs a.found) (length_push done y) a.good);
  }

  constraints_stay : (left : List (List ℕ)) (fields : List Field) (cs : List Constraint) (d : Done) (t : Sofar) → Known (any_of (map constraint_names cs)) → Room t → Thus (S (Adds fields d.constraints cs) t) (through (constraint_step table scope inner left fields) d cs t)
  unfolding through
  constraints_stay left fields [] d t known room = last (Adds fields d.constraints []) d t room (λ operands. record { found = []; are = sym (append_none d.constraints); good = rule.no_constraints })
  constraints_stay left fields (c ∷ cs) d t known room =
      stays_then around names bound listed (λ i e. (y : Typed) × (e.constraints ≡ d.constraints ++ y ∷ []) × ConstraintIs fields (length d.constraints) c i y) (Adds fields d.constraints (c ∷ cs)) (constraint_step table scope inner left fields d c t) (λ e u. through (constraint_step table scope inner left fields) e cs u) t
      (stays_then around names bound listed (ConstraintIs fields (length d.constraints) c) (λ i e. (y : Typed) × (e.constraints ≡ d.constraints ++ y ∷ []) × ConstraintIs fields (length d.constraints) c i y) (constraint_read table scope inner left fields d.constraints d.named c t) (λ y u. went (record { constraints = d.constraints ++ y ∷ []; named = d.named || is_named c.node }) u) t
      (numbered_stays fields (length d.constraints) left (number_of fields (length d.constraints) c.node) d.constraints d.named c t (number_same fields (length d.constraints) c.node) (agrees_first names inner (constraint_names c) (map constraint_names cs) known) room)
      (λ y u r. last (λ i e. ConstraintIs fields (length d.constraints) c i y → (z : Typed) × (e.constraints ≡ d.constraints ++ z ∷ []) × ConstraintIs fields (length d.constraints) c i z) (record { constraints = d.constraints ++ y ∷ []; named = d.named || is_named c.node }) u r (λ operands p. (y, refl, p))))
      (λ e u r. thus_weaker (S (Adds fields e.constraints cs) u) (S (λ i z. ((y : Typed) × (e.constraints ≡ d.constraints ++ y ∷ []) × ConstraintIs fields (length d.constraints) c i y) → Adds fields d.constraints (c ∷ cs) i z) u) (through (constraint_step table scope inner left fields) e cs u) (constraints_stay left fields cs e u (agrees_rest names inner (constraint_names c) (map constraint_names cs) known) r)
      (λ z v k. record { behind = k.behind; good = λ operands ends p. adds_on fields d.constraints c cs (within around names bound listed operands) p.0 z p.2 (subst (λ (ys : List Typed). Adds fields ys cs (within around names bound listed operands) z) p.1 (k.good operands ends)) }))

  -- ---- templates

  abbrev Clauses2 : Clauses → List TemplateClause → Inside → Clauses → Type 0
  Clauses2 a cs i b = ClausesAre i a.binds a.within cs b.binds b.within

  -- one clause
  abbrev Onward : Clauses → TemplateClause → Inside → Clauses → Type 0
  Onward a c i b = (cs : List TemplateClause) (z : Clauses) → Clauses2 b cs i z → Clauses2 a (c ∷ cs) i z

  untaken : (under : Bool) (binds : Option ℕ) (ns : List (List ℕ)) (name : List ℕ) → name_codes scope under binds ns name ≡ [] → is_among ns name ≡ false
  untaken under binds ns name none =
      let one = no_both ((if is_taken scope ns name then 1 ∷ [] else []) ++ (if under then 19 ∷ [] else [])) (if is_full binds ns then 4 ∷ [] else []) none in
      let two = no_both (if is_taken scope ns name then 1 ∷ [] else []) (if under then 19 ∷ [] else []) one.0 in
      (or_parts (is_some (seen_of scope name)) (is_among ns name) (no_if (is_taken scope ns name) 1 two.0)).1

  clause_stays : (under : Bool) (a : Clauses) (c : TemplateClause) (t : Sofar) → Known (clause_names c) → Room t → Thus (S (Onward a c) t) (clause_read table scope inner under a c t)
  unfolding clause_read name_read
  clause_stays under a (clause.As name) t known room =
      stays_then around names bound listed (λ i place. (o : Option Shape) × BoundAs i name.text place o) (Onward a (clause.As name)) (name_read scope under a.binds name t) (λ place u. went (record a { binds = Some place }) u) t
      (stays_behind around names bound listed (λ i place. (o : Option Shape) × BoundAs i name.text place o) name.spot (name_codes scope under a.binds t.names name.text) (went (short (length t.names)) (with_name name.text t)) t (λ none.
      thus_went (S (λ i place. (o : Option Shape) × BoundAs i name.text place o) t) (short (length t.names)) (with_name name.text t) (record {
        behind = record { room = record { few = room.few; limit = room.limit }; ends = record { more = []; are = sym (append_none t.operands); more_names = name.text ∷ []; names_are = refl } };
        good = λ operands ends.
            let m = placed_name t.names name.text ends.more_names ends.names_are (untaken under a.binds t.names name.text none) in
            (m.0.shape, record { meant = m.0; there = m.1; variable_is = m.2; shape_is = refl });
      })))
      (λ place u r. last (λ i b. ((o : Option Shape) × BoundAs i name.text place o) → Onward a (clause.As name) i b) (record a { binds = Some place }) u r (λ operands p cs z h. rule.as_name p.1 h))
  clause_stays under a (clause.Within d) t known room =
      stays_then around names bound listed (λ i at. DurationIs i d.node at.operand) (Onward a (clause.Within d)) (duration_read table scope inner d t) (λ at u. went (record a { within = Some at }) u) t
      (duration_stays around names bound listed table scope inner types acts owned d t known room)
      (λ at u r. last (λ i b. DurationIs i d.node at.operand → Onward a (clause.Within d) i b) (record a { within = Some at }) u r (λ operands p cs z h. rule.in_time p h))

  clauses_stay : (under : Bool) (cs : List TemplateClause) (a : Clauses) (t : Sofar) → Known (any_of (map clause_names cs)) → Room t → Thus (S (Clauses2 a cs) t) (through (clause_read table scope inner under) a cs t)
  unfolding through
  clauses_stay under [] a t known room = last (Clauses2 a []) a t room (λ operands. rule.no_clauses)
  clauses_stay under (c ∷ cs) a t known room =
      stays_then around names bound listed (Onward a c) (Clauses2 a (c ∷ cs)) (clause_read table scope inner under a c t) (λ b u. through (clause_read table scope inner under) b cs u) t
      (clause_stays under a c t (agrees_first names inner (clause_names c) (map clause_names cs) known) room)
      (λ b u r. thus_weaker (S (Clauses2 b cs) u) (S (λ i z. Onward a c i b → Clauses2 a (c ∷ cs) i z) u) (through (clause_read table scope inner under) b cs u) (clauses_stay under cs b u (agrees_rest names inner (clause_names c) (map clause_names cs) known) r)
      (λ z v k. record { behind = k.behind; good = λ operands ends p. p cs z (k.good operands ends) }))

  -- a leaf is counted
  leaf_then : {A : Type 0} (P : Inside → A → Type 0) (spot : Spot) (n : Unit {0} → Sofar → Went A) (t : Sofar) → Room t → ((u : Sofar) → Room u → Thus (S P u) (n tt u)) → Thus (S P t) (leaf_read spot t >>= n)
  unfolding leaf_read
  leaf_then P spot n t room next =
      stays_then around names bound listed (λ i x. Unit {0}) P (behind (told spot (leaf_codes t)) (went tt (with_leaf t))) n t
      (stays_behind around names bound listed (λ i x. Unit {0}) spot (leaf_codes t) (went tt (with_leaf t)) t (λ none. thus_went (S (λ i x. Unit {0}) t) tt (with_leaf t) (record { behind = behind_same t (with_leaf t) refl refl (record { few = room.few; limit = room.limit }); good = λ operands ends. tt })))
      (λ x u r. thus_weaker (S P u) (S (λ i y. Unit {0} → P i y) u) (n x u) (next u r) (λ y v k. record { behind = k.behind; good = λ operands ends p. k.good operands ends }))

  fields_same : (o : Option EventShape) → fields_of o ≡ fields_at o
  fields_same (Some t) = refl
  fields_same None = refl

  abbrev TemplateOf : Template → Inside → TemplateShape → Type 0
  TemplateOf t i x = TemplateIs i t x

  template_made : (t : Template) (n : ℕ) (i : Inside) (d : Done) (c : Clauses) → i.around ≡ around → event_of table t.event ≡ Some n → Adds (fields_of (slice_get table.types n)) [] t.constraints i d → Clauses2 no_clauses t.clauses i c → TemplateIs i t (template_of table scope inner (short n) t d.constraints c)
  template_made t n i d c is named a k =
      let all : table.types ≡ i.around.types = types ∙ ap (λ (w : Around). w.types) (sym is) in
      record {
        type = n;
        named = ap (λ (ts : List EventShape). type_named ts t.event) (sym all) ∙ named;
        event = refl;
        mode = refl;
        constraints = subst (λ (ys : List Typed). ConstraintsAre i (fields_at (slice_get i.around.types n)) 0 t.constraints ys) (sym a.are)
            (subst (λ (fields : List Field). ConstraintsAre i fields 0 t.constraints a.found) (fields_same (slice_get table.types n) ∙ ap (λ (ts : List EventShape). fields_at (slice_get ts n)) all) a.good);
        clauses = k;
      }

  typed_stays : (o : Option ℕ) (spot : Spot) (under : Bool) (left : List (List ℕ)) (t : Template) (s : Sofar) → event_of table t.event ≡ o → Known (template_names t) → Room s → Thus (S (TemplateOf t) s) (typed_read table scope inner o spot under left t s)
  unfolding typed_read parts_read
  typed_stays (Some n) spot under left t s is known room =
      let fields = fields_of (slice_get table.types n) in
      leaf_then (TemplateOf t) spot (λ x u. parts_read table scope inner fields (short n) under left t u) s room (λ u r.
      stays_then around names bound listed (Adds fields [] t.constraints) (TemplateOf t) (constraints_read table scope inner left fields t.constraints u) (λ d v. clauses_read table scope inner under t.clauses v >>= λ c w. went (template_of table scope inner (short n) t d.constraints c) w) u
      (constraints_stay left fields t.constraints none_done u (agrees_left names inner (any_of (map constraint_names t.constraints)) (any_of (map clause_names t.clauses)) known) r)
      (λ d v r'. stays_then around names bound listed (Clauses2 no_clauses t.clauses) (λ i x. Adds fields [] t.constraints i d → TemplateOf t i x) (clauses_read table scope inner under t.clauses v) (λ c w. went (template_of table scope inner (short n) t d.constraints c) w) v
      (clauses_stay under t.clauses no_clauses v (agrees_right names inner (any_of (map constraint_names t.constraints)) (any_of (map clause_names t.clauses)) known) r')
      (λ c w r''. last (λ i x. Clauses2 no_clauses t.clauses i c → Adds fields [] t.constraints i d → TemplateOf t i x) (template_of table scope inner (short n) t d.constraints c) w r'' (λ operands k a. template_made t n (within around names bound listed operands) d c refl is a k))))
  typed_stays None spot under left t s is known room = stays_behind around names bound listed (TemplateOf t) spot (2 ∷ []) (went (template_of table scope inner 0 t [] no_clauses) s) s (λ none. absurd (cc))

  -- ---- parts in order

  -- one more
  record OneTo (e : EventExpr) (done : List Term) (i : Inside) (ts : List Term) : Type 0 where
    item : Term
    are : ts ≡ done ++ item ∷ []
    good : TermIs i e item

  record AddsTo (es : List EventExpr) (done : List Term) (i : Inside) (ts : List Term) : Type 0 where
    found : List Term
    are : ts ≡ done ++ found
    good : TermsAre i es found

  abbrev Steps : (List Term → Part → Sofar → Went (List Term)) → (EventExpr → Part) → EventExpr → Type 0
  Steps step part e = (done : List Term) (s : Sofar) → Room s → Thus (S (OneTo e done) s) (step done (part e) s)

  through_stays : (step : List Term → Part → Sofar → Went (List Term)) (part : EventExpr → Part) (es : List EventExpr) → AllByRecursion (Steps step part) es → (done : List Term) (s : Sofar) → Room s → Thus (S (AddsTo es done) s) (through step done (map part es) s)
  unfolding through
  through_stays step part [] all done s room = last (AddsTo [] done) done s room (λ operands. record { found = []; are = sym (append_none done); good = rule.no_terms })
  through_stays step part (e ∷ es) all done s room =
      stays_then around names bound listed (OneTo e done) (AddsTo (e ∷ es) done) (step done (part e) s) (λ ts t. through step ts (map part es) t) s (all.0 done s room)
      (λ ts t r. thus_weaker (S (AddsTo es ts) t) (S (λ i us. OneTo e done i ts → AddsTo (e ∷ es) done i us) t) (through step ts (map part es) t) (through_stays step part es all.1 ts t r)
      (λ us u k. record {
        behind = k.behind;
        good = λ operands ends o.
            let a = k.good operands ends in
            record { found = o.item ∷ a.found; are = a.are ∙ ap (λ (l : List Term). l ++ a.found) o.are ∙ regroup done o.item a.found; good = rule.a_term o.good a.good };
      }))

  -- how an event expression of this form is read
  record PartStays (named : Names) (f : EventForm) (p : Part) : Type 0 where
    reads : Known named → (may under : Bool) (left : List (List ℕ)) (s : Sofar) → Room s → Thus (S (λ i t. NodeIs i f (out-Term t)) s) (p.reading may under left s)

  abbrev ForExpr : EventExpr → Type 0
  ForExpr e = PartStays (event_names e) (event_form e) (part_of table scope inner e)

  abbrev X : Type 0
  X = (e : EventExpr) × ForExpr e

  abbrev exprs : List X → List EventExpr
  exprs ys = map (λ y. y.0) ys

  abbrev parts : List X → List Part
  parts ys = map (part_of table scope inner) (exprs ys)

  abbrev naming : List X → Names
  naming ys = any_of (map event_names (exprs ys))

  abbrev TermOf : EventExpr → Inside → Term → Type 0
  TermOf e i t = TermIs i e t

  term_stays : (e : EventExpr) → ForExpr e → Known (event_names e) → (may under : Bool) (left : List (List ℕ)) (s : Sofar) → Room s → Thus (S (TermOf e) s) ((part_of table scope inner e).reading may under left s)
  term_stays e p known may under left s room = thus_weaker (S (λ i t. NodeIs i (event_form e) (out-Term t)) s) (S (TermOf e) s) ((part_of table scope inner e).reading may under left s) (p.reads known may under left s room) (λ t u k. record { behind = k.behind; good = λ operands ends. rule.is (k.good operands ends) })

  step_by : (e : EventExpr) → ForExpr e → Known (event_names e) → (may under : Bool) (left : List (List ℕ)) (done : List Term) (s : Sofar) → Room s → Thus (S (OneTo e done) s) (each_step may under left done (part_of table scope inner e) s)
  step_by e p known may under left done s room =
      stays_then around names bound listed (TermOf e) (OneTo e done) ((part_of table scope inner e).reading may under left s) (λ t u. went (done ++ t ∷ []) u) s (term_stays e p known may under left s room)
      (λ t u r. last (λ i ts. TermOf e i t → OneTo e done i ts) (done ++ t ∷ []) u r (λ operands h. record { item = t; are = refl; good = h }))

  each_known : (ys : List X) → Known (naming ys) → AllByRecursion (λ e. ForExpr e × Known (event_names e)) (exprs ys)
  each_known [] known = tt
  each_known (y ∷ ys) known = ((y.1, agrees_first names inner (event_names y.0) (map event_names (exprs ys)) known), each_known ys (agrees_rest names inner (event_names y.0) (map event_names (exprs ys)) known))

  each_stays : (may under : Bool) (left : List (List ℕ)) (ys : List X) → Known (naming ys) → (s : Sofar) → Room s → Thus (S (AddsTo (exprs ys) []) s) (each may under left (parts ys) s)
  each_stays may under left ys known s room = through_stays (each_step may under left) (part_of table scope inner) (exprs ys) (all_as (λ e. ForExpr e × Known (event_names e)) (Steps (each_step may under left) (part_of table scope inner)) (exprs ys) (λ e p done t r. step_by e p.0 p.1 may under left done t r) (each_known ys known)) [] s room

  behind_stays : (start : ℕ) (under : Bool) (left : List (List ℕ)) (ys : List X) → Known (naming ys) → (s : Sofar) → Room s → Thus (S (AddsTo (exprs ys) []) s) (each_behind start under left (parts ys) s)
  behind_stays start under left ys known s room = through_stays (behind_step start under left) (part_of table scope inner) (exprs ys) (all_as (λ e. ForExpr e × Known (event_names e)) (Steps (behind_step start under left) (part_of table scope inner)) (exprs ys) (λ e p done t r. step_by e p.0 p.1 false under (left ++ drop start t.names) done t r) (each_known ys known)) [] s room

  -- ---- chains

  abbrev Made : EventForm → Inside → Term → Type 0
  Made f i t = NodeIs i f (out-Term t)

  made : (i : Inside) (f : EventForm) (d : Term-F Term) (t : Term) → out-Term t ≡ d → NodeIs i f d → Made f i t
  made i f d t is h = subst (λ (e : Term-F Term). NodeIs i f e) (sym is) h

  abbrev Builds : (Term → List Term → Term) → EventForm → EventExpr → List EventExpr → Type 0
  Builds make f e es = (i : Inside) (t : Term) (ts : List Term) → TermIs i e t → TermsAre i es ts → Made f i (make t ts)

  chain_stays : (make : Term → List Term → Term) (f : EventForm) (first : X) (ys : List X) → Builds make f first.0 (exprs ys) → (rest : Term → Sofar → Sofar → Went (List Term)) → ((head : Term) (s t : Sofar) → Room t → Thus (S (AddsTo (exprs ys) []) t) (rest head s t))
      → (may under : Bool) (left : List (List ℕ)) (s : Sofar) → Known (event_names first.0) → Room s → Thus (S (Made f) s) ((part_of table scope inner first.0).reading may under left s >>= λ head t. rest head s t >>= λ tail u. went (make head tail) u)
  chain_stays make f first ys build rest reads may under left s known room =
      stays_then around names bound listed (TermOf first.0) (Made f) ((part_of table scope inner first.0).reading may under left s) (λ head t. rest head s t >>= λ tail u. went (make head tail) u) s (term_stays first.0 first.1 known may under left s room)
      (λ head t r. stays_then around names bound listed (AddsTo (exprs ys) []) (λ i x. TermOf first.0 i head → Made f i x) (rest head s t) (λ tail u. went (make head tail) u) t (reads head s t r)
      (λ tail u r'. last (λ i x. AddsTo (exprs ys) [] i tail → TermOf first.0 i head → Made f i x) (make head tail) u r' (λ operands a h. subst (λ (ts : List Term). Made f (within around names bound listed operands) (make head ts)) (sym a.are) (build (within around names bound listed operands) head a.found h a.good))))

  known_first : (first : X) (ys : List X) → Known (either (event_names first.0) (naming ys)) → Known (event_names first.0)
  known_first first ys known = agrees_left names inner (event_names first.0) (naming ys) known

  known_rest : (first : X) (ys : List X) → Known (either (event_names first.0) (naming ys)) → Known (naming ys)
  known_rest first ys known = agrees_right names inner (event_names first.0) (naming ys) known

  followed_stays : (first : X) (ys : List X) → PartStays (either (event_names first.0) (naming ys)) (event.Followed first.0 (exprs ys)) (plain (followed_read (part_of table scope inner first.0) (parts ys)))
  unfolding followed_read followed_behind
  followed_stays first ys = record {
    reads = λ known may under left s room. chain_stays term.Followed (event.Followed first.0 (exprs ys)) first ys (λ i t ts h k. made i (event.Followed first.0 (exprs ys)) (layer.Followed t ts) (term.Followed t ts) (term.outs-Followed t ts) (rule.followed h k))
        (λ head u t. each_behind (length u.names) under left (parts ys) t) (λ head u t r. behind_stays (length u.names) under left ys (known_rest first ys known) t r) false under left s (known_first first ys known) room;
  }

  or_stays : (first : X) (ys : List X) → PartStays (either (event_names first.0) (naming ys)) (event.Or first.0 (exprs ys)) (plain (or_read (part_of table scope inner first.0) (parts ys)))
  unfolding or_read joined_behind
  or_stays first ys = record {
    reads = λ known may under left s room. chain_stays term.Or (event.Or first.0 (exprs ys)) first ys (λ i t ts h k. made i (event.Or first.0 (exprs ys)) (layer.Or t ts) (term.Or t ts) (term.outs-Or t ts) (rule.or h k))
        (λ head u t. each false under left (parts ys) t) (λ head u t r. each_stays false under left ys (known_rest first ys known) t r) false under left s (known_first first ys known) room;
  }

  xor_stays : (first : X) (ys : List X) → PartStays (either (event_names first.0) (naming ys)) (event.Xor first.0 (exprs ys)) (plain (xor_read (part_of table scope inner first.0) (parts ys)))
  unfolding xor_read joined_behind
  xor_stays first ys = record {
    reads = λ known may under left s room. chain_stays term.Xor (event.Xor first.0 (exprs ys)) first ys (λ i t ts h k. made i (event.Xor first.0 (exprs ys)) (layer.Xor t ts) (term.Xor t ts) (term.outs-Xor t ts) (rule.xor h k))
        (λ head u t. each false under left (parts ys) t) (λ head u t r. each_stays false under left ys (known_rest first ys known) t r) false under left s (known_first first ys known) room;
  }

  and_stays : (first : X) (ys : List X) → PartStays (either (event_names first.0) (naming ys)) (event.And first.0 (exprs ys)) (plain (and_read (part_of table scope inner first.0) (parts ys)))
  unfolding and_read joined_behind
  and_stays first ys = record {
    reads = λ known may under left s room. chain_stays term.And (event.And first.0 (exprs ys)) first ys (λ i t ts h k. made i (event.And first.0 (exprs ys)) (layer.And t ts) (term.And t ts) (term.outs-And t ts) (rule.and h k))
        (λ head u t. each true under left (parts ys) t) (λ head u t r. each_stays true under left ys (known_rest first ys known) t r) (may_begin (parts ys)) under left s (known_first first ys known) room;
  }

  -- ---- parts of one, and leaves

  all_stays : (x : X) → PartStays (event_names x.0) (event.All x.0) (plain (all_read (part_of table scope inner x.0)))
  unfolding all_read
  all_stays x = record {
    reads = λ known may under left s room. stays_then around names bound listed (TermOf x.0) (Made (event.All x.0)) ((part_of table scope inner x.0).reading false under left s) (λ t u. went (term.All t) u) s (term_stays x.0 x.1 known false under left s room)
        (λ t u r. last (λ i y. TermOf x.0 i t → Made (event.All x.0) i y) (term.All t) u r (λ operands h. made (within around names bound listed operands) (event.All x.0) (layer.All t) (term.All t) (term.outs-All t) (rule.all h)));
  }

  not_stays : (spot : Spot) (x : X) → PartStays (event_names x.0) (event.Not x.0) (negated spot (part_of table scope inner x.0))
  unfolding not_read
  not_stays spot x = record {
    reads = λ known may under left s room. stays_behind around names bound listed (Made (event.Not x.0)) spot (not_codes may) ((part_of table scope inner x.0).reading false true left s >>= λ t u. went (term.Not t) u) s (λ none.
        stays_then around names bound listed (TermOf x.0) (Made (event.Not x.0)) ((part_of table scope inner x.0).reading false true left s) (λ t u. went (term.Not t) u) s (term_stays x.0 x.1 known false true left s room)
        (λ t u r. last (λ i y. TermOf x.0 i t → Made (event.Not x.0) i y) (term.Not t) u r (λ operands h. made (within around names bound listed operands) (event.Not x.0) (layer.Not t) (term.Not t) (term.outs-Not t) (rule.negation h))));
  }

  ended_stays : (e : EventExpr) (t : Term) (limit : Option Duration) (s : Sofar) → Known (limit_names limit) → Room s → Thus (S (λ i y. TermOf e i t → Made (event.Group e limit) i y) s) (ended_read table scope inner t limit s)
  unfolding ended_read
  ended_stays e t None s known room = last (λ i y. TermOf e i t → Made (event.Group e None) i y) (term.Group t None) s room (λ operands h. made (within around names bound listed operands) (event.Group e None) (layer.Group t None) (term.Group t None) (term.outs-Group t None) (rule.group h))
  ended_stays e t (Some d) s known room =
      stays_then around names bound listed (λ i at. DurationIs i d.node at.operand) (λ i y. TermOf e i t → Made (event.Group e (Some d)) i y) (duration_read table scope inner d s) (λ at u. went (term.Group t (Some at)) u) s (duration_stays around names bound listed table scope inner types acts owned d s known room)
      (λ at u r. last (λ i y. DurationIs i d.node at.operand → TermOf e i t → Made (event.Group e (Some d)) i y) (term.Group t (Some at)) u r (λ operands h k. made (within around names bound listed operands) (event.Group e (Some d)) (layer.Group t (Some at)) (term.Group t (Some at)) (term.outs-Group t (Some at)) (rule.timed k h)))

  deadline_stays : (spot : Spot) (limit : Option Duration) (s : Sofar) → Room s → Thus (S (λ i x. Unit {0}) s) (deadline_read spot limit s)
  unfolding deadline_read leaf_read
  deadline_stays spot (Some d) s room = stays_behind around names bound listed (λ i x. Unit {0}) spot (leaf_codes s) (went tt (with_leaf s)) s (λ none. thus_went (S (λ i x. Unit {0}) s) tt (with_leaf s) (record { behind = behind_same s (with_leaf s) refl refl (record { few = room.few; limit = room.limit }); good = λ operands ends. tt }))
  deadline_stays spot None s room = last (λ i x. Unit {0}) tt s room (λ operands. tt)

  group_stays : (spot : Spot) (x : X) (limit : Option Duration) → PartStays (either (event_names x.0) (limit_names limit)) (event.Group x.0 limit) (plain (group_read table scope inner spot (part_of table scope inner x.0) limit))
  unfolding group_read
  group_stays spot x limit = record {
    reads = λ known may under left s room. stays_then around names bound listed (λ i u. Unit {0}) (Made (event.Group x.0 limit)) (deadline_read spot limit s) (λ u t. (part_of table scope inner x.0).reading false under left t >>= λ y v. ended_read table scope inner y limit v) s (deadline_stays spot limit s room)
        (λ u t r. stays_then around names bound listed (TermOf x.0) (λ i y. Unit {0} → Made (event.Group x.0 limit) i y) ((part_of table scope inner x.0).reading false under left t) (λ y v. ended_read table scope inner y limit v) t (term_stays x.0 x.1 (agrees_left names inner (event_names x.0) (limit_names limit) known) false under left t r)
        (λ y v r'. thus_weaker (S (λ i z. TermOf x.0 i y → Made (event.Group x.0 limit) i z) v) (S (λ i z. TermOf x.0 i y → Unit {0} → Made (event.Group x.0 limit) i z) v) (ended_read table scope inner y limit v) (ended_stays x.0 y limit v (agrees_right names inner (event_names x.0) (limit_names limit) known) r') (λ z w k. record { behind = k.behind; good = λ operands ends h n. k.good operands ends h })));
  }

  wait_stays : (spot : Spot) (d : Duration) → PartStays (duration_names d) (event.Wait d) (plain (λ under left s. wait_read table scope inner spot d s))
  unfolding wait_read
  wait_stays spot d = record {
    reads = λ known may under left s room. leaf_then (Made (event.Wait d)) spot (λ x u. duration_read table scope inner d u >>= λ at v. went (term.Wait at) v) s room (λ u r.
        stays_then around names bound listed (λ i at. DurationIs i d.node at.operand) (Made (event.Wait d)) (duration_read table scope inner d u) (λ at v. went (term.Wait at) v) u (duration_stays around names bound listed table scope inner types acts owned d u known r)
        (λ at v r'. last (λ i y. DurationIs i d.node at.operand → Made (event.Wait d) i y) (term.Wait at) v r' (λ operands h. made (within around names bound listed operands) (event.Wait d) (layer.Wait at) (term.Wait at) (term.outs-Wait at) (rule.wait h))));
  }

  template_stays : (spot : Spot) (t : Template) → PartStays (template_names t) (event.Template t) (plain (λ under left s. leaf_template_read table scope inner spot under left t s))
  unfolding leaf_template_read
  template_stays spot t = record {
    reads = λ known may under left s room. stays_then around names bound listed (TemplateOf t) (Made (event.Template t)) (template_read table scope inner spot under left t s) (λ x u. went (term.Template x) u) s (typed_stays (event_of table t.event) spot under left t s refl known room)
        (λ x u r. last (λ i y. TemplateOf t i x → Made (event.Template t) i y) (term.Template x) u r (λ operands h. made (within around names bound listed operands) (event.Template t) (layer.Template x) (term.Template x) (term.outs-Template x) (rule.template h)));
  }

  -- ---- every event expression

  abbrev node_of : EventNode → Spot → Part
  node_of = fold-EventNode (Spot → Part) Part (node_step table scope inner) (expr_step table scope inner)

  abbrev node_names : EventNode → Names
  node_names = fold-EventNode Names Names event_node event_step

  ForNode : EventNode → Type 0
  ForNode n = (spot : Spot) → PartStays (node_names n) (out-EventNode n) (node_of n spot)

  abbrev N : Type 0
  N = (n : EventNode) × ForNode n

  abbrev node_trees : EventNode-F N X → EventForm
  node_trees y = map-EventNode N X EventNode EventExpr (λ e. e.0) (λ e. e.0) y

  abbrev node_parts : EventForm → EventNode-F (Spot → Part) Part
  node_parts x = map-EventNode EventNode EventExpr (Spot → Part) Part node_of (part_of table scope inner) x

  abbrev node_naming : EventForm → EventNode-F Names Names
  node_naming x = map-EventNode EventNode EventExpr Names Names node_names event_names x

  node_at : (y : EventNode-F N X) (spot : Spot) → PartStays (event_node (node_naming (node_trees y))) (node_trees y) (node_step table scope inner (node_parts (node_trees y)) spot)
  node_at (event.Followed first rest) spot = followed_stays first rest
  node_at (event.Or first rest) spot = or_stays first rest
  node_at (event.Xor first rest) spot = xor_stays first rest
  node_at (event.And first rest) spot = and_stays first rest
  node_at (event.All x) spot = all_stays x
  node_at (event.Not x) spot = not_stays spot x
  node_at (event.Group x limit) spot = group_stays spot x limit
  node_at (event.Wait d) spot = wait_stays spot d
  node_at (event.Template t) spot = template_stays spot t

  node_case : (x : EventForm) (y : EventNode-F N X) → node_trees y ≡ x → ForNode (roll-EventNode x)
  unfolding ForNode
  node_case x y is = subst (λ (z : EventForm). ForNode (roll-EventNode z)) is (λ spot.
      subst (λ (n : Names). PartStays n (out-EventNode (roll-EventNode (node_trees y))) (node_of (roll-EventNode (node_trees y)) spot)) (sym (fold-roll-EventNode Names Names event_node event_step (node_trees y)))
      (subst (λ (f : EventForm). PartStays (event_node (node_naming (node_trees y))) f (node_of (roll-EventNode (node_trees y)) spot)) (sym (out-roll-EventNode (node_trees y)))
      (subst (λ (f : Spot → Part). PartStays (event_node (node_naming (node_trees y))) (node_trees y) (f spot)) (sym (fold-roll-EventNode (Spot → Part) Part (node_step table scope inner) (expr_step table scope inner) (node_trees y)))
      (node_at y spot))))

  abbrev expr_trees : EventExpr-F N X → EventExpr-F EventNode EventExpr
  expr_trees y = map-EventExpr N X EventNode EventExpr (λ e. e.0) (λ e. e.0) y

  expr_case : (x : EventExpr-F EventNode EventExpr) (y : EventExpr-F N X) → expr_trees y ≡ x → ForExpr (roll-EventExpr x)
  unfolding ForNode
  expr_case x y is = subst (λ (z : EventExpr-F EventNode EventExpr). ForExpr (roll-EventExpr z)) is
      (subst (λ (n : Names). PartStays n (event_form (roll-EventExpr (expr_trees y))) (part_of table scope inner (roll-EventExpr (expr_trees y)))) (sym (fold-roll-EventExpr Names Names event_node event_step (expr_trees y)))
      (subst (λ (p : Part). PartStays (node_names y.node.0) (event_form (roll-EventExpr (expr_trees y))) p) (sym (fold-roll-EventExpr (Spot → Part) Part (node_step table scope inner) (expr_step table scope inner) (expr_trees y)))
      (subst (λ (d : EventExpr-F EventNode EventExpr). PartStays (node_names y.node.0) (out-EventNode d.node) (node_of y.node.0 y.spot)) (sym (out-roll-EventExpr (expr_trees y)))
      (y.node.1 y.spot))))

  expr_stays : (e : EventExpr) → ForExpr e
  expr_stays = ind-EventExpr ForNode ForExpr node_case expr_case

  -- every event expression, where its names are known
  pub terms_stay : (e : EventExpr) → Known (event_names e) → (may under : Bool) (left : List (List ℕ)) (s : Sofar) → Room s → Thus (S (TermOf e) s) ((part_of table scope inner e).reading may under left s)
  terms_stay e known may under left s room = term_stays e (expr_stays e) known may under left s room
