-- The names that an event expression binds, as they are read, are those that stand behind the names around it, in the same order.
use Rattle.std.proofs.Common.{◌≡◌, ℕ, suc, ◌+◌, ◌-◌, Bool, true, false, cond, ◌||◌, if◌then◌else◌, is_some, List, [], ◌∷◌, ◌++◌, map, length, drop, slice_get, Option, Some, None, refl, sym, ap, subst, ◌∙◌, arith, append_assoc}
use Rattle.std.specs.List.{AllByRecursion}
use Rattle.std.specs.Str.{bytes_eq}
use Rattle.std.proofs.lemmas.Bool.{or_parts}
use Rattle.std.proofs.lemmas.List.{length-append}
use Rattle.std.proofs.lemmas.Slice.Eq.{bytes_eq-Decides}
use Rattle.span_text.specs.declared.spot.Spot.{Spot}
use Rattle.epl_values.specs.declared.shape.Shape.{Shape}
use Rattle.epl_values.specs.declared.shape.Field.{Field}
use Rattle.epl_tree.specs.declared.event.Constraint.{Constraint}
use Rattle.epl_tree.specs.declared.event.ConstraintNode.{ConstraintNode}
use Rattle.epl_tree.specs.declared.event.ConstraintNode.TheVariants as node
use Rattle.epl_tree.specs.declared.event.Duration.{Duration}
use Rattle.epl_tree.specs.declared.event.EventExpr.{EventExpr, EventExpr-F, map-EventExpr, roll-EventExpr, fold-roll-EventExpr}
use Rattle.epl_tree.specs.declared.event.EventNode.{EventNode, EventNode-F, map-EventNode, roll-EventNode, fold-EventNode, fold-roll-EventNode}
use Rattle.epl_tree.specs.declared.event.EventNode.TheOpen as event
use Rattle.epl_tree.specs.declared.event.EventNode.TheFolds.{ind-EventExpr}
use Rattle.epl_tree.specs.declared.event.Range.{Range}
use Rattle.epl_tree.specs.declared.event.Template.{Template}
use Rattle.epl_tree.specs.declared.event.TemplateClause.{TemplateClause}
use Rattle.epl_tree.specs.declared.event.TemplateClause.TheVariants as clause
use Rattle.epl_tree.specs.declared.expression.Comparison.{Comparison}
use Rattle.epl_tree.specs.declared.expression.Comparison.TheVariants as comparison
use Rattle.epl_tree.specs.declared.expression.Expr.{Expr, out-Expr}
use Rattle.typed_program.specs.declared.expression.TypedExpr.{TypedExpr}
use Rattle.typed_program.specs.declared.expression.TypedLink.{TypedLink}
use Rattle.typed_program.specs.declared.expression.TypedNode.TheOpen as typed
use Rattle.typed_program.specs.declared.term.Constraint.{Constraint as Typed}
use Rattle.typed_program.specs.declared.term.ConstraintNode.TheVariants as asked
use Rattle.typed_program.specs.declared.term.Term.{Term}
use Rattle.typed_program.specs.declared.term.Term.TheVariants as term
use Rattle.type_table.specs.declared.scope.Scope.{Scope}
use Rattle.type_table.specs.declared.scope.Seen.{Seen}
use Rattle.type_table.specs.declared.scope.SeenKind.TheVariants as kind
use Rattle.type_table.specs.declared.table.Table.{Table}
use Rattle.type_table.specs.Found.{Found, told}
use Rattle.type_table.specs.Table.{event_of, seen_of}
use Rattle.listener_check.specs.declared.constraint.Done.{Done}
use Rattle.listener_check.specs.declared.sofar.Sofar.{Sofar}
use Rattle.listener_check.specs.declared.template.Clauses.{Clauses}
use Rattle.listener_check.specs.declared.operand.Reached.{Reached}
use Rattle.listener_check.specs.declared.value.Naming.{Naming}
use Rattle.listener_check.specs.declared.value.Naming.TheVariants as naming
use Rattle.listener_check.specs.Bound as bind
use Rattle.listener_check.specs.Bound.{is_among, seen_bound, with_bound, clause_binds, clauses_bind, binds}
use Rattle.listener_check.specs.Constraints.{number_of, missing_code, field_codes, constraint_read, constraint_step, constraints_read, none_done, compares_read, lies_read, asked_read, placed_read, missing_read, found_read, numbered_read}
use Rattle.listener_check.specs.Durations.{length_found, timed, duration_read}
use Rattle.listener_check.specs.Limits.{short, with_leaf, leaf_read, with_sum, sum_read}
use Rattle.listener_check.specs.Operands.{Layer, placed, added_operand, sum_layer, sum_operand, given_operand, operand_of, is_integer, named_operand, operand_read, path_in, last_of}
use Rattle.listener_check.specs.Operands.{layer_of as typed_layer}
use Rattle.listener_check.specs.Templates.{fields_of, is_taken, is_full, name_codes, with_name, name_read, no_clauses, clause_read, clauses_read, parts_read, typed_read, template_read}
use Rattle.listener_check.specs.Terms.{Part, each_step, each, behind_step, each_behind, followed_behind, followed_read, joined_behind, or_read, xor_read, may_begin, and_read, not_read, not_codes, all_read, deadline_read, wait_read, ended_read, group_read, leaf_template_read, node_step, expr_step, part_of}
use Rattle.listener_check.specs.Values.{naming_of, named_value}
use Rattle.listener_check.specs.Went.{Went, went, behind, given, through, ◌>>=◌}
use Rattle.name_resolution.proofs.Sure.{no_both, no_told, no_if}
use Rattle.name_resolution.proofs.Thus.{Thus, thus_went, thus_then, thus_behind, thus_weaker}
use Rattle.name_resolution.proofs.Claims.{is_called, first_by, first_behind, or_else}
use Rattle.name_resolution.proofs.Heads.{place_some}

-- ---- parts that bind no name

-- the names stay
abbrev Same : {A : Type 0} → Sofar → A → Sofar → Type 0
Same s x t = t.names ≡ s.names

same_went : {A : Type 0} (x : A) (s t : Sofar) → t.names ≡ s.names → Thus (Same s) (went x t)
same_went x s t is = thus_went (Same s) x t is

same_then : {A B : Type 0} (s : Sofar) (w : Went A) (n : A → Sofar → Went B) → Thus (Same s) w → ((x : A) (t : Sofar) → Thus (Same t) (n x t)) → Thus (Same s) (w >>= n)
same_then s w n one two = thus_then (Same s) (Same s) w n one (λ x t is. thus_weaker (Same t) (Same s) (n x t) (two x t) (λ y u next. next ∙ is))

same_behind : {A : Type 0} (s : Sofar) (spot : Spot) (codes : List ℕ) (w : Went A) → Thus (Same s) w → Thus (Same s) (behind (told spot codes) w)
same_behind s spot codes w h = thus_behind (Same s) (told spot codes) w (λ none. h)

same_given : {A : Type 0} (found : Found A) (s : Sofar) → Thus (Same s) (given found s)
unfolding given
same_given found s = record { where_clear = λ h. refl }

same_leaf : (spot : Spot) (s : Sofar) → Thus (Same s) (leaf_read spot s)
unfolding leaf_read
same_leaf spot s = same_behind s spot _ (went tt (with_leaf s)) (same_went tt s (with_leaf s) refl)

same_sum : (spot : Spot) (s : Sofar) → Thus (Same s) (sum_read spot s)
unfolding sum_read
same_sum spot s = same_behind s spot _ (went tt (with_sum s)) (same_went tt s (with_sum s) refl)

same_placed : (x : TypedExpr) (s : Sofar) → Thus (Same s) (placed x s)
unfolding placed
same_placed x s = same_went (short (length s.operands)) s (record s { operands = s.operands ++ x ∷ [] }) refl

same_given_operand : (x : TypedExpr) (s : Sofar) → Thus (Same s) (given_operand x s)
unfolding given_operand
same_given_operand x s = same_then s (placed x s) _ (same_placed x s) (λ at t. same_went _ t t refl)

same_added : (n : Naming) (r : Reached) (o : Option TypedLink) (s : Sofar) → Thus (Same s) (added_operand n r o s)
unfolding added_operand
same_added n r (Some link) s = same_then s (placed _ s) _ (same_placed _ s) (λ at t. same_went _ t t refl)
same_added n r None s = same_went _ s s refl

same_layer : (n : Naming) (l : Layer) (s : Sofar) → Thus (Same s) (sum_layer n l s)
same_layer n (typed.Sum first links) s = same_added n (path_in first) (last_of links) s
same_layer n l s = same_went _ s s refl

same_operand : (n : Naming) (x : TypedExpr) (s : Sofar) → Thus (Same s) (operand_of n x s)
unfolding operand_of sum_operand
same_operand naming.Path x s = same_went _ s s refl
same_operand naming.Plus x s = same_layer naming.Plus (typed_layer x) s
same_operand naming.Minus x s = same_layer naming.Minus (typed_layer x) s
same_operand n x s = same_given_operand x s

same_timed : (x : TypedExpr) (s : Sofar) → Thus (Same s) (timed x s)
unfolding timed
same_timed x s = same_then s (placed x s) _ (same_placed x s) (λ at t. same_went _ t t refl)

module _ (table : Table) (scope inner : Scope) where
  same_duration : (d : Duration) (s : Sofar) → Thus (Same s) (duration_read table scope inner d s)
  unfolding duration_read
  same_duration d s = same_then s (sum_read d.spot s) _ (same_sum d.spot s) (λ x t. same_then t (given (length_found table scope inner d.spot d.node) t) _ (same_given (length_found table scope inner d.spot d.node) t) (λ y u. same_timed y u))

  same_operand_read : (left : List (List ℕ)) (shape : Shape) (e : Expr) (s : Sofar) → Thus (Same s) (operand_read table scope inner left shape e s)
  unfolding operand_read named_operand
  same_operand_read left shape e s =
      let n = naming_of scope inner left (is_integer shape) e in
      same_then s (sum_read (out-Expr e).spot s) _ (same_sum (out-Expr e).spot s) (λ x t. same_then t (given (named_value table inner n shape e) t) _ (same_given (named_value table inner n shape e) t) (λ y u. same_operand n y u))

  same_compares : (left : List (List ℕ)) (shape : Shape) (c : Comparison) (e : Expr) (s : Sofar) → Thus (Same s) (compares_read table scope inner left shape c e s)
  unfolding compares_read
  same_compares left shape c e s = same_then s (operand_read table scope inner left shape e s) _ (same_operand_read left shape e s) (λ x t. same_went _ t t refl)

  same_lies : (left : List (List ℕ)) (shape : Shape) (r : Range) (s : Sofar) → Thus (Same s) (lies_read table scope inner left shape r s)
  unfolding lies_read
  same_lies left shape r s = same_then s (operand_read table scope inner left shape r.low.bound s) _ (same_operand_read left shape r.low.bound s) (λ x t. same_then t (operand_read table scope inner left shape r.high.bound t) _ (same_operand_read left shape r.high.bound t) (λ y u. same_went _ u u refl))

  same_asked : (left : List (List ℕ)) (shape : Shape) (n : ConstraintNode) (s : Sofar) → Thus (Same s) (asked_read table scope inner left shape n s)
  unfolding asked_read
  same_asked left shape node.Any s = same_went _ s s refl
  same_asked left shape (node.Equals e) s = same_compares left shape comparison.Equal e s
  same_asked left shape (node.Compares c e) s = same_compares left shape c e s
  same_asked left shape (node.Lies r) s = same_lies left shape r s
  same_asked left shape (node.NamedCompares name c e) s = same_compares left shape c e s
  same_asked left shape (node.NamedLies name r) s = same_lies left shape r s

  same_missing : (left : List (List ℕ)) (c : Constraint) (s : Sofar) → Thus (Same s) (missing_read table scope inner left c s)
  same_missing left c s = same_behind s c.spot (missing_code c.node ∷ []) (went (record { field = 0; node = asked.Any }) s) (same_went (record { field = 0; node = asked.Any }) s s refl)

  same_found : (left : List (List ℕ)) (number : ℕ) (f : Option Field) (done : List Typed) (named : Bool) (c : Constraint) (s : Sofar) → Thus (Same s) (found_read table scope inner left number f done named c s)
  unfolding placed_read
  same_found left number (Some f) done named c s = same_behind s c.spot (field_codes number f.shape done named c.node) (asked_read table scope inner left f.shape c.node s >>= λ n t. went (record { field = short number; node = n }) t) (same_then s (asked_read table scope inner left f.shape c.node s) _ (same_asked left f.shape c.node s) (λ n t. same_went (record { field = short number; node = n }) t t refl))
  same_found left number None done named c s = same_missing left c s

  same_numbered : (left : List (List ℕ)) (fields : List Field) (o : Option ℕ) (done : List Typed) (named : Bool) (c : Constraint) (s : Sofar) → Thus (Same s) (numbered_read table scope inner left fields o done named c s)
  same_numbered left fields (Some number) done named c s = same_found left number (slice_get fields number) done named c s
  same_numbered left fields None done named c s = same_missing left c s

  same_constraints : (left : List (List ℕ)) (fields : List Field) (cs : List Constraint) (d : Done) (s : Sofar) → Thus (Same s) (through (constraint_step table scope inner left fields) d cs s)
  unfolding through
  same_constraints left fields [] d s = same_went d s s refl
  same_constraints left fields (c ∷ cs) d s = same_then s (constraint_step table scope inner left fields d c s) _ (same_then s (constraint_read table scope inner left fields d.constraints d.named c s) _ (same_numbered left fields (number_of fields (length d.constraints) c.node) d.constraints d.named c s) (λ y t. same_went _ t t refl)) (λ e t. same_constraints left fields cs e t)

-- ---- the names so far

abbrev pub Numbered : ℕ → List Seen → Type 0
Numbered n [] = Unit {0}
Numbered n (x ∷ xs) = (x.number ≡ short n) × Numbered (n + 1) xs

numbered_push : (n : ℕ) (xs : List Seen) (x : Seen) → Numbered n xs → x.number ≡ short (n + length xs) → Numbered n (xs ++ x ∷ [])
numbered_push n [] x h is = ((let z : n + 0 ≡ n = omega arith in is ∙ ap short z), tt)
numbered_push n (y ∷ xs) x h is = (h.0, numbered_push (n + 1) xs x h.1 ((let z : n + suc (length xs) ≡ n + 1 + length xs = omega arith in is ∙ ap short z)))

names_push : (xs : List Seen) (x : Seen) → map (λ (y : Seen). y.name) (xs ++ x ∷ []) ≡ map (λ (y : Seen). y.name) xs ++ x.name ∷ []
names_push [] x = refl
names_push (y ∷ xs) x = ap (λ (l : List (List ℕ)). y.name ∷ l) (names_push xs x)

among_by : (b : Bool) (x : Seen) (o : Option Seen) (r : Bool) → r ≡ is_some o → (b || r) ≡ is_some (cond b (Some x) o)
among_by true x o r h = refl
among_by false x o r h = h

among_first : (name : List ℕ) (xs : List Seen) → is_among (map (λ (y : Seen). y.name) xs) name ≡ is_some (first_by (is_called name) xs)
among_first name [] = refl
among_first name (x ∷ xs) = among_by (bytes_eq x.name name) x (first_by (is_called name) xs) (is_among (map (λ (y : Seen). y.name) xs) name) (among_first name xs)

none_else : {A : Type 0} (a b : Option A) → is_some a ≡ false → is_some b ≡ false → is_some (or_else a b) ≡ false
none_else None b h k = k
none_else (Some x) b h k = h

module _ (table : Table) (scope : Scope) where
  abbrev outer : ℕ
  outer = length scope.names

  -- the names behind those around the event expression, as they were read
  pub record Tied (c : Scope) (ns : List (List ℕ)) : Type 0 where
    pub bound : List Seen
    pub are : c.names ≡ scope.names ++ bound
    pub named : map (λ (y : Seen). y.name) bound ≡ ns
    pub numbered : Numbered 0 bound

  abbrev Ties : {A : Type 0} → Scope → A → Sofar → Type 0
  Ties c x t = Tied c t.names

  from_same : {A : Type 0} (c : Scope) (s : Sofar) (w : Went A) → Tied c s.names → Thus (Same s) w → Thus (Ties c) w
  from_same c s w h same = thus_weaker (Same s) (Ties c) w same (λ x t is. subst (λ (l : List (List ℕ)). Tied c l) (sym is) h)

  push_by : (event name : List ℕ) (c : Scope) (b : Bool) → b ≡ false → (if b then c else record c { names = c.names ++ seen_bound table outer c event name ∷ [] }) ≡ record c { names = c.names ++ seen_bound table outer c event name ∷ [] }
  push_by event name c true h = absurd (cc)
  push_by event name c false h = refl

  -- a name more
  tied_name : (event name : List ℕ) (c : Scope) (ns : List (List ℕ)) → Tied c ns → is_some (seen_of scope name) ≡ false → is_among ns name ≡ false → Tied (with_bound table outer event name c) (ns ++ name ∷ [])
  tied_name event name c ns h unseen apart =
      let x = seen_bound table outer c event name in
      let here : is_some (seen_of c name) ≡ false =
      place_some (is_called name) c.names ∙ ap (λ (l : List Seen). is_some (first_by (is_called name) l)) h.are ∙ ap is_some (first_behind (is_called name) scope.names h.bound)
      ∙ none_else (first_by (is_called name) scope.names) (first_by (is_called name) h.bound) (sym (place_some (is_called name) scope.names) ∙ unseen) (sym (among_first name h.bound) ∙ ap (λ (l : List (List ℕ)). is_among l name) h.named ∙ apart) in
      let long : length c.names ≡ length scope.names + length h.bound = ap length h.are ∙ length-append scope.names h.bound in
      let place : length c.names - outer ≡ 0 + length h.bound = omega (arith, long) in
      subst (λ (d : Scope). Tied d (ns ++ name ∷ [])) (sym (push_by event name c (is_some (seen_of c name)) here)) (record {
        bound = h.bound ++ x ∷ [];
        are = ap (λ (l : List Seen). l ++ x ∷ []) h.are ∙ append_assoc scope.names h.bound (x ∷ []);
        named = names_push h.bound x ∙ ap (λ (l : List (List ℕ)). l ++ name ∷ []) h.named;
        numbered = numbered_push 0 h.bound x h.numbered (ap short place);
      })

  fresh : (under : Bool) (binds : Option ℕ) (ns : List (List ℕ)) (name : List ℕ) → name_codes scope under binds ns name ≡ [] → (is_some (seen_of scope name) ≡ false) × (is_among ns name ≡ false)
  fresh under binds ns name none =
      let one = no_both ((if is_taken scope ns name then 1 ∷ [] else []) ++ (if under then 19 ∷ [] else [])) (if is_full binds ns then 4 ∷ [] else []) none in
      let two = no_both (if is_taken scope ns name then 1 ∷ [] else []) (if under then 19 ∷ [] else []) one.0 in
      or_parts (is_some (seen_of scope name)) (is_among ns name) (no_if (is_taken scope ns name) 1 two.0)

  module _ (inner : Scope) where
    clause_ties : (under : Bool) (event : List ℕ) (a : Clauses) (k : TemplateClause) (c : Scope) (s : Sofar) → Tied c s.names → Thus (Ties (clause_binds table outer event k c)) (clause_read table scope inner under a k s)
    unfolding clause_read name_read
    clause_ties under event a (clause.As name) c s h =
        thus_then (Ties (with_bound table outer event name.text c)) (Ties (with_bound table outer event name.text c)) (name_read scope under a.binds name s) (λ place t. went (record a { binds = Some place }) t)
        (thus_behind (Ties (with_bound table outer event name.text c)) (told name.spot (name_codes scope under a.binds s.names name.text)) (went (short (length s.names)) (with_name name.text s)) (λ none. let f = fresh under a.binds s.names name.text (no_told name.spot (name_codes scope under a.binds s.names name.text) none) in thus_went (Ties (with_bound table outer event name.text c)) (short (length s.names)) (with_name name.text s) (tied_name event name.text c s.names h f.0 f.1)))
        (λ place t k. thus_went (Ties (with_bound table outer event name.text c)) (record a { binds = Some place }) t k)
    clause_ties under event a (clause.Within d) c s h = from_same c s _ h (same_then s (duration_read table scope inner d s) (λ at t. went (record a { within = Some at }) t) (same_duration table scope inner d s) (λ at t. same_went (record a { within = Some at }) t t refl))

    clauses_tie : (under : Bool) (event : List ℕ) (ks : List TemplateClause) (a : Clauses) (c : Scope) (s : Sofar) → Tied c s.names → Thus (Ties (clauses_bind table outer event ks c)) (through (clause_read table scope inner under) a ks s)
    unfolding through
    clauses_tie under event [] a c s h = thus_went (Ties c) a s h
    clauses_tie under event (k ∷ ks) a c s h = thus_then (Ties (clause_binds table outer event k c)) (Ties (clauses_bind table outer event ks (clause_binds table outer event k c))) (clause_read table scope inner under a k s) (λ b t. through (clause_read table scope inner under) b ks t) (clause_ties under event a k c s h) (λ b t j. clauses_tie under event ks b (clause_binds table outer event k c) t j)

    typed_ties : (o : Option ℕ) (spot : Spot) (under : Bool) (left : List (List ℕ)) (t : Template) (c : Scope) (s : Sofar) → Tied c s.names → Thus (Ties (clauses_bind table outer t.event t.clauses c)) (typed_read table scope inner o spot under left t s)
    unfolding typed_read parts_read
    typed_ties (Some n) spot under left t c s h =
        let d = clauses_bind table outer t.event t.clauses c in
        let fields = fields_of (slice_get table.types n) in
        thus_then (Ties c) (Ties d) (leaf_read spot s) (λ x u. parts_read table scope inner fields (short n) under left t u) (from_same c s (leaf_read spot s) h (same_leaf spot s))
        (λ x u j. thus_then (Ties c) (Ties d) (constraints_read table scope inner left fields t.constraints u) (λ done v. clauses_read table scope inner under t.clauses v >>= λ k w. went _ w) (from_same c u (constraints_read table scope inner left fields t.constraints u) j (same_constraints table scope inner left fields t.constraints none_done u))
        (λ done v i. thus_then (Ties d) (Ties d) (clauses_read table scope inner under t.clauses v) (λ k w. went _ w) (clauses_tie under t.event t.clauses no_clauses c v i) (λ k w z. thus_went (Ties d) _ w z)))
    typed_ties None spot under left t c s h = thus_behind (Ties (clauses_bind table outer t.event t.clauses c)) (told spot (2 ∷ [])) (went _ s) (λ none. absurd (let e = no_told spot (2 ∷ []) none in cc))

    -- ---- parts

    pub record PartTies (p : Part) (b : Scope → Scope) : Type 0 where
      pub ties : (may under : Bool) (left : List (List ℕ)) (c : Scope) (s : Sofar) → Tied c s.names → Thus (Ties (b c)) (p.reading may under left s)

    abbrev X : Type 0
    X = (e : EventExpr) × PartTies (part_of table scope inner e) (binds table outer e)

    abbrev exprs : List X → List EventExpr
    exprs ys = map (λ y. y.0) ys

    abbrev parts : List X → List Part
    parts ys = map (part_of table scope inner) (exprs ys)

    abbrev bind_all : List X → Scope → Scope
    bind_all ys = bind.each table outer (map (binds table outer) (exprs ys))

    through_ties : (step : List Term → Part → Sofar → Went (List Term)) → ((y : X) (done : List Term) (c : Scope) (s : Sofar) → Tied c s.names → Thus (Ties (binds table outer y.0 c)) (step done (part_of table scope inner y.0) s)) → (ys : List X) (done : List Term) (c : Scope) (s : Sofar) → Tied c s.names → Thus (Ties (bind_all ys c)) (through step done (parts ys) s)
    unfolding through
    through_ties step each [] done c s h = thus_went (Ties c) done s h
    through_ties step each (y ∷ ys) done c s h = thus_then (Ties (binds table outer y.0 c)) (Ties (bind_all ys (binds table outer y.0 c))) (step done (part_of table scope inner y.0) s) (λ d t. through step d (parts ys) t) (each y done c s h) (λ d t j. through_ties step each ys d (binds table outer y.0 c) t j)

    step_ties : (may under : Bool) (left : List (List ℕ)) (y : X) (done : List Term) (c : Scope) (s : Sofar) → Tied c s.names → Thus (Ties (binds table outer y.0 c)) (each_step may under left done (part_of table scope inner y.0) s)
    step_ties may under left y done c s h = let p = y.1 in thus_then (Ties (binds table outer y.0 c)) (Ties (binds table outer y.0 c)) ((part_of table scope inner y.0).reading may under left s) (λ t u. went (done ++ t ∷ []) u) (p.ties may under left c s h) (λ t u j. thus_went (Ties (binds table outer y.0 c)) (done ++ t ∷ []) u j)

    chain_ties : (make : Term → List Term → Term) (first : X) (ys : List X) (rest : Sofar → Sofar → Went (List Term)) → ((c : Scope) (s t : Sofar) → Tied c t.names → Thus (Ties (bind_all ys c)) (rest s t)) → (may under : Bool) (left : List (List ℕ)) (c : Scope) (s : Sofar) → Tied c s.names
        → Thus (Ties (bind_all ys (binds table outer first.0 c))) ((part_of table scope inner first.0).reading may under left s >>= λ head t. rest s t >>= λ tail u. went (make head tail) u)
    chain_ties make first ys rest reads may under left c s h =
        let p = first.1 in
        let d = bind_all ys (binds table outer first.0 c) in
        thus_then (Ties (binds table outer first.0 c)) (Ties d) ((part_of table scope inner first.0).reading may under left s) (λ head t. rest s t >>= λ tail u. went (make head tail) u) (p.ties may under left c s h)
        (λ head t j. thus_then (Ties d) (Ties d) (rest s t) (λ tail u. went (make head tail) u) (reads (binds table outer first.0 c) s t j) (λ tail u i. thus_went (Ties d) (make head tail) u i))

    one_ties : (make : Term → Term) (x : X) (may under : Bool) (left : List (List ℕ)) (c : Scope) (s : Sofar) → Tied c s.names → Thus (Ties (binds table outer x.0 c)) ((part_of table scope inner x.0).reading may under left s >>= λ t u. went (make t) u)
    one_ties make x may under left c s h = let p = x.1 in thus_then (Ties (binds table outer x.0 c)) (Ties (binds table outer x.0 c)) ((part_of table scope inner x.0).reading may under left s) (λ t u. went (make t) u) (p.ties may under left c s h) (λ t u j. thus_went (Ties (binds table outer x.0 c)) (make t) u j)

    deadline_same : (spot : Spot) (limit : Option Duration) (s : Sofar) → Thus (Same s) (deadline_read spot limit s)
    unfolding deadline_read
    deadline_same spot (Some d) s = same_leaf spot s
    deadline_same spot None s = same_went tt s s refl

    ended_same : (t : Term) (limit : Option Duration) (s : Sofar) → Thus (Same s) (ended_read table scope inner t limit s)
    unfolding ended_read
    ended_same t None s = same_went (term.Group t None) s s refl
    ended_same t (Some d) s = same_then s (duration_read table scope inner d s) (λ at u. went (term.Group t (Some at)) u) (same_duration table scope inner d s) (λ at u. same_went (term.Group t (Some at)) u u refl)

    -- ---- every event expression

    abbrev node_of : EventNode → Spot → Part
    node_of = fold-EventNode (Spot → Part) Part (node_step table scope inner) (expr_step table scope inner)

    abbrev node_binds : EventNode → Scope → Scope
    node_binds = fold-EventNode (Scope → Scope) (Scope → Scope) (bind.node_step table outer) (bind.expr_step table outer)

    ForNode : EventNode → Type 0
    ForNode n = (spot : Spot) → PartTies (node_of n spot) (node_binds n)

    abbrev N : Type 0
    N = (n : EventNode) × ForNode n

    abbrev trees : EventNode-F N X → EventNode-F EventNode EventExpr
    trees y = map-EventNode N X EventNode EventExpr (λ e. e.0) (λ e. e.0) y

    node_ties : (y : EventNode-F N X) (spot : Spot) → PartTies (node_step table scope inner (map-EventNode EventNode EventExpr (Spot → Part) Part node_of (part_of table scope inner) (trees y)) spot) (bind.node_step table outer (map-EventNode EventNode EventExpr (Scope → Scope) (Scope → Scope) node_binds (binds table outer) (trees y)))
    unfolding followed_read followed_behind or_read xor_read and_read joined_behind all_read not_read group_read wait_read leaf_template_read
    node_ties (event.Followed first rest) spot = record { ties = λ may under left c s h. chain_ties term.Followed first rest (λ u t. each_behind (length u.names) under left (parts rest) t) (λ c u t j. through_ties (behind_step (length u.names) under left) (λ y done c v i. step_ties false under (left ++ drop (length u.names) v.names) y done c v i) rest [] c t j) false under left c s h }
    node_ties (event.Or first rest) spot = record { ties = λ may under left c s h. chain_ties term.Or first rest (λ u t. each false under left (parts rest) t) (λ c u t j. through_ties (each_step false under left) (step_ties false under left) rest [] c t j) false under left c s h }
    node_ties (event.Xor first rest) spot = record { ties = λ may under left c s h. chain_ties term.Xor first rest (λ u t. each false under left (parts rest) t) (λ c u t j. through_ties (each_step false under left) (step_ties false under left) rest [] c t j) false under left c s h }
    node_ties (event.And first rest) spot = record { ties = λ may under left c s h. chain_ties term.And first rest (λ u t. each true under left (parts rest) t) (λ c u t j. through_ties (each_step true under left) (step_ties true under left) rest [] c t j) (may_begin (parts rest)) under left c s h }
    node_ties (event.All x) spot = record { ties = λ may under left c s h. one_ties term.All x false under left c s h }
    node_ties (event.Not x) spot = record { ties = λ may under left c s h. thus_behind (Ties (binds table outer x.0 c)) (told spot (not_codes may)) ((part_of table scope inner x.0).reading false true left s >>= λ t u. went (term.Not t) u) (λ none. one_ties term.Not x false true left c s h) }
    node_ties (event.Group x limit) spot = record {
      ties = λ may under left c s h.
          let p = x.1 in
          let d = binds table outer x.0 c in
          thus_then (Ties c) (Ties d) (deadline_read spot limit s) (λ u t. (part_of table scope inner x.0).reading false under left t >>= λ y v. ended_read table scope inner y limit v) (from_same c s (deadline_read spot limit s) h (deadline_same spot limit s))
          (λ u t j. thus_then (Ties d) (Ties d) ((part_of table scope inner x.0).reading false under left t) (λ y v. ended_read table scope inner y limit v) (p.ties false under left c t j) (λ y v i. from_same d v (ended_read table scope inner y limit v) i (ended_same y limit v)));
    }
    node_ties (event.Wait d) spot = record { ties = λ may under left c s h. from_same c s (leaf_read spot s >>= λ x u. duration_read table scope inner d u >>= λ at v. went (term.Wait at) v) h (same_then s (leaf_read spot s) (λ x u. duration_read table scope inner d u >>= λ at v. went (term.Wait at) v) (same_leaf spot s) (λ x u. same_then u (duration_read table scope inner d u) (λ at v. went (term.Wait at) v) (same_duration table scope inner d u) (λ at v. same_went (term.Wait at) v v refl))) }
    node_ties (event.Template t) spot = record { ties = λ may under left c s h. let d = clauses_bind table outer t.event t.clauses c in thus_then (Ties d) (Ties d) (template_read table scope inner spot under left t s) (λ x u. went (term.Template x) u) (typed_ties (event_of table t.event) spot under left t c s h) (λ x u j. thus_went (Ties d) (term.Template x) u j) }

    node_case : (x : EventNode-F EventNode EventExpr) (y : EventNode-F N X) → trees y ≡ x → ForNode (roll-EventNode x)
    unfolding ForNode
    node_case x y is = subst (λ (z : EventNode-F EventNode EventExpr). ForNode (roll-EventNode z)) is (λ spot.
        subst (λ (f : Spot → Part). PartTies (f spot) (node_binds (roll-EventNode (trees y)))) (sym (fold-roll-EventNode (Spot → Part) Part (node_step table scope inner) (expr_step table scope inner) (trees y)))
        (subst (λ (f : Scope → Scope). PartTies (node_step table scope inner (map-EventNode EventNode EventExpr (Spot → Part) Part node_of (part_of table scope inner) (trees y)) spot) f) (sym (fold-roll-EventNode (Scope → Scope) (Scope → Scope) (bind.node_step table outer) (bind.expr_step table outer) (trees y)))
        (node_ties y spot)))

    abbrev expr_trees : EventExpr-F N X → EventExpr-F EventNode EventExpr
    expr_trees y = map-EventExpr N X EventNode EventExpr (λ e. e.0) (λ e. e.0) y

    abbrev ForExpr : EventExpr → Type 0
    ForExpr e = PartTies (part_of table scope inner e) (binds table outer e)

    expr_case : (x : EventExpr-F EventNode EventExpr) (y : EventExpr-F N X) → expr_trees y ≡ x → ForExpr (roll-EventExpr x)
    unfolding ForNode
    expr_case x y is = subst (λ (z : EventExpr-F EventNode EventExpr). ForExpr (roll-EventExpr z)) is
        (subst (λ (p : Part). PartTies p (binds table outer (roll-EventExpr (expr_trees y)))) (sym (fold-roll-EventExpr (Spot → Part) Part (node_step table scope inner) (expr_step table scope inner) (expr_trees y)))
        (subst (λ (f : Scope → Scope). PartTies (expr_step table scope inner (map-EventExpr EventNode EventExpr (Spot → Part) Part node_of (part_of table scope inner) (expr_trees y))) f) (sym (fold-roll-EventExpr (Scope → Scope) (Scope → Scope) (bind.node_step table outer) (bind.expr_step table outer) (expr_trees y)))
        (y.node.1 y.spot)))

    pub expr_ties : (e : EventExpr) → PartTies (part_of table scope inner e) (binds table outer e)
    expr_ties = ind-EventExpr ForNode ForExpr node_case expr_case

-- ---- the place of a name

-- the name behind others that aren't it stands for its place
pub place_meant : (n : ℕ) (xs : List Seen) (before : List (List ℕ)) (name : List ℕ) (more : List (List ℕ)) → AllByRecursion (λ (s : Seen). s.kind ≡ kind.Bound) xs → Numbered n xs → map (λ (y : Seen). y.name) xs ≡ (before ++ name ∷ []) ++ more → is_among before name ≡ false → (s : Seen) × (first_by (is_called name) xs ≡ Some s) × (s.number ≡ short (n + length before)) × (s.kind ≡ kind.Bound)
place_meant n [] [] name more all numbered are apart = absurd (cc)
place_meant n [] (b ∷ before) name more all numbered are apart = absurd (cc)
place_meant n (x ∷ xs) [] name more all numbered are apart =
    let e : x.name ≡ name = cc in
    (x, ap (λ (b : Bool). cond b (Some x) (first_by (is_called name) xs)) ((bytes_eq-Decides x.name name).1 e), (let z : n ≡ n + 0 = omega arith in numbered.0 ∙ ap short z), all.0)
place_meant n (x ∷ xs) (b ∷ before) name more all numbered are apart =
    let e : x.name ≡ b = cc in
    let rest : map (λ (y : Seen). y.name) xs ≡ (before ++ name ∷ []) ++ more = cc in
    let parts = or_parts (bytes_eq b name) (is_among before name) apart in
    let r = place_meant (n + 1) xs before name more all.1 numbered.1 rest parts.1 in
    (r.0, ap (λ (c : Bool). cond c (Some x) (first_by (is_called name) xs)) (ap (λ (l : List ℕ). bytes_eq l name) e ∙ parts.0) ∙ r.1, (let z : n + 1 + length before ≡ n + suc (length before) = omega arith in r.2 ∙ ap short z), r.3)
