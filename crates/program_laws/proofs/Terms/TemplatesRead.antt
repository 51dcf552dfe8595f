-- A template without faults has its shape, and binds its name to its event.
use Rattle.std.proofs.Common.{◌≡◌, ◌<◌, ◌&&◌, ◌∷◌, ◌++◌}
use Rattle.program_laws.proofs.Common.{ℕ, Bool, true, List, [], map, length, Option, Some, None, slice_get, refl, sym, ap, subst, ◌∙◌, arith, list_all, and_from, and_parts, Spot, Field, EventShape, Shape, Template, TemplateClause, TypedExpr, TemplateShape, same, Names, if_known, constraint_so, duration_so, Scope, Table, told, event_of, KnowsTable, KnowsNamed, Done, Sofar, Clauses, clause_binds, clauses_bind, constraints_read, fields_of, no_clauses, clauses_read, template_of, template_read, went, any_of, constraint_names, clause_names, template_names}
use Rattle.epl_values.specs.declared.shape.Shape.TheVariants as shape
use Rattle.epl_tree.specs.declared.event.TemplateClause.TheVariants as clause
use Rattle.typed_program.specs.declared.term.Duration.{Duration as Timed}
use Rattle.typed_program.specs.Terms.{Around, binds_so, is_there, template_so}
use Rattle.listener_check.specs.Durations.{duration_read}
use Rattle.listener_check.specs.Limits.{short, leaf_read}
use Rattle.listener_check.specs.Templates.{name_read, clause_read, parts_read, typed_read}
use Rattle.listener_check.specs.Went.{through, ◌>>=◌}
use Rattle.program_laws.proofs.Exprs.Alike.{same_self}
use Rattle.program_laws.proofs.Exprs.Calls.{event_numbered}
use Rattle.program_laws.proofs.Exprs.Knowing.{knows_left, knows_right, knows_first, knows_rest}
use Rattle.program_laws.proofs.Shapes.Lists.{slice_some, no_told}
use Rattle.program_laws.proofs.Terms.Binding.{Grows, grows_on, clause_grows, Bound, name_thus}
use Rattle.program_laws.proofs.Terms.ConstraintsRead.{DoneSo, constraints_thus}
use Rattle.program_laws.proofs.Terms.DurationsRead.{Lasts, duration_thus}
use Rattle.program_laws.proofs.Terms.States.{Settled, State, Made, Kept, Extends, around, fit_on, leaf_thus, extends_same, extends_on}
use Rattle.program_laws.proofs.Terms.Thus.{Thus, thus_went, thus_then, thus_behind, thus_weaker}

module _ (names : Names) (scope inner : Scope) where
  -- a part that is as it should be where all the names that are bound are known
  pub record Reads {A : Type 0} (good : A → Around → Bool) (s : Sofar) (b : Scope) (x : A) (t : Sofar) : Type 0 where
    pub state : State names scope inner b t
    pub grows : Extends s t
    pub fit : Settled names scope inner → Grows b inner → (more : List TypedExpr) → good x (around names scope inner (t.operands ++ more)) ≡ true

module _ (table : Table) (names : Names) (scope inner : Scope) (k : KnowsTable table names scope) where
  abbrev outer : ℕ
  outer = length scope.names

  module _ (name : List ℕ) (n : ℕ) (is : event_of table name ≡ Some n) (event : EventShape) (there : slice_get names.types (short n) ≡ Some event) where
    abbrev ClausesSo : Clauses → Around → Bool
    ClausesSo c a = binds_so a (short n) c.binds && duration_so a c.within

    below : n < length names.types
    below = event_numbered table names scope k n name is

    clause_thus : (under : Bool) (start : Sofar) (b : Scope) (made : Clauses) (c : TemplateClause) → KnowsNamed names scope (clause_names c) → (t : Sofar) → Reads names scope inner ClausesSo start b made t → Thus (Reads names scope inner ClausesSo start (clause_binds table outer name c b)) (clause_read table scope inner under made c t)
    unfolding clause_read around
    clause_thus under start b made (clause.As text) named t m =
        let c = clause_binds table outer name (clause.As text) b in
        thus_then (Bound table names scope inner (short n) b t c) (Reads names scope inner ClausesSo start c) (name_read scope under made.binds text t) (λ place u. went (record made { binds = Some place }) u)
        (name_thus table names scope inner under made.binds text name n b t k.few below is m.state)
        (λ place u q. thus_went (Reads names scope inner ClausesSo start c) (record made { binds = Some place }) u (record {
          state = q.state;
          grows = extends_on start t u m.grows q.grows;
          fit = λ z g more.
              let before = grows_on b c inner (clause_grows table outer name (clause.As text) b) g in
              and_from (binds_so (around names scope inner (u.operands ++ more)) (short n) (Some place)) (duration_so (around names scope inner (u.operands ++ more)) made.within)
              (ap (λ (o : Option Shape). if_known (same (shape.Event (short n))) o) (q.at g) ∙ same_self (shape.Event (short n)))
              (fit_on names scope inner (λ (w : Option Timed) (a : Around). duration_so a w) made.within t u (λ rest. (and_parts (binds_so (around names scope inner (t.operands ++ rest)) (short n) made.binds) (duration_so (around names scope inner (t.operands ++ rest)) made.within) (m.fit z before rest)).1) q.grows more);
        }))
    clause_thus under start b made (clause.Within duration) named t m =
        thus_then (Made names scope inner (Lasts table names scope inner k) b t) (Reads names scope inner ClausesSo start b) (duration_read table scope inner duration t) (λ at u. went (record made { within = Some at }) u)
        (duration_thus table names scope inner k duration named b t m.state)
        (λ at u q. thus_went (Reads names scope inner ClausesSo start b) (record made { within = Some at }) u (record {
          state = q.state;
          grows = extends_on start t u m.grows q.grows;
          fit = λ z g more. and_from (binds_so (around names scope inner (u.operands ++ more)) (short n) made.binds) (duration_so (around names scope inner (u.operands ++ more)) (Some at))
              (fit_on names scope inner (λ (w : Option ℕ) (a : Around). binds_so a (short n) w) made.binds t u (λ rest. (and_parts (binds_so (around names scope inner (t.operands ++ rest)) (short n) made.binds) (duration_so (around names scope inner (t.operands ++ rest)) made.within) (m.fit z g rest)).0) q.grows more)
              (q.fit z more);
        }))

    clauses_thus : (under : Bool) (start : Sofar) (cs : List TemplateClause) → KnowsNamed names scope (any_of (map clause_names cs)) → (b : Scope) (made : Clauses) (t : Sofar) → Reads names scope inner ClausesSo start b made t → Thus (Reads names scope inner ClausesSo start (clauses_bind table outer name cs b)) (through (clause_read table scope inner under) made cs t)
    unfolding through
    clauses_thus under start [] named b made t m = thus_went (Reads names scope inner ClausesSo start b) made t m
    clauses_thus under start (c ∷ cs) named b made t m =
        thus_then (Reads names scope inner ClausesSo start (clause_binds table outer name c b)) (Reads names scope inner ClausesSo start (clauses_bind table outer name cs (clause_binds table outer name c b))) (clause_read table scope inner under made c t) (λ next u. through (clause_read table scope inner under) next cs u)
        (clause_thus under start b made c (knows_first names scope (clause_names c) (map clause_names cs) named) t m)
        (λ next u q. clauses_thus under start cs (knows_rest names scope (clause_names c) (map clause_names cs) named) (clause_binds table outer name c b) next u q)

    abbrev TemplateSo : TemplateShape → Around → Bool
    TemplateSo t a = template_so a t

    template_made : (t : Template) (done : Done) (made : Clauses) (a : Around) → a.types ≡ names.types → list_all (constraint_so a (short n)) done.constraints ≡ true → ClausesSo made a ≡ true → template_so a (template_of table scope inner (short n) t done.constraints made) ≡ true
    template_made t done made a types c d =
        let p = and_parts (binds_so a (short n) made.binds) (duration_so a made.within) d in
        let known : is_there a.types (short n) ≡ true = ap (λ (l : List EventShape). is_there l (short n)) types ∙ ap (λ (o : Option EventShape). if_known (λ e. true) o) there in
        and_from (is_there a.types (short n) && list_all (constraint_so a (short n)) done.constraints && binds_so a (short n) made.binds) (duration_so a made.within)
        (and_from (is_there a.types (short n) && list_all (constraint_so a (short n)) done.constraints) (binds_so a (short n) made.binds) (and_from (is_there a.types (short n)) (list_all (constraint_so a (short n)) done.constraints) known c) p.0)
        p.1

    around_types : (ops : List TypedExpr) → (around names scope inner ops).types ≡ names.types
    unfolding around
    around_types ops = refl

    parts_thus : (under : Bool) (left : List (List ℕ)) (t : Template) → KnowsNamed names scope (template_names t) → (b : Scope) (s : Sofar) → t.event ≡ name → State names scope inner b s → Thus (Reads names scope inner TemplateSo s (clauses_bind table outer name t.clauses b)) (parts_read table scope inner event.fields (short n) under left t s)
    unfolding parts_read
    parts_thus under left t of_names b s named h =
        let c = clauses_bind table outer name t.clauses b in
        thus_then (Made names scope inner (DoneSo table names scope inner k left b (short n) event there) b s) (Reads names scope inner TemplateSo s c) (constraints_read table scope inner left event.fields t.constraints s) (λ done u. clauses_read table scope inner under t.clauses u >>= λ made v. went (template_of table scope inner (short n) t done.constraints made) v)
        (constraints_thus table names scope inner k left b (short n) event there t.constraints (knows_left names scope (any_of (map constraint_names t.constraints)) (any_of (map clause_names t.clauses)) of_names) s h)
        (λ done u m. thus_then (Reads names scope inner ClausesSo u c) (Reads names scope inner TemplateSo s c) (clauses_read table scope inner under t.clauses u) (λ made v. went (template_of table scope inner (short n) t done.constraints made) v)
        (clauses_thus under u t.clauses (knows_right names scope (any_of (map constraint_names t.constraints)) (any_of (map clause_names t.clauses)) of_names) b no_clauses u (record { state = m.state; grows = extends_same u u refl; fit = λ z g more. refl }))
        (λ made v q. thus_went (Reads names scope inner TemplateSo s c) (template_of table scope inner (short n) t done.constraints made) v (record {
          state = q.state;
          grows = extends_on s u v m.grows q.grows;
          fit = λ z g more. let a = around names scope inner (v.operands ++ more) in
              template_made t done made a (around_types (v.operands ++ more)) (fit_on names scope inner (DoneSo table names scope inner k left b (short n) event there) done u v (m.fit z) q.grows more) (q.fit z g more);
        })))

  abbrev pub TemplateGood : TemplateShape → Around → Bool
  TemplateGood t a = template_so a t

  typed_thus : (o : Option ℕ) (spot : Spot) (under : Bool) (left : List (List ℕ)) (t : Template) → KnowsNamed names scope (template_names t) → (b : Scope) (s : Sofar) → event_of table t.event ≡ o → State names scope inner b s → Thus (Reads names scope inner TemplateGood s (clauses_bind table outer t.event t.clauses b)) (typed_read table scope inner o spot under left t s)
  unfolding typed_read
  typed_thus None spot under left t of_names b s is h = thus_behind (Reads names scope inner TemplateGood s (clauses_bind table outer t.event t.clauses b)) (told spot (2 ∷ [])) (went (template_of table scope inner 0 t [] no_clauses) s) (λ none. absurd (let e = no_told spot (2 ∷ []) none in cc))
  typed_thus (Some n) spot under left t of_names b s is h =
      let below = event_numbered table names scope k n t.event is in
      let few = k.few in
      let small : short n ≡ n = omega arith in
      let event = slice_some names.types n below in
      let fields_is : fields_of (slice_get table.types n) ≡ event.0.fields = ap (λ (types : List EventShape). fields_of (slice_get types n)) k.types ∙ ap fields_of event.1 in
      let there : slice_get names.types (short n) ≡ Some event.0 = ap (λ (m : ℕ). slice_get names.types m) small ∙ event.1 in
      let c = clauses_bind table outer t.event t.clauses b in
      thus_then (λ u v. Kept names scope inner b s v) (Reads names scope inner TemplateGood s c) (leaf_read spot s) (λ u v. parts_read table scope inner (fields_of (slice_get table.types n)) (short n) under left t v)
      (leaf_thus names scope inner spot b s h)
      (λ u v q. subst (λ (fields : List Field). Thus (Reads names scope inner TemplateGood s c) (parts_read table scope inner fields (short n) under left t v)) (sym fields_is)
      (thus_weaker (Reads names scope inner TemplateGood v c) (Reads names scope inner TemplateGood s c) (parts_read table scope inner event.0.fields (short n) under left t v)
      (parts_thus t.event n is event.0 there under left t of_names b v refl q.state)
      (λ x w m. record { state = m.state; grows = extends_on s v w q.grows m.grows; fit = m.fit })))

  -- for every template
  pub template_thus : (spot : Spot) (under : Bool) (left : List (List ℕ)) (t : Template) → KnowsNamed names scope (template_names t) → (b : Scope) (s : Sofar) → State names scope inner b s → Thus (Reads names scope inner TemplateGood s (clauses_bind table outer t.event t.clauses b)) (template_read table scope inner spot under left t s)
  template_thus spot under left t of_names b s h = typed_thus (event_of table t.event) spot under left t of_names b s refl h
