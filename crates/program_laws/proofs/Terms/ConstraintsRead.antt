-- Constraints without faults are of the fields that they stand for.
use Rattle.std.proofs.Common.{◌≡◌, ◌&&◌, ◌||◌, ◌∷◌, ◌++◌}
use Rattle.program_laws.proofs.Common.{ℕ, min, Bool, true, List, [], map, length, Option, Some, None, slice_get, refl, ap, ◌∙◌, arith, list_all, and_from, slice_get_within, list_all-append, Field, EventShape, Shape, Constraint, ConstraintNode, Range, Comparison, Expr, Operand, stands, Names, if_known, field_shape, shape_in, operand_so, constraint_so, Scope, Table, told, KnowsTable, KnowsNamed, KnowsType, Done, Sofar, is_named, number_of, missing_code, field_codes, none_done, lies, missing_read, found_read, numbered_read, constraint_read, constraint_step, constraints_read, went, any_of, expr_names, range_names, constraint_names}
use Rattle.epl_tree.specs.declared.event.ConstraintNode.TheVariants as node
use Rattle.epl_tree.specs.declared.expression.Comparison.TheVariants as comparison
use Rattle.typed_program.specs.declared.term.Constraint.{Constraint as Typed}
use Rattle.typed_program.specs.declared.term.ConstraintNode.{ConstraintNode as TypedNode}
use Rattle.typed_program.specs.declared.term.ConstraintNode.TheVariants as made
use Rattle.typed_program.specs.Expressions.{fields_at}
use Rattle.typed_program.specs.Terms.{Around, node_fits}
use Rattle.listener_check.specs.Constraints.{compares_read, lies_read, asked_read, placed_read}
use Rattle.listener_check.specs.Limits.{short}
use Rattle.listener_check.specs.Operands.{operand_read}
use Rattle.listener_check.specs.Went.{through, ◌>>=◌}
use Rattle.stmt_check.specs.Captures.{constraint_node}
use Rattle.program_laws.proofs.Exprs.Arguments.{every_at}
use Rattle.program_laws.proofs.Exprs.Knowing.{knows_left, knows_right, knows_first, knows_rest}
use Rattle.program_laws.proofs.Shapes.Lists.{all_at, no_told}
use Rattle.program_laws.proofs.Terms.OperandsRead.{operand_thus}
use Rattle.program_laws.proofs.Terms.States.{State, Made, around, fit_on, extends_same, extends_on}
use Rattle.program_laws.proofs.Terms.Thus.{Thus, thus_went, thus_then, thus_behind}
use Rattle.program_laws.proofs.Terms.Valued.{So}

module _ (table : Table) (names : Names) (scope inner : Scope) (k : KnowsTable table names scope) (left : List (List ℕ)) (b : Scope) where
  abbrev Operate : Shape → Operand → Around → Bool
  Operate s = So table names scope inner k s

  abbrev NodeSo : Shape → TypedNode → Around → Bool
  NodeSo s n a = node_fits a s n

  compares_thus : (s : Shape) → stands names.types s ≡ true → (c : Comparison) (e : Expr) → KnowsNamed names scope (expr_names e) → (at : Sofar) → State names scope inner b at → Thus (Made names scope inner (NodeSo s) b at) (compares_read table scope inner left s c e at)
  unfolding compares_read
  compares_thus s there c e named at h =
      thus_then (Made names scope inner (Operate s) b at) (Made names scope inner (NodeSo s) b at) (operand_read table scope inner left s e at) (λ x t. went (made.Compares c x) t)
      (operand_thus table names scope inner k s there left e named b at h)
      (λ x t m. thus_went (Made names scope inner (NodeSo s) b at) (made.Compares c x) t (record { state = m.state; grows = m.grows; fit = m.fit }))

  lies_thus : (s : Shape) → stands names.types s ≡ true → (r : Range) → KnowsNamed names scope (range_names r) → (at : Sofar) → State names scope inner b at → Thus (Made names scope inner (NodeSo s) b at) (lies_read table scope inner left s r at)
  unfolding lies_read
  lies_thus s there r named at h =
      thus_then (Made names scope inner (Operate s) b at) (Made names scope inner (NodeSo s) b at) (operand_read table scope inner left s r.low.bound at) (λ low t. operand_read table scope inner left s r.high.bound t >>= λ high u. went (lies table scope inner left r low high) u)
      (operand_thus table names scope inner k s there left r.low.bound (knows_left names scope (expr_names r.low.bound) (expr_names r.high.bound) named) b at h)
      (λ low t m. thus_then (Made names scope inner (Operate s) b t) (Made names scope inner (NodeSo s) b at) (operand_read table scope inner left s r.high.bound t) (λ high u. went (lies table scope inner left r low high) u)
      (operand_thus table names scope inner k s there left r.high.bound (knows_right names scope (expr_names r.low.bound) (expr_names r.high.bound) named) b t m.state)
      (λ high u q. thus_went (Made names scope inner (NodeSo s) b at) (lies table scope inner left r low high) u (record {
        state = q.state;
        grows = extends_on at t u m.grows q.grows;
        fit = λ z more. and_from (operand_so (around names scope inner (u.operands ++ more)) s low) (operand_so (around names scope inner (u.operands ++ more)) s high) (fit_on names scope inner (Operate s) low t u (m.fit z) q.grows more) (q.fit z more);
      })))

  asked_thus : (s : Shape) → stands names.types s ≡ true → (n : ConstraintNode) → KnowsNamed names scope (constraint_node n) → (at : Sofar) → State names scope inner b at → Thus (Made names scope inner (NodeSo s) b at) (asked_read table scope inner left s n at)
  unfolding asked_read
  asked_thus s there node.Any of_names at h = thus_went (Made names scope inner (NodeSo s) b at) made.Any at (record { state = h; grows = extends_same at at refl; fit = λ z more. refl })
  asked_thus s there (node.Equals e) known at h = compares_thus s there comparison.Equal e known at h
  asked_thus s there (node.Compares c e) known at h = compares_thus s there c e known at h
  asked_thus s there (node.Lies r) known at h = lies_thus s there r known at h
  asked_thus s there (node.NamedCompares name c e) known at h = compares_thus s there c e known at h
  asked_thus s there (node.NamedLies name r) known at h = lies_thus s there r known at h

  module _ (n : ℕ) (event : EventShape) (there : slice_get names.types n ≡ Some event) where
    abbrev pub ConstraintSo : Typed → Around → Bool
    ConstraintSo c a = constraint_so a n c

    known : KnowsType names.types event
    known = all_at (KnowsType names.types) names.types n event k.kinds there

    field_is : (number : ℕ) (f : Field) → slice_get event.fields number ≡ Some f → field_shape names.types n (short number) ≡ Some f.shape
    field_is number f at =
        let type = known in let few = type.few in
        let within = slice_get_within event.fields number f at in
        let small : min 65535 number ≡ number = omega arith in
        ap (λ (i : ℕ). field_shape names.types n i) small ∙ ap (λ (o : Option EventShape). shape_in (slice_get (fields_at o) number)) there ∙ ap shape_in at

    placed_thus : (number : ℕ) (f : Field) (done : List Typed) (named : Bool) (c : Constraint) → KnowsNamed names scope (constraint_names c) → (at : Sofar) → slice_get event.fields number ≡ Some f → State names scope inner b at → Thus (Made names scope inner ConstraintSo b at) (placed_read table scope inner left number f.shape done named c at)
    unfolding placed_read around
    placed_thus number f done named c of_names at found h =
        let type = known in
        thus_behind (Made names scope inner ConstraintSo b at) (told c.spot (field_codes number f.shape done named c.node)) (asked_read table scope inner left f.shape c.node at >>= λ x t. went (record { field = short number; node = x }) t) (λ none.
        thus_then (Made names scope inner (NodeSo f.shape) b at) (Made names scope inner ConstraintSo b at) (asked_read table scope inner left f.shape c.node at) (λ x t. went (record { field = short number; node = x }) t)
        (asked_thus f.shape (every_at (λ g. stands names.types g.shape) event.fields number f type.fields found) c.node of_names at h)
        (λ x t m. thus_went (Made names scope inner ConstraintSo b at) (record { field = short number; node = x }) t (record {
          state = m.state;
          grows = m.grows;
          fit = λ z more. ap (λ (o : Option Shape). if_known (λ s. node_fits (around names scope inner (t.operands ++ more)) s x) o) (field_is number f found) ∙ m.fit z more;
        })))

    missing_thus : (c : Constraint) (at : Sofar) → Thus (Made names scope inner ConstraintSo b at) (missing_read table scope inner left c at)
    missing_thus c at = thus_behind (Made names scope inner ConstraintSo b at) (told c.spot (missing_code c.node ∷ [])) (went (record { field = 0; node = made.Any }) at) (λ none. absurd (let e = no_told c.spot (missing_code c.node ∷ []) none in cc))

    found_thus : (number : ℕ) (o : Option Field) (done : List Typed) (named : Bool) (c : Constraint) → KnowsNamed names scope (constraint_names c) → (at : Sofar) → slice_get event.fields number ≡ o → State names scope inner b at → Thus (Made names scope inner ConstraintSo b at) (found_read table scope inner left number o done named c at)
    found_thus number (Some f) done named c of_names at is h = placed_thus number f done named c of_names at is h
    found_thus number None done named c of_names at is h = missing_thus c at

    numbered_thus : (o : Option ℕ) (done : List Typed) (named : Bool) (c : Constraint) → KnowsNamed names scope (constraint_names c) → (at : Sofar) → State names scope inner b at → Thus (Made names scope inner ConstraintSo b at) (numbered_read table scope inner left event.fields o done named c at)
    numbered_thus (Some number) done named c of_names at h = found_thus number (slice_get event.fields number) done named c of_names at refl h
    numbered_thus None done named c of_names at h = missing_thus c at

    constraint_thus : (done : List Typed) (named : Bool) (c : Constraint) → KnowsNamed names scope (constraint_names c) → (at : Sofar) → State names scope inner b at → Thus (Made names scope inner ConstraintSo b at) (constraint_read table scope inner left event.fields done named c at)
    constraint_thus done named c of_names at h = numbered_thus (number_of event.fields (length done) c.node) done named c of_names at h

    abbrev pub DoneSo : Done → Around → Bool
    DoneSo d a = list_all (constraint_so a n) d.constraints

    step_thus : (start : Sofar) (done : Done) (c : Constraint) → KnowsNamed names scope (constraint_names c) → (at : Sofar) → Made names scope inner DoneSo b start done at → Thus (Made names scope inner DoneSo b start) (constraint_step table scope inner left event.fields done c at)
    step_thus start done c of_names at i =
        thus_then (Made names scope inner ConstraintSo b at) (Made names scope inner DoneSo b start) (constraint_read table scope inner left event.fields done.constraints done.named c at) (λ x t. went (record { constraints = done.constraints ++ x ∷ []; named = done.named || is_named c.node }) t)
        (constraint_thus done.constraints done.named c of_names at i.state)
        (λ x t m. thus_went (Made names scope inner DoneSo b start) (record { constraints = done.constraints ++ x ∷ []; named = done.named || is_named c.node }) t (record {
          state = m.state;
          grows = extends_on start at t i.grows m.grows;
          fit = λ z more. let a = around names scope inner (t.operands ++ more) in
              list_all-append (constraint_so a n) done.constraints (x ∷ [])
              ∙ and_from (list_all (constraint_so a n) done.constraints) (constraint_so a n x && true) (fit_on names scope inner DoneSo done at t (i.fit z) m.grows more) (and_from (constraint_so a n x) true (m.fit z more) refl);
        }))

    steps_thus : (start : Sofar) (done : Done) (cs : List Constraint) → KnowsNamed names scope (any_of (map constraint_names cs)) → (at : Sofar) → Made names scope inner DoneSo b start done at → Thus (Made names scope inner DoneSo b start) (through (constraint_step table scope inner left event.fields) done cs at)
    unfolding through
    steps_thus start done [] of_names at i = thus_went (Made names scope inner DoneSo b start) done at i
    steps_thus start done (c ∷ cs) of_names at i =
        thus_then (Made names scope inner DoneSo b start) (Made names scope inner DoneSo b start) (constraint_step table scope inner left event.fields done c at) (λ d t. through (constraint_step table scope inner left event.fields) d cs t)
        (step_thus start done c (knows_first names scope (constraint_names c) (map constraint_names cs) of_names) at i)
        (λ d t j. steps_thus start d cs (knows_rest names scope (constraint_names c) (map constraint_names cs) of_names) t j)

    -- for every list of constraints
    pub constraints_thus : (cs : List Constraint) → KnowsNamed names scope (any_of (map constraint_names cs)) → (at : Sofar) → State names scope inner b at → Thus (Made names scope inner DoneSo b at) (constraints_read table scope inner left event.fields cs at)
    constraints_thus cs of_names at h = steps_thus at none_done cs of_names at (record { state = h; grows = extends_same at at refl; fit = λ z more. refl })
