-- Forms that aren't built inside of event expressions: those in the operands of constraints and in durations, in the order of
-- the source.
use Rattle.std.specs.Prelude.{[], ◌++◌, map, Option, Some, None}
use Rattle.epl_tree.specs.declared.event.Constraint.{Constraint}
use Rattle.epl_tree.specs.declared.event.ConstraintNode.{ConstraintNode}
use Rattle.epl_tree.specs.declared.event.ConstraintNode.TheVariants as constraint
use Rattle.epl_tree.specs.declared.event.Duration.{Duration}
use Rattle.epl_tree.specs.declared.event.DurationNode.{DurationNode}
use Rattle.epl_tree.specs.declared.event.DurationNode.TheVariants as duration
use Rattle.epl_tree.specs.declared.event.EventExpr.{EventExpr, EventExpr-F, fold-EventExpr}
use Rattle.epl_tree.specs.declared.event.EventNode.{EventNode-F}
use Rattle.epl_tree.specs.declared.event.EventNode.TheOpen as node
use Rattle.epl_tree.specs.declared.event.Range.{Range}
use Rattle.epl_tree.specs.declared.event.Template.{Template}
use Rattle.epl_tree.specs.declared.event.TemplateClause.{TemplateClause}
use Rattle.epl_tree.specs.declared.event.TemplateClause.TheVariants as clause
use Rattle.built_forms.specs.Rows.{joined}
use Rattle.built_forms.specs.Expressions.{Spots, missing_in}

-- the lower end, and then the upper one
abbrev pub missing_in_range : Range → Spots
missing_in_range range = missing_in range.low.bound ++ missing_in range.high.bound

-- what a constraint asks
abbrev pub constraint_node : ConstraintNode → Spots
constraint_node constraint.Any = []
constraint_node (constraint.Equals operand) = missing_in operand
constraint_node (constraint.Compares c operand) = missing_in operand
constraint_node (constraint.Lies range) = missing_in_range range
constraint_node (constraint.NamedCompares field c operand) = missing_in operand
constraint_node (constraint.NamedLies field range) = missing_in_range range

abbrev pub missing_in_constraint : Constraint → Spots
missing_in_constraint c = constraint_node c.node

-- what is written for a duration
abbrev pub duration_node : DurationNode → Spots
duration_node (duration.Decimal text) = []
duration_node (duration.Seconds operand) = missing_in operand

abbrev pub missing_in_duration : Duration → Spots
missing_in_duration d = duration_node d.node

-- of a duration that may be left out
abbrev pub missing_in_deadline : Option Duration → Spots
missing_in_deadline None = []
missing_in_deadline (Some d) = missing_in_duration d

abbrev pub missing_in_clause : TemplateClause → Spots
missing_in_clause (clause.As name) = []
missing_in_clause (clause.Within d) = missing_in_duration d

-- the constraints, and then what follows them
abbrev pub missing_in_template : Template → Spots
missing_in_template t = joined (map missing_in_constraint t.constraints) ++ joined (map missing_in_clause t.clauses)

-- the parts of an event expression in their order
abbrev pub event_node : EventNode-F Spots Spots → Spots
event_node (node.Followed first rest) = first ++ joined rest
event_node (node.Or first rest) = first ++ joined rest
event_node (node.Xor first rest) = first ++ joined rest
event_node (node.And first rest) = first ++ joined rest
event_node (node.All operand) = operand
event_node (node.Not operand) = operand
event_node (node.Group inner within) = inner ++ missing_in_deadline within
event_node (node.Wait d) = missing_in_duration d
event_node (node.Template t) = missing_in_template t

abbrev pub event_step : EventExpr-F Spots Spots → Spots
event_step e = e.node

-- the forms in an event expression that aren't built
abbrev pub missing_in_event : EventExpr → Spots
missing_in_event = fold-EventExpr Spots Spots event_node event_step
